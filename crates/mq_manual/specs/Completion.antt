-- The script that completes commands and options in bash.
use Rattle.std.specs.Prelude.{◌≡◌, ◌==◌, ℕ, Bool, true, false, if◌then◌else◌, nat_lt, Option, Some, None, List, [], ◌∷◌, ◌++◌, length, codes, encode_utf8}
use Rattle.std.specs.List.{after_first, flat_map, list_any, position_or_len}
use Rattle.std.specs.Str.{trim_start}
use Rattle.clap.specs.Simple.{is_positional}
use Rattle.clap.specs.Words.{Rule, Shape, Text, app_of, built, is_buildable, shape_of}
use Rattle.clap.specs.declared.builder.command.Command.{Command}
use Rattle.mq_manual.specs.declared.completion.TheConstants.{END, SHELLS, START}

-- ---- Names

-- the names of an option, each after a separator
abbrev pub short_name : Text → Option ℕ → Text
short_name separator None = []
short_name separator (Some character) = separator ++ (codes "-" ++ encode_utf8 character)

abbrev pub long_name : Text → Option Text → Text
long_name separator None = []
long_name separator (Some name) = separator ++ (codes "--" ++ name)

abbrev pub option_names : Text → Rule → Text
option_names separator option = short_name separator option.short ++ long_name separator option.long

-- the names of a command's options, each after a space
abbrev pub options : Shape → Text
options command = flat_map (option_names (codes " ")) command.rules

abbrev pub is_space : ℕ → Bool
is_space byte = byte == 32

-- the name of a command without that of its program
abbrev pub own_name : Text → Text
own_name name =
    if nat_lt (position_or_len is_space name) (length name) then after_first is_space name else name

-- the names of commands, each after a space
abbrev pub spaced_name : Command → Text
spaced_name command = codes " " ++ own_name (shape_of command).name

abbrev pub spaced_names : List Command → Text
spaced_names commands = flat_map spaced_name commands

-- ---- Commands

-- A command as clap completes it, with options such as `--help`. If values of its options may begin
-- with `-`, clap does not name the completed command.
abbrev pub Completes : Command → Shape → Type 0
Completes command complete =
    is_buildable (app_of command) ≡ true → complete ≡ (built (app_of command)).top

-- The words that are offered after a command. If it has an argument without a name, they are
-- offered only for a word that begins with `-`.
abbrev pub offer : Bool → Text → Text
offer true words = codes "        case $word in -*) words='" ++ (words ++ codes "' ;; esac\n")
offer false words = codes "        words='" ++ (words ++ codes "'\n")

-- The case of a command offers its options. Before that, `values` is for those that take a value.
abbrev pub case_text : Shape → Text → Text
case_text command values =
    codes "    *:" ++ (own_name command.name ++ (codes ")\n" ++ (values
    ++ (offer (list_any is_positional command.rules) (trim_start (options command))
    ++ codes "        ;;\n"))))

pub record IsCase (command : Command) (text : Text) : Type 0 where
  pub complete : Shape
  pub name : complete.name ≡ (shape_of command).name
  pub completes : Completes command complete
  pub values : Text
  pub text_is : text ≡ case_text complete values

-- the cases of commands, in order
abbrev pub AreCases : List Command → Text → Type 0
AreCases [] text = text ≡ []
AreCases (command ∷ commands) text =
    (case : Text) × (rest : Text) × IsCase command case × AreCases commands rest
    × (text ≡ case ++ rest)

-- ---- The script

-- The first word is `help`, a command or an option of the program.
abbrev pub first_line : Text → Text → Text
first_line commands own_options =
    codes "    1:*) words='help" ++ (commands ++ (own_options ++ codes "' ;;\n"))

-- The word after `help` is a command.
abbrev pub help_line : Text → Text
help_line commands = codes "    2:help) words='" ++ (commands ++ codes "' ;;\n")

-- the script of these names of commands, names of the program's options, and cases
abbrev pub script_text : Text → Text → Text → Text
script_text commands own_options cases =
    START.now ++ (first_line commands own_options
    ++ (help_line (trim_start commands) ++ (SHELLS.now ++ (cases ++ END.now))))

-- The script of a program and its commands. The words after a command are its options.
pub record IsScript (program : Command) (commands : List Command) (text : Text) : Type 0 where
  pub complete : Shape
  pub completes : Completes program complete
  pub cases : Text
  pub are_cases : AreCases commands cases
  pub text_is : text ≡ script_text (spaced_names commands) (options complete) cases
