-- The manual page.
use Rattle.std.specs.Prelude.{◌≡◌, ℕ, Bool, true, false, not, Option, Some, None, List, [], ◌∷◌, ◌++◌, codes, encode_utf8, filter, option_map, unwrap_or}
use Rattle.clap.specs.Simple.{is_positional}
use Rattle.clap.specs.Words.{BuildsTo, KeepsNames, Text, args_of, rule_of}
use Rattle.clap.specs.declared.builder.arg.Arg.{Arg}
use Rattle.clap.specs.declared.builder.command.Command.{Command}
use Rattle.clap.specs.declared.builder.command.Command.TheViews.{out-Command}
use Rattle.mq_manual.specs.Roff.{bold, italic, plain_line, request}

-- ---- Arguments

abbrev pub short_tag : ℕ → Text
short_tag character = bold (codes "-" ++ encode_utf8 character)

abbrev pub long_tag : Text → Text
long_tag name = bold (codes "--" ++ name)

-- the names of an argument
abbrev pub tag : Option ℕ → Option Text → Text
tag (Some short) (Some long) = short_tag short ++ (codes ", " ++ long_tag long)
tag (Some short) None = short_tag short
tag None (Some long) = long_tag long
tag None None = []

abbrev pub help_of : Arg → Text
help_of arg = unwrap_or (option_map (λ help. help.now) arg.help) []

-- The entry of an argument: its names, its value and its help. clap does not say how it writes the
-- value.
pub record IsEntry (arg : Arg) (text : Text) : Type 0 where
  pub value : Text
  pub text_is : text ≡ codes ".TP\n" ++ (tag (rule_of arg).short (rule_of arg).long
      ++ (italic value ++ (codes "\n" ++ plain_line (help_of arg))))

-- the entries of arguments, in order
abbrev pub AreEntries : List Arg → Text → Type 0
AreEntries [] text = text ≡ []
AreEntries (arg ∷ args) text =
    (entry : Text) × (rest : Text) × IsEntry arg entry × AreEntries args rest
    × (text ≡ entry ++ rest)

-- the arguments of a command without names, or those with names
abbrev pub is_listed : Bool → Arg → Bool
is_listed true arg = is_positional (rule_of arg)
is_listed false arg = not (is_positional (rule_of arg))

abbrev pub HasEntries : Bool → Command → Text → Type 0
HasEntries positional command text = AreEntries (filter (is_listed positional) (args_of command)) text

-- ---- Commands

-- A command as clap completes it for its usage and its help.
pub record IsCompleted (command complete : Command) : Type 0 where
  pub builds : BuildsTo command complete
  pub names : KeepsNames command complete

abbrev pub about_of : Command → Text
about_of command = unwrap_or (option_map (λ about. about.now) (out-Command command).about) []

-- The section of a command. clap does not say how it writes the usage, and the end of the help.
pub record IsSection (command : Command) (text : Text) : Type 0 where
  pub complete : Command
  pub completed : IsCompleted command complete
  pub usage : Text
  pub words : Text
  pub are_words : HasEntries true complete words
  pub options : Text
  pub are_options : HasEntries false complete options
  pub end : Text
  pub text_is : text ≡ request (codes "SS") usage
      ++ (plain_line (about_of complete) ++ (words ++ (options ++ end)))

-- the sections of commands, in order
abbrev pub AreSections : List Command → Text → Type 0
AreSections [] text = text ≡ []
AreSections (command ∷ commands) text =
    (section : Text) × (rest : Text) × IsSection command section × AreSections commands rest
    × (text ≡ section ++ rest)

-- The page has a section for each command, after a front and before the notes. The front ends with
-- the options of the program.
pub record IsPage (program : Command) (commands : List Command) (text : Text) : Type 0 where
  pub complete : Command
  pub completed : IsCompleted program complete
  pub front : Text
  pub options : Text
  pub are_options : HasEntries false complete options
  pub sections : Text
  pub are_sections : AreSections commands sections
  pub notes : Text
  pub text_is : text ≡ front ++ (codes ".SH OPTIONS\n" ++ (options
      ++ (codes ".SH COMMANDS\n" ++ (sections ++ (codes ".SH NOTES\n" ++ notes)))))
