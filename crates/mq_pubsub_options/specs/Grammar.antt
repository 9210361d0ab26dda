-- The command lines of `mqtt pub` and `mqtt sub`: their options.
use Rattle.std.specs.Prelude.{ℕ, ℤ, pos, true, false, List, [], ◌∷◌, Option, Some, None, codes}
use Rattle.std.specs.Int.{int_max, int_min}
use Rattle.clap.specs.Simple.{on_top}
use Rattle.clap.specs.Values.{signed_between}
use Rattle.clap.specs.Words.{App, Rule, Text, new_app, new_rule, with_rule}
use Rattle.clap.specs.declared.builder.action.ArgAction.TheVariants.{Append, Help, SetTrue}

-- an option that has these names: one with one letter, and one with more
abbrev pub named_rule : Text → Option ℕ → Option Text → Rule
named_rule id short long = record (new_rule id) { short = short; long = long }

-- the option that prints the help
abbrev pub help_rule : Rule → Rule
help_rule rule = record rule { action = Some Help }

-- an option with one text, which may begin with `-`
abbrev pub text_rule : Rule → Rule
text_rule rule = record rule { value_names = 1; is_simple = false }

-- the same with this name too
abbrev pub renamed_rule : Text → Rule → Rule
renamed_rule other rule = record (text_rule rule) { aliases = other ∷ [] }

-- an option with a text for each use
abbrev pub texts_rule : Rule → Rule
texts_rule rule = record (text_rule rule) { action = Some Append }

-- an option with a number of 32 bits between these
abbrev pub number_rule : ℤ → ℤ → Rule → Rule
number_rule least most rule =
    record rule {
      value_names = 1;
      parser = Some (signed_between (int_max (pos 0) least) (int_min (pos 4294967295) most));
    }

-- an option without a value
abbrev pub flag_rule : Rule → Rule
flag_rule rule = record rule { action = Some SetTrue }

-- ---- the rows of the tables

-- ---- the command lines

-- a command with further options
abbrev pub with_rules : App → List Rule → App
with_rules app [] = app
with_rules app (rule ∷ rules) = with_rules (with_rule app rule) rules

-- A command without options. It has no option of the parser's own, and a later use of an option
-- replaces an earlier one.
abbrev pub bare_app : Text → App
bare_app name =
    on_top (λ top. record top {
      disable_help_flag = true;
      disable_version_flag = true;
      args_override_self = true;
    }) (new_app name)

-- the first byte of a text
abbrev pub letter : Text → Option ℕ
letter [] = None
letter (byte ∷ bytes) = Some byte

-- the options of both commands
unfoldable pub common_rules : List Rule
common_rules =
    help_rule (named_rule (codes "HELP") None (Some (codes "help")))
    ∷ text_rule (named_rule (codes "HOST") (letter (codes "h")) (Some (codes "host")))
    ∷ number_rule (pos 1) (pos 65535) (named_rule (codes "PORT") (letter (codes "p")) (Some (codes "port")))
    ∷ text_rule (named_rule (codes "URL") (letter (codes "L")) (Some (codes "url")))
    ∷ text_rule (named_rule (codes "USER") (letter (codes "u")) (Some (codes "username")))
    ∷ text_rule (named_rule (codes "PASSWORD") (letter (codes "P")) (Some (codes "pw")))
    ∷ text_rule (named_rule (codes "PASSWORD_FILE") None (Some (codes "password-file")))
    ∷ text_rule (named_rule (codes "ID") (letter (codes "i")) (Some (codes "id")))
    ∷ flag_rule (named_rule (codes "KEEP") (letter (codes "c")) (Some (codes "disable-clean-session")))
    ∷ text_rule (named_rule (codes "SESSION") None (Some (codes "session")))
    ∷ number_rule (pos 0) (pos 65535) (named_rule (codes "KEEP_ALIVE") (letter (codes "k")) (Some (codes "keepalive")))
    ∷ text_rule (named_rule (codes "RETRY") None (Some (codes "retry")))
    ∷ text_rule (named_rule (codes "TIMEOUT") (letter (codes "W")) (Some (codes "timeout")))
    ∷ text_rule (named_rule (codes "WILL_TOPIC") None (Some (codes "will-topic")))
    ∷ text_rule (named_rule (codes "WILL_PAYLOAD") None (Some (codes "will-payload")))
    ∷ number_rule (pos 0) (pos 2) (named_rule (codes "WILL_QOS") None (Some (codes "will-qos")))
    ∷ flag_rule (named_rule (codes "WILL_RETAIN") None (Some (codes "will-retain")))
    ∷ flag_rule (named_rule (codes "DEBUG") (letter (codes "d")) (Some (codes "debug")))
    ∷ flag_rule (named_rule (codes "QUIET") None (Some (codes "quiet"))) ∷ []

-- the options of `mqtt pub`
unfoldable pub publish_rules : List Rule
publish_rules =
    text_rule (named_rule (codes "TOPIC") (letter (codes "t")) (Some (codes "topic")))
    ∷ number_rule (pos 0) (pos 2) (named_rule (codes "QOS") (letter (codes "q")) (Some (codes "qos")))
    ∷ texts_rule (named_rule (codes "TEXT") (letter (codes "m")) (Some (codes "message")))
    ∷ text_rule (named_rule (codes "FILE") (letter (codes "f")) (Some (codes "file")))
    ∷ flag_rule (named_rule (codes "WHOLE") (letter (codes "s")) (Some (codes "stdin-file")))
    ∷ flag_rule (named_rule (codes "LINES") (letter (codes "l")) (Some (codes "stdin-line")))
    ∷ flag_rule (named_rule (codes "EMPTY") (letter (codes "n")) (Some (codes "null-message")))
    ∷ flag_rule (named_rule (codes "RETAIN") (letter (codes "r")) (Some (codes "retain")))
    ∷ number_rule (pos 0) (pos 4294967295) (named_rule (codes "REPEAT") None (Some (codes "repeat")))
    ∷ renamed_rule (codes "repeat-delay") (named_rule (codes "DELAY") None (Some (codes "delay"))) ∷ []

-- the options of `mqtt sub`
unfoldable pub subscribe_rules : List Rule
subscribe_rules =
    texts_rule (named_rule (codes "TOPIC") (letter (codes "t")) (Some (codes "topic")))
    ∷ number_rule (pos 0) (pos 2) (named_rule (codes "QOS") (letter (codes "q")) (Some (codes "qos")))
    ∷ texts_rule (named_rule (codes "EXCLUDED") (letter (codes "T")) (Some (codes "filter-out")))
    ∷ texts_rule (named_rule (codes "GIVEN_UP") (letter (codes "U")) (Some (codes "unsubscribe")))
    ∷ number_rule (pos 1) (pos 4294967295) (named_rule (codes "COUNT") (letter (codes "C")) None)
    ∷ flag_rule (named_rule (codes "FRESH") (letter (codes "R")) None)
    ∷ flag_rule (named_rule (codes "RETAINED") None (Some (codes "retained-only")))
    ∷ flag_rule (named_rule (codes "GRANTED") (letter (codes "E")) None)
    ∷ flag_rule (named_rule (codes "VERBOSE") (letter (codes "v")) (Some (codes "verbose")))
    ∷ flag_rule (named_rule (codes "BARE") (letter (codes "N")) None)
    ∷ text_rule (named_rule (codes "FORMAT") (letter (codes "F")) None) ∷ []

-- the command line of `mqtt pub`
abbrev pub publish_app : App
publish_app = with_rules (with_rules (bare_app (codes "mqtt pub")) common_rules) publish_rules

-- the command line of `mqtt sub`
abbrev pub subscribe_app : App
subscribe_app = with_rules (with_rules (bare_app (codes "mqtt sub")) common_rules) subscribe_rules
