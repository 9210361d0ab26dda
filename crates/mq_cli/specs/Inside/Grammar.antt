-- The command line: its commands, and the words of each. Only proofs cite these definitions.
use Rattle.std.specs.Prelude.{Option, find}
use Rattle.std.specs.Str.{bytes_eq}
use Rattle.clap.specs.Words.{Shape, Text}
use Rattle.mq_cli.specs.Grammar.{program_words}

-- the command of the program that has this name
unfoldable pub command_named : Text → Option Shape
command_named name = find (λ command. bytes_eq command.name name) program_words.subs
