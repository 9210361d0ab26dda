-- The input of a command.
use Rattle.std.specs.Prelude.{ℕ, List, Option, None}
use Rattle.mq_cli.specs.declared.jobs.Source.{Source}
use Rattle.mq_cli.specs.declared.jobs.Source.TheVariants as sources

-- the bytes of the source, if they are known: those of the standard input may be
abbrev pub input_of : Source → Option (List ℕ) → Option (List ℕ)
input_of (sources.File name) input = None
input_of sources.Standard input = input
