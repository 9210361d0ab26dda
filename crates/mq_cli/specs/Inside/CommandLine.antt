-- The meaning of a command line. Only proofs cite these definitions.
use Rattle.std.specs.Prelude.{◌≡◌, ◌≢◌, Bool, codes}
use Rattle.clap.specs.Words.{Text}
use Rattle.mq_cli.specs.declared.jobs.Job.{Job}
use Rattle.mq_cli.specs.declared.jobs.Job.TheVariants.{Show, ShowFrom}
use Rattle.mq_cli.specs.declared.jobs.Source.TheVariants.{Standard}

-- the job of `show` for the word HEX
abbrev pub IsDigitsJob : Text → Bool → Job → Type 0
IsDigitsJob word flag (Show hex lenient) = (hex.now ≡ word) × (word ≢ codes "-") × (lenient ≡ flag)
IsDigitsJob word flag (ShowFrom source lenient) = (source ≡ Standard) × (word ≡ codes "-") × (lenient ≡ flag)
IsDigitsJob word flag job = ⊥
