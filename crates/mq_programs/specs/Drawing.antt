-- The command `replay --svg`.
use Rattle.std.specs.Prelude.{◌≡◌, ◌⊎◌, ℕ, false, List, ◌++◌, Option, Some, IfSome, codes}
use Rattle.mq_cli.specs.Printed.{file_not_read}
use Rattle.mq_cli.specs.Status.{IsReplayDone}
use Rattle.mq_cli.specs.declared.jobs.Source.{Source}
use Rattle.mq_programs.specs.Inputs.{input_of}

abbrev pub not_written : List ℕ
not_written = codes "picture not written\n"

-- The bytes are replayed. If the status is 0, the image is saved.
abbrev pub IsReplayDrawn : List ℕ → ℕ → List ℕ → Type 0
IsReplayDrawn bytes status text =
    IsReplayDone (Some bytes) false status text
    ⊎ ((front : List ℕ) × IsReplayDone (Some bytes) false 0 front × (status ≡ 1)
    × (text ≡ front ++ not_written))

-- The same for the bytes of the source, or the source can't be read.
abbrev pub IsDrawRun : Source → Option (List ℕ) → ℕ → List ℕ → Type 0
IsDrawRun source input status text =
    ((bytes : List ℕ) × IfSome (input_of source input) (λ all. bytes ≡ all)
    × IsReplayDrawn bytes status text)
    ⊎ ((status ≡ 2) × (text ≡ file_not_read))
