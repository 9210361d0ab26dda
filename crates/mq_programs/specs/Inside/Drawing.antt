-- The command `replay --svg`. Only proofs cite these definitions.
use Rattle.std.specs.Prelude.{◌≡◌, ◌⊎◌, ℕ, List, [], Option}
use Rattle.mq_client.specs.Disk.{FileState, Replaced, Unchanged}
use Rattle.mq_picture.specs.Image.{IsPicture}
use Rattle.mq_schedule.specs.declared.schedule.Schedule.{Schedule}
use Rattle.mq_programs.specs.Drawing.{not_written}

-- A picture of the schedule replaced the file, or the file is unchanged.
abbrev pub IsImageSaved : Schedule → Option (List FileState) → Option (List FileState) → ℕ → List ℕ → Type 0
IsImageSaved schedule old new status text =
    ((image : List ℕ) × IsPicture schedule image × Replaced old new image × (status ≡ 0)
    × (text ≡ []))
    ⊎ (Unchanged old new × (status ≡ 1) × (text ≡ not_written))

-- the output for an image: nothing, or that it was not written
abbrev pub IsSaved : ℕ → List ℕ → Type 0
IsSaved status text =
    ((status ≡ 0) × (text ≡ [])) ⊎ ((status ≡ 1) × (text ≡ not_written))
