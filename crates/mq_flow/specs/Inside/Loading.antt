-- Reading the saved form of a session (3.1.2.4, 4.1). Only proofs cite these definitions.
use Rattle.std.specs.Prelude.{◌≡◌, ℕ, Result, Ok, Err}
use Rattle.mq_flow.specs.declared.load.BadField.{BadField}

-- seen by view
abbrev pub Same : {X Y : Type 0} → (X → Y) → Result X BadField → Result Y ℕ → Type 0
Same view (Ok x) read = read ≡ Ok (view x)
Same view (Err bad) read = read ≡ Err bad.left
