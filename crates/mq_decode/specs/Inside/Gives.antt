-- A reading gives a value, or the first field that is not of its kind. Only proofs cite these
-- definitions.
use Rattle.std.specs.Prelude.{◌≡◌, Result, Ok, Err}
use Rattle.mq_decode.specs.declared.fault.BadField.{BadField}

-- The result of a function, as contracts see it, is the result of reading.
abbrev pub Same : {X Y : Type 0} → (X → Y) → Result X BadField → Result Y BadField → Type 0
Same view (Ok x) read = read ≡ Ok (view x)
Same view (Err bad) read = read ≡ Err bad
