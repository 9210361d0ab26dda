-- The meaning of validated bytes. Only proofs cite these definitions.
use Rattle.std.specs.Prelude.{◌≡◌, ℕ, List, Result, Ok, Err, IsOk}
use Rattle.mq_decode.specs.declared.fault.BadField.{BadField}

-- The bytes behind the result.
abbrev pub rest_of : {A : Type 0} → Result (A × List ℕ) BadField → Result (List ℕ) BadField
rest_of (Ok found) = Ok found.1
rest_of (Err bad) = Err bad

-- A test agrees with a reading: it passes, or reports the same fault.
abbrev pub Tests : {Y : Type 0} → Result (Unit {0}) BadField → Result Y BadField → Type 0
Tests (Ok done) read = IsOk read
Tests (Err bad) read = read ≡ Err bad
