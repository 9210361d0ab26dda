-- The bytes of a short remaining length (2.2.3).
use Rattle.std.proofs.Common.{◌≡◌, ℕ, ◌<◌, [], ◌∷◌, refl}
use Rattle.std.proofs.lemmas.Bool.{lt-ltb}
use Rattle.mq_wire.specs.Length.{length_bytes}

pub one_byte : (n : ℕ) → n < 128 → length_bytes n ≡ n ∷ []
unfolding length_bytes
one_byte n lt = rw (lt-ltb n 128 lt) refl
