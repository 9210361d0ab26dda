-- Lines that are read or printed.
use Rattle.std.proofs.Common.{◌≡◌, ℕ, List, [], ◌∷◌, Option, Some, None, length, refl, sym, append-nil, arith}
use Rattle.std.proofs.KnownBytes.{Appends-kept}
use Rattle.std.specs.Io.KnownBytes.{Appends, Keeps}
use Rattle.mq_packet.specs.Writing.{AppendsFront}

-- no byte is left
pub is_empty : (bytes : List ℕ) → length bytes ≡ 0 → bytes ≡ []
is_empty [] none = refl
is_empty (byte ∷ bytes) none = absurd (omega (arith, none))

same : (known : Option (List ℕ)) → Appends known known []
same None = tt
same (Some bytes) = sym (append-nil bytes)

-- nothing was written
pub front_none : (known : Option (List ℕ)) (line : List ℕ) → AppendsFront known known line
front_none known line = record { front = []; rest = line; parts = refl; appends = same known }

-- the whole line was written
pub front_all : (old middle new : Option (List ℕ)) (line : List ℕ) → Appends old middle line → Keeps middle new → AppendsFront old new line
front_all old middle new line written kept =
    record { front = line; rest = []; parts = sym (append-nil line); appends = Appends-kept old middle new line written kept }
