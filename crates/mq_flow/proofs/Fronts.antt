-- Fronts of lists that are kept.
use Rattle.std.proofs.Common.{◌≡◌, ℕ, List, [], ◌∷◌, ◌++◌, length, take, refl}

-- A prefix of an unchanged list is unchanged.
pub front_kept : (old more new : List ℕ) → take (length (old ++ more)) new ≡ old ++ more → take (length old) new ≡ old
front_kept [] more new h = refl
front_kept (a ∷ old) more [] h = absurd cc
front_kept (a ∷ old) more (b ∷ new) h =
    let t : take (length (old ++ more)) new ≡ old ++ more = cc in
    let k = front_kept old more new t in
    cc
