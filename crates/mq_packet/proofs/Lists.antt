-- The size of a prefix of a list.
use Rattle.std.proofs.Common.{◌≡◌, ℕ, ◌+◌, ◌≤◌, ◌<◌, ◌^◌, ◌↔◌, true, false, List, ◌++◌, length, take, get_or, ap, arith}
use Rattle.std.proofs.lemmas.List.{length-append}
use Rattle.std.specs.List.{flat_map}
use Rattle.std.proofs.lemmas.List.Folds.{length-flat_map-take}

-- If there is room for all items, there is room for the next one.
pub fits_item : {A : Type 0} (f : A → List ℕ) (xs : List A) (i : ℕ) (x : A) (out old : List ℕ) → i < length xs → get_or xs i x ≡ x → out ≡ old ++ flat_map f (take i xs)
    → length out + length (f x) ≤ length old + length (flat_map f xs)
fits_item f xs i x out old lt is e =
    let front = length-flat_map-take f xs i x lt in
    let one : length (flat_map f (take i xs)) + length (f x) ≤ length (flat_map f xs) = rw is at front in
    let parts = length-append old (flat_map f (take i xs)) in
    let same = ap length e in
    omega arith

-- If a prefix is too long, so is the whole list.
pub too_long : {A : Type 0} (f : A → List ℕ) (xs : List A) (i : ℕ) (x : A) (n m : ℕ) → i < length xs → get_or xs i x ≡ x → n ≡ length (flat_map f (take i xs)) → m ≡ length (f x)
    → 268435455 < n + m → (false ≡ true) ↔ (length (flat_map f xs) < 2 ^ 28)
too_long f xs i x n m lt is n_is m_is over =
    let front = length-flat_map-take f xs i x lt in
    let whole : n + m ≤ length (flat_map f xs) = rw (n_is, m_is) (rw is at front) in
    (λ e. absurd cc, λ small. absurd (omega arith))
