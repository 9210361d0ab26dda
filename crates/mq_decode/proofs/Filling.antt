-- The contents of a buffer after a read behind its bytes.
use Rattle.std.proofs.Common.{◌≡◌, ℕ, ◌+◌, ◌≤◌, Bool, true, List, ◌++◌, length, take, cond, refl, sym, ap, ◌∙◌, append_assoc, arith}
use Rattle.std.proofs.lemmas.List.{take-take, take-append-le, take_all, take_at}
use Rattle.bytes.proofs.Ranges.{take-append_past}

-- the front of a buffer that was made longer
pub resized_front : (old now zeros : List ℕ) (start most : ℕ) (t : Bool) → start ≡ length old → t ≡ true → now ≡ cond t (take (start + most) old ++ zeros) old → take start now ≡ old
resized_front old now zeros start most t start_is is e =
    let whole : take (start + most) old ≡ old = take_all (start + most) old (omega arith) in
    let now_is : now ≡ old ++ zeros = e ∙ rw (is, whole) refl in
    rw now_is (take_at old zeros start (sym start_is))

pub filled_is : (old now room post tail new : List ℕ) (start count len : ℕ) → take start now ≡ old → start ≡ length old → count ≤ length room → start + count ≤ len
    → new ≡ take (start + count) (take len ((take start now ++ (room ++ post)) ++ tail)) → new ≡ old ++ take count room
filled_is old now room post tail new start count len front start_is fits within e =
    let regrouped : (take start now ++ (room ++ post)) ++ tail ≡ old ++ (room ++ (post ++ tail)) =
    append_assoc (take start now) (room ++ post) tail ∙ rw (front, append_assoc room post tail) refl in
    e ∙ (take-take (start + count) len ((take start now ++ (room ++ post)) ++ tail) within
    ∙ (ap (take (start + count)) regrouped ∙ (take-append_past old (room ++ (post ++ tail)) count (start + count) (omega arith)
    ∙ ap (λ (t : List ℕ). old ++ t) (take-append-le count room (post ++ tail) fits))))
