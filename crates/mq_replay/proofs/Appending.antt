-- The lines of a list, which were written item by item.
use Rattle.std.proofs.Common.{◌≡◌, ℕ, ◌+◌, ◌<◌, List, [], ◌∷◌, ◌++◌, Option, length, take, get_or, sym, ap, subst, ◌∙◌}
use Rattle.std.proofs.lemmas.List.{flat_map_more, take_more}
use Rattle.std.proofs.KnownBytes.{Appends-trans}
use Rattle.std.specs.List.{flat_map}
use Rattle.std.specs.Io.KnownBytes.{Appends}

-- the lines of the next item
pub lines_next : {X : Type 0} (f : X → List ℕ) (xs : List X) (k : ℕ) (x : X) (old mid new : Option (List ℕ)) → k < length xs → x ≡ get_or xs k x
    → Appends old mid (flat_map f (take k xs)) → Appends mid new (f x) → Appends old new (flat_map f (take (k + 1) xs))
lines_next f xs k x old mid new below at before next =
    let more : take k xs ++ x ∷ [] ≡ take (k + 1) xs = ap (λ z. take k xs ++ z ∷ []) at ∙ sym (take_more xs k x below) in
    subst (Appends old new) (flat_map_more f [] (take k xs) x ∙ ap (flat_map f) more) (Appends-trans old mid new (flat_map f (take k xs)) (f x) before next)
