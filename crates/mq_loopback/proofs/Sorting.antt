-- Lists of messages that are brought in order.
use Rattle.std.proofs.Common.{◌≡◌, List, [], ◌∷◌, ◌++◌, map, Vec}
use Rattle.std.specs.List.{AllZip}
use Rattle.std.proofs.lemmas.List.{map-append}
use Rattle.mq_packet.specs.declared.message.Message.{Message}
use Rattle.mq_loopback.specs.Ordered.{IsOrdered}

zip_more : (xs ys : List (List Message)) (x y : List Message) → AllZip IsOrdered xs ys → IsOrdered x y → AllZip IsOrdered (xs ++ x ∷ []) (ys ++ y ∷ [])
zip_more [] [] x y h k = (k, tt)
zip_more [] (w ∷ ys) x y h k = absurd h
zip_more (v ∷ xs) [] x y h k = absurd h
zip_more (v ∷ xs) (w ∷ ys) x y h k = (h.0, zip_more xs ys x y h.1 k)

-- one list more
pub list_more : {Z : Type 0} (lists all after : List (Vec Message Z)) (v w : Vec Message Z) → AllZip IsOrdered (map (λ u. u.items) lists) (map (λ u. u.items) all) → IsOrdered v.items w.items → after ≡ all ++ w ∷ []
    → AllZip IsOrdered (map (λ u. u.items) (lists ++ v ∷ [])) (map (λ u. u.items) after)
list_more {Z} lists all after v w h k e =
    rw (e, map-append (λ (u : Vec Message Z). u.items) lists (v ∷ []), map-append (λ (u : Vec Message Z). u.items) all (w ∷ [])) (zip_more (map (λ u. u.items) lists) (map (λ u. u.items) all) v.items w.items h k)
