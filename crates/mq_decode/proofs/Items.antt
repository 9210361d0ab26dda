-- Taking the items of a list that was tested from its front.
use Rattle.std.proofs.Common.{◌≡◌, ℕ, zero, suc, ◌<◌, ◌≤◌, List, [], ◌∷◌, length, Result, Ok, Err, refl, ap, arith, subst}
use Rattle.std.specs.Result.{IsOk}
use Rattle.std.proofs.lemmas.Bool.{false≢true}
use Rattle.std.proofs.lemmas.List.{length-append}
use Rattle.mq_wire.specs.Bytes.{AreBytes}
use Rattle.mq_decode.specs.declared.fault.BadField.{BadField}
use Rattle.mq_decode.specs.Gives.{◌>>=◌}
use Rattle.mq_decode.specs.Lent.{items_of}
use Rattle.mq_decode.specs.Lists.{items_at}
use Rattle.mq_decode.proofs.ListLaws.{ItemLaws}

bind_same : {A B : Type 0} (r : Result A BadField) (f g : A → Result B BadField) → ((x : A) → r ≡ Ok x → f x ≡ g x) → (r >>= f) ≡ (r >>= g)
bind_same (Ok x) f g same = same x refl
bind_same (Err bad) f g same = refl

-- an item takes a byte or more
shorter : {A : Type 0} (item : List ℕ → Result (A × List ℕ) BadField) (encoding : A → List ℕ) (IsItem : A → Type 0) → ItemLaws item encoding IsItem
    → (bytes : List ℕ) (x : A) (after : List ℕ) → AreBytes bytes → item bytes ≡ Ok (x, after) → (length after < length bytes) × AreBytes after
shorter item encoding IsItem laws bytes x after h e =
    let l = laws.found bytes x after h e in
    (omega (arith, ap length l.0.parts, length-append (encoding x) after, laws.more x l.1), l.0.rest_bytes)

-- A larger bound on the number of items makes no difference.
items_enough : {A : Type 0} (item : List ℕ → Result (A × List ℕ) BadField) (encoding : A → List ℕ) (IsItem : A → Type 0) → ItemLaws item encoding IsItem
    → (n m : ℕ) (bytes : List ℕ) → AreBytes bytes → length bytes ≤ n → length bytes ≤ m → items_at item n bytes ≡ items_at item m bytes
items_enough item encoding IsItem laws n m [] h le few = refl
items_enough item encoding IsItem laws zero m (b ∷ bytes) h le few = absurd (omega arith)
items_enough item encoding IsItem laws (suc n) zero (b ∷ bytes) h le few = absurd (omega arith)
items_enough {A} item encoding IsItem laws (suc n) (suc m) (b ∷ bytes) h le few =
    bind_same (item (b ∷ bytes)) (λ x. items_at item n x.1 >>= λ xs. Ok (x.0 ∷ xs)) (λ x. items_at item m x.1 >>= λ xs. Ok (x.0 ∷ xs))
    (λ x e.
    let s = shorter item encoding IsItem laws (b ∷ bytes) x.0 x.1 h e in
    ap (λ (r : Result (List A) BadField). r >>= λ xs. Ok (x.0 ∷ xs)) (items_enough item encoding IsItem laws n m x.1 s.1 (omega (arith, s.0)) (omega (arith, s.0))))

left_after : {A : Type 0} (item : List ℕ → Result (A × List ℕ) BadField) (encoding : A → List ℕ) (IsItem : A → Type 0) → ItemLaws item encoding IsItem
    → (rest : List ℕ) (x : A) (after : List ℕ) → AreBytes rest → 0 < length rest → item rest ≡ Ok (x, after)
    → items_at item (length rest) rest ≡ (items_at item (length after) after >>= λ xs. Ok (x ∷ xs))
left_after item encoding IsItem laws [] x after h left e = absurd (omega arith)
left_after {A} item encoding IsItem laws (b ∷ rest) x after h left e =
    let s = shorter item encoding IsItem laws (b ∷ rest) x after h e in
    rw e (ap (λ (r : Result (List A) BadField). r >>= λ xs. Ok (x ∷ xs)) (items_enough item encoding IsItem laws (length rest) (length after) after s.1 (omega (arith, s.0)) (omega arith)))

first_of : {A : Type 0} (x : A) (read : Result (List A) BadField) → IsOk (read >>= λ xs. Ok (x ∷ xs)) → (items_of (read >>= λ xs. Ok (x ∷ xs)) ≡ x ∷ items_of read) × IsOk read
first_of x (Ok xs) h = (refl, refl)
first_of x (Err bad) h = absurd (false≢true h)

-- An item, and the remaining bytes.
pub record Next {A : Type 0} (item : List ℕ → Result (A × List ℕ) BadField) (rest : List ℕ) (x : A) (after : List ℕ) : Type 0 where
  pub items : items_of (items_at item (length rest) rest) ≡ x ∷ items_of (items_at item (length after) after)
  pub tested : IsOk (items_at item (length after) after)

pub next_item : {A : Type 0} (item : List ℕ → Result (A × List ℕ) BadField) (encoding : A → List ℕ) (IsItem : A → Type 0) → ItemLaws item encoding IsItem
    → (rest : List ℕ) (x : A) (after : List ℕ) → AreBytes rest → 0 < length rest → item rest ≡ Ok (x, after) → IsOk (items_at item (length rest) rest) → Next item rest x after
next_item {A} item encoding IsItem laws rest x after h left e tested =
    let all = left_after item encoding IsItem laws rest x after h left e in
    let f = first_of x (items_at item (length after) after) (subst (λ (r : Result (List A) BadField). IsOk r) all tested) in
    record { items = rw all f.0; tested = f.1 }
