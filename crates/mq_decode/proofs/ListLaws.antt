-- The laws of lists: decoding and encoding are inverse to each other.
use Rattle.std.proofs.Common.{◌≡◌, ℕ, zero, suc, ◌<◌, ◌≤◌, Bool, true, false, cond, eqb, List, [], ◌∷◌, ◌++◌, length, Option, Some, None, Result, Ok, refl, ap, subst, ◌∙◌, append_assoc, arith, ◌⊎◌, inl, inr}
use Rattle.std.specs.List.{flat_map, AllByRecursion}
use Rattle.std.proofs.lemmas.Bool.{eqb-true}
use Rattle.std.proofs.lemmas.List.{length-append}
use Rattle.mq_wire.specs.Bytes.{AreBytes}
use Rattle.mq_wire.specs.Number.{number}
use Rattle.mq_wire.specs.Text.{counted}
use Rattle.mq_topic.specs.declared.qos.Qos.{Qos}
use Rattle.mq_topic.specs.declared.qos.Qos.TheVariants.{Q0, Q1, Q2}
use Rattle.mq_topic.specs.Qos.{qos_number, qos_from}
use Rattle.mq_topic.specs.Topic.{IsTopicFilter}
use Rattle.mq_packet.specs.declared.packet.Request.{Request}
use Rattle.mq_packet.specs.declared.packet.SubAckCode.{SubAckCode}
use Rattle.mq_packet.specs.declared.packet.SubAckCode.TheVariants.{Granted, Failure}
use Rattle.mq_packet.specs.Codes.{code_number, code_from}
use Rattle.mq_packet.specs.Encoding.{request_fields, code_fields}
use Rattle.mq_packet.specs.Values.{IsRequest, Always, IsList}
use Rattle.mq_decode.specs.declared.fault.BadField.{BadField}
use Rattle.mq_decode.specs.Gives.{◌>>=◌}
use Rattle.mq_decode.specs.Fields.{identifier_at, filter_at, code_byte_at, code_or_fault}
use Rattle.mq_decode.specs.Lists.{items_at, list_at, request_at, suback_code_at, list_with}
use Rattle.mq_decode.proofs.FieldLaws.{Wire, bind_ok, ok_is, done, Takes, takes, Takes-then, identifier_found, identifier_again, filter_found, filter_again}

-- the laws of one item
pub record ItemLaws {A : Type 0} (item : List ℕ → Result (A × List ℕ) BadField) (encoding : A → List ℕ) (IsItem : A → Type 0) : Type 0 where
  pub found : (bytes : List ℕ) (a : A) (rest : List ℕ) → AreBytes bytes → item bytes ≡ Ok (a, rest) → Takes bytes (encoding a) rest × IsItem a
  pub again : (a : A) (rest : List ℕ) → IsItem a → item (encoding a ++ rest) ≡ Ok (a, rest)
  pub more : (a : A) → IsItem a → 0 < length (encoding a)

-- ---- lists

abbrev Found : {A : Type 0} → (A → List ℕ) → (A → Type 0) → List ℕ → List A → Type 0
Found encoding IsItem bytes xs = (bytes ≡ flat_map encoding xs) × AllByRecursion IsItem xs

items_found : {A : Type 0} (item : List ℕ → Result (A × List ℕ) BadField) (encoding : A → List ℕ) (IsItem : A → Type 0) → ItemLaws item encoding IsItem
    → (fuel : ℕ) (bytes : List ℕ) (xs : List A) → length bytes ≤ fuel → AreBytes bytes → items_at item fuel bytes ≡ Ok xs → Found encoding IsItem bytes xs
items_found item encoding IsItem laws fuel [] xs room h e = subst (Found encoding IsItem []) (ok_is [] xs e) (refl, tt)
items_found item encoding IsItem laws zero (b ∷ bytes) xs room h e = absurd (omega arith)
items_found {A} item encoding IsItem laws (suc fuel) (b ∷ bytes) xs room h e =
    let first = bind_ok (item (b ∷ bytes)) (λ x. items_at item fuel x.1 >>= λ ys. Ok (x.0 ∷ ys)) xs e in
    let x = first.0.0 in
    let rest = first.0.1 in
    let second = bind_ok (items_at item fuel rest) (λ ys. Ok (x ∷ ys)) xs first.2 in
    let l = laws.found (b ∷ bytes) x rest h first.1 in
    let shorter : length rest < length (b ∷ bytes) = omega (arith, ap length l.0.parts, length-append (encoding x) rest, laws.more x l.1) in
    let others = items_found item encoding IsItem laws fuel rest second.0 (omega arith) l.0.rest_bytes second.1 in
    let whole : b ∷ bytes ≡ flat_map encoding (x ∷ second.0) = l.0.parts ∙ ap (λ (t : List ℕ). encoding x ++ t) others.0 in
    subst (Found encoding IsItem (b ∷ bytes)) (ok_is (x ∷ second.0) xs second.2) (whole, (l.1, others.1))

-- one item, and the others after it
one_more : {A : Type 0} (item : List ℕ → Result (A × List ℕ) BadField) (fuel : ℕ) (text rest : List ℕ) (x : A) (xs : List A)
    → 0 < length text → length (text ++ rest) ≤ fuel → item (text ++ rest) ≡ Ok (x, rest)
    → ((less : ℕ) → length rest ≤ less → items_at item less rest ≡ Ok xs) → items_at item fuel (text ++ rest) ≡ Ok (x ∷ xs)
one_more item fuel [] rest x xs left room first others = absurd (omega arith)
one_more item zero (b ∷ text) rest x xs left room first others = absurd (omega arith)
one_more item (suc fuel) (b ∷ text) rest x xs left room first others =
    rw (first, others fuel (omega (arith, length-append text rest))) refl

items_again : {A : Type 0} (item : List ℕ → Result (A × List ℕ) BadField) (encoding : A → List ℕ) (IsItem : A → Type 0) → ItemLaws item encoding IsItem
    → (xs : List A) (fuel : ℕ) → length (flat_map encoding xs) ≤ fuel → AllByRecursion IsItem xs → items_at item fuel (flat_map encoding xs) ≡ Ok xs
items_again item encoding IsItem laws [] fuel room each = refl
items_again item encoding IsItem laws (x ∷ xs) fuel room each =
    one_more item fuel (encoding x) (flat_map encoding xs) x xs (laws.more x each.0) room (laws.again x (flat_map encoding xs) each.0)
    (λ less fits. items_again item encoding IsItem laws xs less fits each.1)

-- ---- an identifier and a list of at least one item

list_found : {A : Type 0} (item : List ℕ → Result (A × List ℕ) BadField) (encoding : A → List ℕ) (IsItem : A → Type 0) → ItemLaws item encoding IsItem
    → (bytes : List ℕ) (xs : List A) → AreBytes bytes → list_at item bytes ≡ Ok xs → Found encoding IsItem bytes xs × (0 < length xs)
list_found item encoding IsItem laws [] xs h e = absurd cc
list_found {A} item encoding IsItem laws (b ∷ bytes) xs h e = with_item xs (items_found item encoding IsItem laws (length (b ∷ bytes)) (b ∷ bytes) xs (omega arith) h e)
  where
    with_item : (xs : List A) → Found encoding IsItem (b ∷ bytes) xs → Found encoding IsItem (b ∷ bytes) xs × (0 < length xs)
    with_item [] f = absurd cc
    with_item (x ∷ xs) f = (f, omega arith)

list_again : {A : Type 0} (item : List ℕ → Result (A × List ℕ) BadField) (encoding : A → List ℕ) (IsItem : A → Type 0) → ItemLaws item encoding IsItem
    → (xs : List A) → 0 < length xs → AllByRecursion IsItem xs → list_at item (flat_map encoding xs) ≡ Ok xs
list_again item encoding IsItem laws [] some each = absurd (omega arith)
list_again {A} item encoding IsItem laws (x ∷ xs) some each =
    not_empty (flat_map encoding (x ∷ xs)) (omega (arith, length-append (encoding x) (flat_map encoding xs), laws.more x each.0)) (items_again item encoding IsItem laws (x ∷ xs) (length (flat_map encoding (x ∷ xs))) (omega arith) each)
  where
    not_empty : (bytes : List ℕ) → 0 < length bytes → items_at item (length bytes) bytes ≡ Ok (x ∷ xs) → list_at item bytes ≡ Ok (x ∷ xs)
    not_empty [] left e = absurd (omega arith)
    not_empty (b ∷ bytes) left e = e

abbrev FoundList : {A : Type 0} → (A → List ℕ) → (A → Type 0) → List ℕ → ℕ × List A → Type 0
FoundList encoding IsItem bytes x = (bytes ≡ number x.0 ++ flat_map encoding x.1) × IsList IsItem x.0 x.1

pub list_with_found : (w : Wire) {A : Type 0} (item : List ℕ → Result (A × List ℕ) BadField) (encoding : A → List ℕ) (IsItem : A → Type 0) → ItemLaws item encoding IsItem
    → (bytes : List ℕ) (id : ℕ) (xs : List A) → AreBytes bytes → list_with item bytes ≡ Ok (id, xs) → (bytes ≡ number id ++ flat_map encoding xs) × IsList IsItem id xs
unfolding list_with
list_with_found w {A} item encoding IsItem laws bytes id xs h e =
    let a = bind_ok (identifier_at bytes) (λ i. list_at item i.1 >>= λ items. Ok (i.0, items)) (id, xs) e in
    let b = bind_ok (list_at item a.0.1) (λ items. Ok (a.0.0, items)) (id, xs) a.2 in
    let l = identifier_found w bytes a.0.0 a.0.1 h a.1 in
    let m = list_found item encoding IsItem laws a.0.1 b.0 l.0.rest_bytes b.1 in
    let made : ℕ × List A = (a.0.0, b.0) in
    let whole : bytes ≡ number a.0.0 ++ flat_map encoding b.0 = l.0.parts ∙ ap (λ (t : List ℕ). number a.0.0 ++ t) m.0.0 in
    subst (FoundList encoding IsItem bytes) (ok_is made (id, xs) b.2) (whole, record { identifier = l.1; item = m.1; each = m.0.1 })

pub list_with_again : (w : Wire) {A : Type 0} (item : List ℕ → Result (A × List ℕ) BadField) (encoding : A → List ℕ) (IsItem : A → Type 0) → ItemLaws item encoding IsItem
    → (id : ℕ) (xs : List A) → IsList IsItem id xs → list_with item (number id ++ flat_map encoding xs) ≡ Ok (id, xs)
unfolding list_with
list_with_again w item encoding IsItem laws id xs is =
    rw (identifier_again w id (flat_map encoding xs) is.identifier, list_again item encoding IsItem laws xs is.item is.each) refl

-- ---- the three kinds of items

pub filter_laws : (w : Wire) → ItemLaws filter_at counted IsTopicFilter
filter_laws w = record {
  found = λ bytes a rest h e. filter_found w bytes a rest h e;
  again = λ a rest is. filter_again w a rest is;
  more = λ a is. omega arith;
}

-- a code and its number
same_pair : {A : Type 0} (a c : A) (x y : List ℕ) → (let p : A × List ℕ = (c, x) in let q : A × List ℕ = (a, y) in done p ≡ done q) → (c ≡ a) × (x ≡ y)
same_pair {A} a c x y e = (ap (λ (p : A × List ℕ). p.0) (ok_is (c, x) (a, y) e), ap (λ (p : A × List ℕ). p.1) (ok_is (c, x) (a, y) e))

pub code_found : {A : Type 0} (from : ℕ → Option A) (number_of : A → ℕ) → ((n : ℕ) (a : A) → from n ≡ Some a → n ≡ number_of a)
    → (bytes : List ℕ) (a : A) (rest : List ℕ) → AreBytes bytes → code_byte_at from bytes ≡ Ok (a, rest) → Takes bytes (number_of a ∷ []) rest
code_found from number_of exact [] a rest h e = absurd cc
code_found {A} from number_of exact (b ∷ bytes) a rest h e = go (from b) refl e
  where
    go : (o : Option A) → from b ≡ o → code_or_fault o b bytes ≡ Ok (a, rest) → Takes (b ∷ bytes) (number_of a ∷ []) rest
    go None is e = absurd cc
    go (Some c) is e =
        let p = same_pair a c bytes rest e in
        let number_is : b ≡ number_of a = exact b c is ∙ ap number_of p.0 in
        takes (b ∷ bytes) (number_of a ∷ []) rest h (rw (number_is, p.1) refl)

pub code_again : {A : Type 0} (from : ℕ → Option A) (number_of : A → ℕ) (a : A) (rest : List ℕ) → from (number_of a) ≡ Some a → code_byte_at from (number_of a ∷ rest) ≡ Ok (a, rest)
code_again from number_of a rest e = rw e refl

-- which way a test went
pub chosen : {A : Type 0} (b : Bool) (x y z : A) → cond b x y ≡ z → ((b ≡ true) × (x ≡ z)) ⊎ ((b ≡ false) × (y ≡ z))
chosen true x y z e = inl (refl, e)
chosen false x y z e = inr (refl, e)

pub some_is : {A : Type 0} {a b : A} → Some a ≡ Some b → a ≡ b
some_is e = cc

pub qos_exact : (n : ℕ) (q : Qos) → qos_from n ≡ Some q → n ≡ qos_number q
qos_exact n q e =
    elim (chosen (eqb n 0) (Some Q0) (cond (eqb n 1) (Some Q1) (cond (eqb n 2) (Some Q2) None)) (Some q) e) [
      | inl h ↦ eqb-true n 0 h.0 ∙ ap qos_number (some_is h.1)
      | inr h ↦ elim (chosen (eqb n 1) (Some Q1) (cond (eqb n 2) (Some Q2) None) (Some q) h.1) [
        | inl k ↦ eqb-true n 1 k.0 ∙ ap qos_number (some_is k.1)
        | inr k ↦ elim (chosen (eqb n 2) (Some Q2) None (Some q) k.1) [
          | inl m ↦ eqb-true n 2 m.0 ∙ ap qos_number (some_is m.1)
          | inr m ↦ let bad : None ≡ Some q = m.1 in absurd cc
        ]
      ]
    ]

pub qos_back : (q : Qos) → qos_from (qos_number q) ≡ Some q
qos_back Q0 = refl
qos_back Q1 = refl
qos_back Q2 = refl

pub code_exact : (n : ℕ) (c : SubAckCode) → code_from n ≡ Some c → n ≡ code_number c
code_exact n c e =
    elim (chosen (eqb n 0) (Some (Granted Q0)) (cond (eqb n 1) (Some (Granted Q1)) (cond (eqb n 2) (Some (Granted Q2)) (cond (eqb n 128) (Some Failure) None))) (Some c) e) [
      | inl h ↦ eqb-true n 0 h.0 ∙ ap code_number (some_is h.1)
      | inr h ↦ elim (chosen (eqb n 1) (Some (Granted Q1)) (cond (eqb n 2) (Some (Granted Q2)) (cond (eqb n 128) (Some Failure) None)) (Some c) h.1) [
        | inl k ↦ eqb-true n 1 k.0 ∙ ap code_number (some_is k.1)
        | inr k ↦ elim (chosen (eqb n 2) (Some (Granted Q2)) (cond (eqb n 128) (Some Failure) None) (Some c) k.1) [
          | inl m ↦ eqb-true n 2 m.0 ∙ ap code_number (some_is m.1)
          | inr m ↦ elim (chosen (eqb n 128) (Some Failure) None (Some c) m.1) [
            | inl o ↦ eqb-true n 128 o.0 ∙ ap code_number (some_is o.1)
            | inr o ↦ let bad : None ≡ Some c = o.1 in absurd cc
          ]
        ]
      ]
    ]

pub code_back : (c : SubAckCode) → code_from (code_number c) ≡ Some c
code_back (Granted Q0) = refl
code_back (Granted Q1) = refl
code_back (Granted Q2) = refl
code_back Failure = refl

pub suback_code_laws : ItemLaws suback_code_at code_fields Always
unfolding suback_code_at
suback_code_laws = record {
  found = λ bytes a rest h e. (code_found code_from code_number code_exact bytes a rest h e, tt);
  again = λ a rest is. code_again code_from code_number a rest (code_back a);
  more = λ a is. omega arith;
}

request_found : (w : Wire) (bytes : List ℕ) (r : Request) (rest : List ℕ) → AreBytes bytes → request_at bytes ≡ Ok (r, rest) → Takes bytes (request_fields r) rest × IsRequest r
unfolding request_at
request_found w bytes r rest h e =
    let a = bind_ok (filter_at bytes) (λ f. code_byte_at qos_from f.1 >>= λ q. Ok (record { filter = f.0; qos = q.0 }, q.1)) (r, rest) e in
    let b = bind_ok (code_byte_at qos_from a.0.1) (λ q. Ok (record { filter = a.0.0; qos = q.0 }, q.1)) (r, rest) a.2 in
    let l = filter_found w bytes a.0.0 a.0.1 h a.1 in
    let m = code_found qos_from qos_number qos_exact a.0.1 b.0.0 b.0.1 l.0.rest_bytes b.1 in
    let made : Request × List ℕ = (record { filter = a.0.0; qos = b.0.0 }, b.0.1) in
    subst (λ (x : Request × List ℕ). Takes bytes (request_fields x.0) x.1 × IsRequest x.0) (ok_is made (r, rest) b.2) (Takes-then (counted a.0.0) (qos_number b.0.0 ∷ []) l.0 m, l.1)

request_again : (w : Wire) (r : Request) (rest : List ℕ) → IsRequest r → request_at (request_fields r ++ rest) ≡ Ok (r, rest)
unfolding request_at
request_again w r rest is =
    let regrouped : request_fields r ++ rest ≡ counted r.filter ++ (qos_number r.qos ∷ rest) = append_assoc (counted r.filter) (qos_number r.qos ∷ []) rest in
    ap request_at regrouped ∙ rw (filter_again w r.filter (qos_number r.qos ∷ rest) is, code_again qos_from qos_number r.qos rest (qos_back r.qos)) refl

pub request_laws : (w : Wire) → ItemLaws request_at request_fields IsRequest
request_laws w = record {
  found = λ bytes a rest h e. request_found w bytes a rest h e;
  again = λ a rest is. request_again w a rest is;
  more = λ a is. omega (arith, length-append (counted a.filter) (qos_number a.qos ∷ []));
}
