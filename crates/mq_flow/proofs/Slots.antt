-- The slots of a table: where the entry of an identifier is, as entries are added, removed and
-- moved together.
use Rattle.std.proofs.Common.{◌≡◌, ℕ, suc, ◌+◌, ◌-◌, ◌<◌, ◌≤◌, ◌∙◌, Bool, true, false, cond, eqb, ltb, List, [], ◌∷◌, ◌++◌, map, filter, length, take, drop, get_or, add-one, append_assoc, append-nil, Option, Some, None, IsSome, lit≤, refl, sym, ap, subst, arith, inl, inr}
use Rattle.std.specs.Option.{is_some, option_map}
use Rattle.std.specs.Map.{keys_of, lookup, remove_entry}
use Rattle.std.proofs.Math.ListN.{set}
use Rattle.std.proofs.Math.Seq.{set-append_seam, get_or-append_seam, drop-cons}
use Rattle.std.proofs.Math.ListN.{length-set}
use Rattle.std.proofs.lemmas.Bool.{cases_eq, ne_eqb, le-ltb, lt-ltb}
use Rattle.std.proofs.lemmas.Grind.{flat_map-append}
use Rattle.std.proofs.lemmas.List.{map-append, length-append, length-take-le, length-map, nil_from_length, take_more, take-append-drop}
use Rattle.mq_flow.specs.declared.table.Held.{Held}
use Rattle.mq_flow.specs.Sender.{times}
use Rattle.mq_flow.specs.Held.{id_in, pair_in, pairs_in, is_under, later, place_from, IsPlaced}
use Rattle.mq_flow.specs.Inside.Held.{gone_out}
use Rattle.mq_flow.proofs.Counting.{times_append, times_same, times_other, eqb_self}
use Rattle.mq_flow.proofs.Holding.{found_keys, lookup_here, lookup_there, id_gone}

-- ---- the first of two

later_none : (o : Option ℕ) → later o None ≡ o
later_none (Some i) = refl
later_none None = refl

later_assoc : (a b c : Option ℕ) → later (later a b) c ≡ later a (later b c)
later_assoc (Some i) b c = refl
later_assoc None b c = refl

-- ---- places after places

from_append : (at i : ℕ) (xs ys : List (Option Held)) → place_from at i (xs ++ ys) ≡ later (place_from (at + length xs) i ys) (place_from at i xs)
from_append at i [] ys = let e : at ≡ at + 0 = omega arith in ap (λ (n : ℕ). place_from n i ys) e ∙ sym (later_none (place_from (at + 0) i ys))
from_append at i (x ∷ xs) ys =
    let here : Option ℕ = cond (is_under i x) (Some at) None in
    let e : at + 1 + length xs ≡ at + length (x ∷ xs) = omega arith in
    ap (λ (o : Option ℕ). later o here) (from_append (at + 1) i xs ys ∙ ap (λ (n : ℕ). later (place_from n i ys) (place_from (at + 1) i xs)) e)
    ∙ later_assoc (place_from (at + length (x ∷ xs)) i ys) (place_from (at + 1) i xs) here

pub pairs_append : (xs ys : List (Option Held)) → pairs_in (xs ++ ys) ≡ pairs_in xs ++ pairs_in ys
pairs_append xs ys = flat_map-append pair_in xs ys

times_keys_append : (i : ℕ) (ps rs : List (ℕ × Held)) → times i (keys_of (ps ++ rs)) ≡ times i (keys_of ps) + times i (keys_of rs)
times_keys_append i ps rs = ap (times i) (map-append (λ (p : ℕ × Held). p.0) ps rs) ∙ times_append i (keys_of ps) (keys_of rs)

pub times_places : (i : ℕ) (xs ys : List (Option Held)) → times i (keys_of (pairs_in (xs ++ ys))) ≡ times i (keys_of (pairs_in xs)) + times i (keys_of (pairs_in ys))
times_places i xs ys = ap (λ (ps : List (ℕ × Held)). times i (keys_of ps)) (pairs_append xs ys) ∙ times_keys_append i (pairs_in xs) (pairs_in ys)

-- ---- an identifier that is in no place

from_absent : (at i : ℕ) (xs : List (Option Held)) → times i (keys_of (pairs_in xs)) ≡ 0 → place_from at i xs ≡ None
from_absent at i [] z = refl
from_absent at i (None ∷ xs) z = later_none (place_from (at + 1) i xs) ∙ from_absent (at + 1) i xs z
from_absent at i (Some h ∷ xs) z = elim (cases_eq (id_in h) i) [
  | inl e ↦
      let t : times i (id_in h ∷ keys_of (pairs_in xs)) ≡ 1 + times i (keys_of (pairs_in xs)) = subst (λ (j : ℕ). times i (j ∷ keys_of (pairs_in xs)) ≡ 1 + times i (keys_of (pairs_in xs))) (sym e) (times_same i (keys_of (pairs_in xs))) in
      absurd (omega arith)
  | inr n ↦
      let t = times_other i (id_in h) (keys_of (pairs_in xs)) n in
      ap (λ (b : Bool). later (place_from (at + 1) i xs) (cond b (Some at) None)) (ne_eqb (id_in h) i n)
      ∙ later_none (place_from (at + 1) i xs) ∙ from_absent (at + 1) i xs (omega arith)
]

-- ---- an identifier that is in a place

pub record At (at i k : ℕ) (xs : List (Option Held)) : Type 0 where
  pub front : List (Option Held)
  pub held : Held
  pub back : List (Option Held)
  pub is : xs ≡ front ++ Some held ∷ back
  pub place : k ≡ at + length front
  pub id : id_in held ≡ i

at_next : (at i k : ℕ) (x : Option Held) (xs : List (Option Held)) → At (at + 1) i k xs → At at i k (x ∷ xs)
at_next at i k x xs a = let p = a.place in record {
  front = x ∷ a.front;
  held = a.held;
  back = a.back;
  is = ap (λ (l : List (Option Held)). x ∷ l) a.is;
  place = omega arith;
  id = a.id;
}

pub found_at : (at i k : ℕ) (xs : List (Option Held)) → place_from at i xs ≡ Some k → At at i k xs
found_at at i k [] e = absurd cc
found_at at i k (x ∷ xs) e = go (place_from (at + 1) i xs) refl (λ w. found_at (at + 1) i k xs w)
  where
    here : (x : Option Held) → cond (is_under i x) (Some at) None ≡ Some k → At at i k (x ∷ xs)
    here None e = absurd cc
    here (Some h) e = elim (cases_eq (id_in h) i) [
      | inl s ↦
          let t : eqb (id_in h) i ≡ true = subst (λ (j : ℕ). eqb (id_in h) j ≡ true) s (eqb_self (id_in h)) in
          let w : Some at ≡ Some k = sym (ap (λ (b : Bool). cond b (Some at) None) t) ∙ e in
          let p : at ≡ k = cc in
          record { front = []; held = h; back = xs; is = refl; place = omega arith; id = s }
      | inr n ↦ (
          let w : None ≡ Some k = sym (ap (λ (b : Bool). cond b (Some at) None) (ne_eqb (id_in h) i n)) ∙ e in
          absurd cc)
    ]

    go : (o : Option ℕ) → place_from (at + 1) i xs ≡ o → (place_from (at + 1) i xs ≡ Some k → At (at + 1) i k xs) → At at i k (x ∷ xs)
    go (Some j) s rest =
        let w : Some j ≡ Some k = sym (ap (λ (o : Option ℕ). later o (cond (is_under i x) (Some at) None)) s) ∙ e in
        at_next at i k x xs (rest (s ∙ w))
    go None s rest = here x (sym (ap (λ (o : Option ℕ). later o (cond (is_under i x) (Some at) None)) s) ∙ e)

-- ---- look-ups past pairs of other identifiers

lookup_past : (i : ℕ) (ps rs : List (ℕ × Held)) → times i (keys_of ps) ≡ 0 → lookup (eqb i) (ps ++ rs) ≡ lookup (eqb i) rs
lookup_past i [] rs z = refl
lookup_past i ((k, h) ∷ ps) rs z = elim (cases_eq i k) [
  | inl e ↦
      let t : times i (k ∷ keys_of ps) ≡ 1 + times i (keys_of ps) = subst (λ (j : ℕ). times i (j ∷ keys_of ps) ≡ 1 + times i (keys_of ps)) e (times_same i (keys_of ps)) in
      absurd (omega arith)
  | inr n ↦ let t = times_other i k (keys_of ps) (λ e. n (sym e)) in lookup_there i k h (ps ++ rs) n ∙ lookup_past i ps rs (omega arith)
]

remove_past : (i : ℕ) (ps rs : List (ℕ × Held)) → times i (keys_of ps) ≡ 0 → remove_entry (eqb i) (ps ++ rs) ≡ ps ++ remove_entry (eqb i) rs
remove_past i [] rs z = refl
remove_past i ((k, h) ∷ ps) rs z = elim (cases_eq i k) [
  | inl e ↦
      let t : times i (k ∷ keys_of ps) ≡ 1 + times i (keys_of ps) = subst (λ (j : ℕ). times i (j ∷ keys_of ps) ≡ 1 + times i (keys_of ps)) e (times_same i (keys_of ps)) in
      absurd (omega arith)
  | inr n ↦
      let t = times_other i k (keys_of ps) (λ e. n (sym e)) in
      let P : Bool → Type 0 = λ b. cond b (ps ++ rs) ((k, h) ∷ remove_entry (eqb i) (ps ++ rs)) ≡ (k, h) ∷ (ps ++ remove_entry (eqb i) rs) in
      subst P (sym (ne_eqb i k n)) (ap (λ (l : List (ℕ × Held)). (k, h) ∷ l) (remove_past i ps rs (omega arith)))
]

pub not_found : (i : ℕ) (ps : List (ℕ × Held)) → times i (keys_of ps) ≡ 0 → lookup (eqb i) ps ≡ None
not_found i ps z = nothing (lookup (eqb i) ps) (found_keys i ps ∙ le-ltb 0 (times i (keys_of ps)) (omega arith))
  where
    nothing : (o : Option Held) → is_some o ≡ false → o ≡ None
    nothing (Some h) e = absurd cc
    nothing None e = refl

pub unfound : (i : ℕ) (ps : List (ℕ × Held)) → lookup (eqb i) ps ≡ None → times i (keys_of ps) ≡ 0
unfound i ps e = elim (cases_eq (times i (keys_of ps)) 0) [
  | inl z ↦ z
  | inr n ↦ (let t : ltb 0 (times i (keys_of ps)) ≡ true = lt-ltb 0 (times i (keys_of ps)) (omega arith) in let w : false ≡ true = sym (ap is_some e) ∙ found_keys i ps ∙ t in absurd cc)
]

pub remove_absent : (i : ℕ) (ps : List (ℕ × Held)) → times i (keys_of ps) ≡ 0 → remove_entry (eqb i) ps ≡ ps
remove_absent i ps z = ap (remove_entry (eqb i)) (sym (append-nil ps)) ∙ remove_past i ps [] z ∙ append-nil ps

-- ---- The entry in a slot

module _ (i : ℕ) (front : List (Option Held)) (h : Held) (back : List (Option Held)) (id : id_in h ≡ i)
    (once : times i (keys_of (pairs_in (front ++ Some h ∷ back))) ≤ 1) where
  one : times i (id_in h ∷ keys_of (pairs_in back)) ≡ 1 + times i (keys_of (pairs_in back))
  one = subst (λ (j : ℕ). times i (j ∷ keys_of (pairs_in back)) ≡ 1 + times i (keys_of (pairs_in back))) (sym id) (times_same i (keys_of (pairs_in back)))

  before : times i (keys_of (pairs_in front)) ≡ 0
  before = let t = times_places i front (Some h ∷ back) in let o = one in omega arith

  behind : times i (keys_of (pairs_in back)) ≡ 0
  behind = let t = times_places i front (Some h ∷ back) in let o = one in omega arith

  found_held : lookup (eqb i) (pairs_in (front ++ Some h ∷ back)) ≡ Some h
  found_held =
      ap (lookup (eqb i)) (pairs_append front (Some h ∷ back)) ∙ lookup_past i (pairs_in front) (pairs_in (Some h ∷ back)) before
      ∙ lookup_here i (id_in h) h (pairs_in back) (sym id)

  taken : pairs_in (front ++ None ∷ back) ≡ remove_entry (eqb i) (pairs_in (front ++ Some h ∷ back))
  taken =
      let P : Bool → Type 0 = λ b. cond b (pairs_in back) ((id_in h, h) ∷ remove_entry (eqb i) (pairs_in back)) ≡ pairs_in back in
      let t : eqb i (id_in h) ≡ true = subst (λ (j : ℕ). eqb j (id_in h) ≡ true) id (eqb_self (id_in h)) in
      let rest : remove_entry (eqb i) (pairs_in (Some h ∷ back)) ≡ pairs_in back = subst P (sym t) refl in
      pairs_append front (None ∷ back)
      ∙ sym (ap (remove_entry (eqb i)) (pairs_append front (Some h ∷ back)) ∙ remove_past i (pairs_in front) (pairs_in (Some h ∷ back)) before ∙ ap (λ (l : List (ℕ × Held)). pairs_in front ++ l) rest)

  gone_from : (j : ℕ) → place_from 0 j (front ++ None ∷ back) ≡ cond (eqb i j) None (place_from 0 j (front ++ Some h ∷ back))
  gone_from j = elim (cases_eq i j) [
    | inl e ↦
        let n : place_from 0 i (front ++ None ∷ back) ≡ None = from_absent 0 i (front ++ None ∷ back) (let t = times_places i front (None ∷ back) in let b = before in let r = behind in omega arith) in
        let t : eqb i j ≡ true = subst (λ (k : ℕ). eqb i k ≡ true) e (eqb_self i) in
        ap (λ (k : ℕ). place_from 0 k (front ++ None ∷ back)) (sym e) ∙ n ∙ sym (ap (λ (b : Bool). cond b None (place_from 0 j (front ++ Some h ∷ back))) t)
    | inr n ↦
        let other : eqb (id_in h) j ≡ false = ne_eqb (id_in h) j (λ s. n (sym id ∙ s)) in
        let same : place_from (0 + length front) j (None ∷ back) ≡ place_from (0 + length front) j (Some h ∷ back) =
        sym (ap (λ (b : Bool). later (place_from (0 + length front + 1) j back) (cond b (Some (0 + length front)) None)) other) in
        from_append 0 j front (None ∷ back) ∙ ap (λ (o : Option ℕ). later o (place_from 0 j front)) same ∙ sym (from_append 0 j front (Some h ∷ back))
        ∙ sym (ap (λ (b : Bool). cond b None (place_from 0 j (front ++ Some h ∷ back))) (ne_eqb i j n))
  ]

-- ---- The invariant of a table

-- nothing is in no places
pub none_placed : IsPlaced [] (λ i. None) 0
none_placed = record { at = λ i. refl; once = λ i. omega arith; many = refl }

-- Likewise if look-ups and the count are the same.
pub same_placed : (xs : List (Option Held)) (f g : ℕ → Option ℕ) (n m : ℕ) → IsPlaced xs f n → ((i : ℕ) → g i ≡ f i) → m ≡ n → IsPlaced xs g m
same_placed xs f g n m p s e = record { at = λ i. s i ∙ p.at i; once = p.once; many = e ∙ p.many }

-- an empty place comes
pub empty_placed : (xs : List (Option Held)) (f : ℕ → Option ℕ) (n : ℕ) → IsPlaced xs f n → IsPlaced (xs ++ None ∷ []) f n
empty_placed xs f n p = record {
  at = λ i. p.at i ∙ sym (from_append 0 i xs (None ∷ []));
  once = λ i. let t = times_places i xs (None ∷ []) in let o = p.once i in omega arith;
  many = p.many ∙ ap length (sym (pairs_append xs (None ∷ []) ∙ append-nil (pairs_in xs)));
}

-- a pair comes
pub put_placed : (xs : List (Option Held)) (f g : ℕ → Option ℕ) (n m : ℕ) (h : Held) → IsPlaced xs f n → times (id_in h) (keys_of (pairs_in xs)) ≡ 0
    → ((i : ℕ) → g i ≡ cond (eqb (id_in h) i) (Some (length xs)) (f i)) → m ≡ n + 1 → IsPlaced (xs ++ Some h ∷ []) g m
put_placed xs f g n m h p z s e = record {
  at = λ i. s i ∙ (elim (cases_eq (id_in h) i) [
    | inl t ↦
        let u : eqb (id_in h) i ≡ true = subst (λ (j : ℕ). eqb (id_in h) j ≡ true) t (eqb_self (id_in h)) in
        let w : length xs ≡ 0 + length xs = omega arith in
        ap (λ (b : Bool). cond b (Some (length xs)) (f i)) u ∙ ap Some w
        ∙ sym (from_append 0 i xs (Some h ∷ []) ∙ ap (λ (b : Bool). later (cond b (Some (0 + length xs)) None) (place_from 0 i xs)) u)
    | inr t ↦
        let u : eqb (id_in h) i ≡ false = ne_eqb (id_in h) i t in
        ap (λ (b : Bool). cond b (Some (length xs)) (f i)) u ∙ p.at i
        ∙ sym (from_append 0 i xs (Some h ∷ []) ∙ ap (λ (b : Bool). later (cond b (Some (0 + length xs)) None) (place_from 0 i xs)) u)
  ]);
  once = λ i. let t = times_places i xs (Some h ∷ []) in let o = p.once i in elim (cases_eq (id_in h) i) [
    | inl u ↦
        let w : times i (keys_of (pairs_in xs)) ≡ 0 = subst (λ (j : ℕ). times j (keys_of (pairs_in xs)) ≡ 0) u z in
        let v : times i (id_in h ∷ []) ≡ 1 = subst (λ (j : ℕ). times i (j ∷ []) ≡ 1) (sym u) (times_same i []) in
        omega arith
    | inr u ↦ let v = times_other i (id_in h) [] u in omega arith
  ];
  many = let l = p.many in let a = ap length (pairs_append xs (Some h ∷ [])) in let b = length-append (pairs_in xs) (pairs_in (Some h ∷ [])) in omega arith;
}

-- The slot of an identifier, and its entry.
pub record Holds (xs : List (Option Held)) (i k : ℕ) : Type 0 where
  pub held : Held
  pub id : id_in held ≡ i
  pub within : k < length xs
  pub here : (d : Option Held) → get_or xs k d ≡ Some held
  pub found : lookup (eqb i) (pairs_in xs) ≡ Some held

-- The slots, split at the slot of an identifier.
record Split (xs : List (Option Held)) (i k : ℕ) : Type 0 where
  front : List (Option Held)
  held : Held
  back : List (Option Held)
  is : xs ≡ front ++ Some held ∷ back
  place : k ≡ length front
  id : id_in held ≡ i
  once : times i (keys_of (pairs_in (front ++ Some held ∷ back))) ≤ 1

split : (xs : List (Option Held)) (f : ℕ → Option ℕ) (n i k : ℕ) → IsPlaced xs f n → f i ≡ Some k → Split xs i k
split xs f n i k p e =
    let a = found_at 0 i k xs (sym (p.at i) ∙ e) in
    let w = a.place in
    record {
      front = a.front;
      held = a.held;
      back = a.back;
      is = a.is;
      place = omega arith;
      id = a.id;
      once = subst (λ (l : List (Option Held)). times i (keys_of (pairs_in l)) ≤ 1) a.is (p.once i);
    }

pub holds : (xs : List (Option Held)) (f : ℕ → Option ℕ) (n i k : ℕ) → IsPlaced xs f n → f i ≡ Some k → Holds xs i k
holds xs f n i k p e =
    let s = split xs f n i k p e in
    let w = s.place in
    let long : length xs ≡ length s.front + length (Some s.held ∷ s.back) = ap length s.is ∙ length-append s.front (Some s.held ∷ s.back) in
    record {
      held = s.held;
      id = s.id;
      within = omega arith;
      here = λ d. ap (λ (l : List (Option Held)). get_or l k d) s.is ∙ ap (λ (m : ℕ). get_or (s.front ++ Some s.held ∷ s.back) m d) s.place ∙ get_or-append_seam s.front (Some s.held) s.back d;
      found = ap (λ (l : List (Option Held)). lookup (eqb i) (pairs_in l)) s.is ∙ found_held i s.front s.held s.back s.id s.once;
    }

-- Without a slot nothing is found.
from_none : (at i : ℕ) (xs : List (Option Held)) → place_from at i xs ≡ None → times i (keys_of (pairs_in xs)) ≡ 0
from_none at i [] e = refl
from_none at i (x ∷ xs) e = go (place_from (at + 1) i xs) refl (λ w. from_none (at + 1) i xs w)
  where
    here : (x : Option Held) → times i (keys_of (pairs_in xs)) ≡ 0 → cond (is_under i x) (Some at) None ≡ None → times i (keys_of (pairs_in (x ∷ xs))) ≡ 0
    here None z e = z
    here (Some h) z e = elim (cases_eq (id_in h) i) [
      | inl s ↦ (
          let t : eqb (id_in h) i ≡ true = subst (λ (j : ℕ). eqb (id_in h) j ≡ true) s (eqb_self (id_in h)) in
          let w : Some at ≡ None = sym (ap (λ (b : Bool). cond b (Some at) None) t) ∙ e in
          absurd cc)
      | inr n ↦ let t = times_other i (id_in h) (keys_of (pairs_in xs)) n in omega arith
    ]

    go : (o : Option ℕ) → place_from (at + 1) i xs ≡ o → (place_from (at + 1) i xs ≡ None → times i (keys_of (pairs_in xs)) ≡ 0) → times i (keys_of (pairs_in (x ∷ xs))) ≡ 0
    go (Some j) s rest = (let w : Some j ≡ None = sym (ap (λ (o : Option ℕ). later o (cond (is_under i x) (Some at) None)) s) ∙ e in absurd cc)
    go None s rest = here x (rest s) (sym (ap (λ (o : Option ℕ). later o (cond (is_under i x) (Some at) None)) s) ∙ e)

pub holds_none : (xs : List (Option Held)) (f : ℕ → Option ℕ) (n i : ℕ) → IsPlaced xs f n → f i ≡ None → times i (keys_of (pairs_in xs)) ≡ 0
holds_none xs f n i p e = from_none 0 i xs (sym (p.at i) ∙ e)

-- Slots without entries are as good as no slots.
module _ (xs : List (Option Held)) (f : ℕ → Option ℕ) (n : ℕ) (p : IsPlaced xs f n) (none : n ≡ 0) where
  pub no_pairs : pairs_in xs ≡ []
  no_pairs = nil_from_length (pairs_in xs) (sym p.many ∙ none)

  nowhere : (i : ℕ) (o : Option ℕ) → f i ≡ o → f i ≡ None
  nowhere i None e = e
  nowhere i (Some k) e =
      let there = holds xs f n i k p e in
      let clash : None ≡ Some there.held = sym (ap (lookup (eqb i)) no_pairs) ∙ there.found in
      absurd cc

  pub no_slots : IsPlaced [] f n
  no_slots = record {
    at = λ i. nowhere i (f i) refl;
    once = λ i. lit≤ tt;
    many = none;
  }

-- a pair goes
pub record Taken (xs ys : List (Option Held)) (i m : ℕ) (g : ℕ → Option ℕ) : Type 0 where
  pub placed : IsPlaced ys g m
  pub pairs : pairs_in ys ≡ remove_entry (eqb i) (pairs_in xs)
  pub none : times i (keys_of (pairs_in ys)) ≡ 0

pub take_placed : (xs : List (Option Held)) (f g : ℕ → Option ℕ) (n m i k : ℕ) → IsPlaced xs f n → f i ≡ Some k → ((j : ℕ) → g j ≡ cond (eqb i j) None (f j)) → m + 1 ≡ n → Taken xs (set xs k None) i m g
take_placed xs f g n m i k p e t c =
    let s = split xs f n i k p e in
    let cut : set xs k None ≡ s.front ++ None ∷ s.back = ap (λ (l : List (Option Held)). set l k None) s.is ∙ ap (λ (j : ℕ). set (s.front ++ Some s.held ∷ s.back) j None) s.place ∙ set-append_seam s.front (Some s.held) s.back None in
    let zero_front = before i s.front s.held s.back s.id s.once in
    let zero_back = behind i s.front s.held s.back s.id s.once in
    subst (λ (l : List (Option Held)). Taken xs l i m g) (sym cut) (record {
      placed = record {
        at = λ j. t j ∙ ap (λ (o : Option ℕ). cond (eqb i j) None o) (p.at j ∙ ap (place_from 0 j) s.is) ∙ sym (gone_from i s.front s.held s.back s.id s.once j);
        once = λ j.
            let o : times j (keys_of (pairs_in (s.front ++ Some s.held ∷ s.back))) ≤ 1 = subst (λ (l : List (Option Held)). times j (keys_of (pairs_in l)) ≤ 1) s.is (p.once j) in
            let w = times_places j s.front (Some s.held ∷ s.back) in
            let r = times_places j s.front (None ∷ s.back) in
            omega arith;
        many =
            let l = p.many in
            let q : length (pairs_in xs) ≡ length (pairs_in s.front) + length (pairs_in (Some s.held ∷ s.back)) = ap (λ (l : List (Option Held)). length (pairs_in l)) s.is ∙ ap length (pairs_append s.front (Some s.held ∷ s.back)) ∙ length-append (pairs_in s.front) (pairs_in (Some s.held ∷ s.back)) in
            let r : length (pairs_in (s.front ++ None ∷ s.back)) ≡ length (pairs_in s.front) + length (pairs_in s.back) = ap length (pairs_append s.front (None ∷ s.back)) ∙ length-append (pairs_in s.front) (pairs_in s.back) in
            omega arith;
      };
      pairs = taken i s.front s.held s.back s.id s.once ∙ ap (λ (l : List (Option Held)). remove_entry (eqb i) (pairs_in l)) (sym s.is);
      none = let w = times_places i s.front (None ∷ s.back) in omega arith;
    })

-- a pair goes last, with another value
pub turn_placed : (xs : List (Option Held)) (f g : ℕ → Option ℕ) (n m i k : ℕ) (h : Held) → IsPlaced xs f n → f i ≡ Some k → id_in h ≡ i
    → ((j : ℕ) → g j ≡ cond (eqb i j) (Some (length xs)) (f j)) → m ≡ n
    → IsPlaced (set xs k None ++ Some h ∷ []) g m × (pairs_in (set xs k None ++ Some h ∷ []) ≡ remove_entry (eqb i) (pairs_in xs) ++ (i, h) ∷ [])
turn_placed xs f g n m i k h p e id t c =
    let there = holds xs f n i k p e in
    let some = within_some xs i there.held there.found in
    let many = p.many in
    let out = take_placed xs f (λ j. cond (eqb i j) None (f j)) n (n - 1) i k p e (λ j. refl) (omega arith) in
    let none : times (id_in h) (keys_of (pairs_in (set xs k None))) ≡ 0 = subst (λ (j : ℕ). times j (keys_of (pairs_in (set xs k None))) ≡ 0) (sym id) out.none in
    let long : length (set xs k None) ≡ length xs = length-set xs k None in (
      put_placed (set xs k None) (λ j. cond (eqb i j) None (f j)) g (n - 1) m h out.placed none (λ j. t j ∙ either j (eqb i j) refl) (omega arith),
      pairs_append (set xs k None) (Some h ∷ []) ∙ ap (λ (l : List (ℕ × Held)). l ++ (id_in h, h) ∷ []) out.pairs ∙ ap (λ (j : ℕ). remove_entry (eqb i) (pairs_in xs) ++ (j, h) ∷ []) id,
    )
  where
    within_some : (xs : List (Option Held)) (i : ℕ) (h : Held) → lookup (eqb i) (pairs_in xs) ≡ Some h → 1 ≤ length (pairs_in xs)
    within_some xs i h e = go (pairs_in xs) e
      where
        go : (ps : List (ℕ × Held)) → lookup (eqb i) ps ≡ Some h → 1 ≤ length ps
        go [] e = absurd cc
        go (p ∷ ps) e = omega arith

    either : (j : ℕ) (b : Bool) → eqb i j ≡ b → cond (eqb i j) (Some (length xs)) (f j) ≡ cond (eqb (id_in h) j) (Some (length (set xs k None))) (cond (eqb i j) None (f j))
    either j b e =
        let s : eqb (id_in h) j ≡ b = ap (λ (m : ℕ). eqb m j) id ∙ e in
        ap (λ (b : Bool). cond b (Some (length xs)) (f j)) e ∙ both b ∙ sym (ap (λ (x : Bool). cond x (Some (length (set xs k None))) (cond (eqb i j) None (f j))) s ∙ ap (λ (x : Bool). cond b (Some (length (set xs k None))) (cond x None (f j))) e)
      where
        both : (b : Bool) → cond b (Some (length xs)) (f j) ≡ cond b (Some (length (set xs k None))) (cond b None (f j))
        both true = ap Some (sym (length-set xs k None))
        both false = refl

-- ---- their number

pub length_removed : (i : ℕ) (ps : List (ℕ × Held)) → length (remove_entry (eqb i) ps) ≤ length ps
length_removed i [] = omega arith
length_removed i (p ∷ ps) = go (eqb i p.0) (length_removed i ps)
  where
    go : (b : Bool) → length (remove_entry (eqb i) ps) ≤ length ps → length (cond b ps (p ∷ remove_entry (eqb i) ps)) ≤ length (p ∷ ps)
    go true h = omega arith
    go false h = omega arith

pub length_turned : (i : ℕ) (ps : List (ℕ × Held)) → IsSome (lookup (eqb i) ps) → length (remove_entry (eqb i) ps) + 1 ≡ length ps
length_turned i [] s = absurd cc
length_turned i (p ∷ ps) s = go (eqb i p.0) s (λ t. length_turned i ps t)
  where
    go : (b : Bool) → IsSome (cond b (Some p.1) (lookup (eqb i) ps)) → (IsSome (lookup (eqb i) ps) → length (remove_entry (eqb i) ps) + 1 ≡ length ps) → length (cond b ps (p ∷ remove_entry (eqb i) ps)) + 1 ≡ length (p ∷ ps)
    go true s rest = omega arith
    go false s rest = let h = rest s in omega arith

pub some_pairs : (i : ℕ) (ps : List (ℕ × Held)) → IsSome (lookup (eqb i) ps) → 0 < length ps
some_pairs i [] s = absurd cc
some_pairs i (p ∷ ps) s = omega arith

-- ---- all are numbered anew

-- an identifier that is found nowhere has no place
pub no_place : (xs : List (Option Held)) (f : ℕ → Option ℕ) (n i : ℕ) → IsPlaced xs f n → times i (keys_of (pairs_in xs)) ≡ 0 → f i ≡ None
no_place xs f n i p z = p.at i ∙ from_absent 0 i xs z

pub free_place : (xs : List (Option Held)) (f : ℕ → Option ℕ) (n i : ℕ) → IsPlaced xs f n → lookup (eqb i) (pairs_in xs) ≡ None → f i ≡ None
free_place xs f n i p e = no_place xs f n i p (unfound i (pairs_in xs) e)

-- An identifier that has no slot.
pub never_found : (xs : List (Option Held)) (f : ℕ → Option ℕ) (n i : ℕ) → IsPlaced xs f n → f i ≡ None → lookup (eqb i) (pairs_in xs) ≡ None
never_found xs f n i p e = not_found i (pairs_in xs) (holds_none xs f n i p e)

module _ (xs : List (Option Held)) (n : ℕ) (x : Option Held) (lt : n < length xs) (is : x ≡ get_or xs n x) where
  whole : take n xs ++ x ∷ drop (suc n) xs ≡ xs
  whole = ap (λ (y : Option Held). take n xs ++ y ∷ drop (suc n) xs) is ∙ ap (λ (l : List (Option Held)). take n xs ++ l) (sym (drop-cons xs n x lt)) ∙ take-append-drop n xs

  next : take (n + 1) xs ≡ take n xs ++ x ∷ []
  next = take_more xs n x lt ∙ ap (λ (y : Option Held). take n xs ++ y ∷ []) (sym is)

  -- a pair that comes was not there
  pub fresh : (h : Held) → x ≡ Some h → ((i : ℕ) → times i (keys_of (pairs_in xs)) ≤ 1) → times (id_in h) (keys_of (pairs_in (take n xs))) ≡ 0
  fresh h some once =
      let i = id_in h in
      let o : times i (keys_of (pairs_in (take n xs ++ Some h ∷ drop (suc n) xs))) ≤ 1 = subst (λ (l : List (Option Held)). times i (keys_of (pairs_in l)) ≤ 1) (sym whole ∙ ap (λ (y : Option Held). take n xs ++ y ∷ drop (suc n) xs) some) (once i) in
      let t = times_places i (take n xs) (Some h ∷ drop (suc n) xs) in
      let s = times_same i (keys_of (pairs_in (drop (suc n) xs))) in
      omega arith

  -- and it is one more
  pub fewer : (h : Held) → x ≡ Some h → length (pairs_in (take n xs)) + 1 ≤ length (pairs_in xs)
  fewer h some =
      let w : length (pairs_in (take n xs ++ Some h ∷ drop (suc n) xs)) ≡ length (pairs_in xs) = ap (λ (l : List (Option Held)). length (pairs_in l)) (ap (λ (y : Option Held). take n xs ++ y ∷ drop (suc n) xs) (sym some) ∙ whole) in
      let a = ap length (pairs_append (take n xs) (Some h ∷ drop (suc n) xs)) in
      let b = length-append (pairs_in (take n xs)) (pairs_in (Some h ∷ drop (suc n) xs)) in
      omega arith

  pub numbered : (h : Held) (f g : ℕ → Option ℕ) (c m : ℕ) → x ≡ Some h → ((i : ℕ) → times i (keys_of (pairs_in xs)) ≤ 1) → IsPlaced (take n xs) f c
      → ((i : ℕ) → g i ≡ cond (eqb (id_in h) i) (Some n) (f i)) → m ≡ c + 1 → IsPlaced (take (n + 1) xs) g m
  numbered h f g c m some once p s e =
      let long : length (take n xs) ≡ n = length-take-le n xs (omega arith) in
      subst (λ (l : List (Option Held)). IsPlaced l g m) (sym (next ∙ ap (λ (y : Option Held). take n xs ++ y ∷ []) some))
      (put_placed (take n xs) f g c m h p (fresh h some once) (λ i. s i ∙ ap (λ (j : ℕ). cond (eqb (id_in h) i) (Some j) (f i)) (sym long)) e)

  pub passed_by : (f : ℕ → Option ℕ) (c : ℕ) → x ≡ None → IsPlaced (take n xs) f c → IsPlaced (take (n + 1) xs) f c
  passed_by f c none p = subst (λ (l : List (Option Held)). IsPlaced l f c) (sym (next ∙ ap (λ (y : Option Held). take n xs ++ y ∷ []) none)) (empty_placed (take n xs) f c p)

-- ---- all have sent

from_marked : (at i : ℕ) (xs : List (Option Held)) → place_from at i (map (option_map gone_out) xs) ≡ place_from at i xs
from_marked at i [] = refl
from_marked at i (None ∷ xs) = ap (λ (o : Option ℕ). later o None) (from_marked (at + 1) i xs)
from_marked at i (Some h ∷ xs) =
    ap (λ (o : Option ℕ). later o (cond (eqb (id_in (gone_out h)) i) (Some at) None)) (from_marked (at + 1) i xs)
    ∙ ap (λ (j : ℕ). later (place_from (at + 1) i xs) (cond (eqb j i) (Some at) None)) (id_gone h)

keys_marked : (xs : List (Option Held)) → keys_of (pairs_in (map (option_map gone_out) xs)) ≡ keys_of (pairs_in xs)
keys_marked [] = refl
keys_marked (None ∷ xs) = keys_marked xs
keys_marked (Some h ∷ xs) = ap (λ (l : List ℕ). id_in (gone_out h) ∷ l) (keys_marked xs) ∙ ap (λ (j : ℕ). j ∷ keys_of (pairs_in xs)) (id_gone h)

pub pairs_marked : (xs : List (Option Held)) → pairs_in (map (option_map gone_out) xs) ≡ map (λ p. (p.0, gone_out p.1)) (pairs_in xs)
pairs_marked [] = refl
pairs_marked (None ∷ xs) = pairs_marked xs
pairs_marked (Some h ∷ xs) =
    ap (λ (l : List (ℕ × Held)). (id_in (gone_out h), gone_out h) ∷ l) (pairs_marked xs)
    ∙ ap (λ (j : ℕ). (j, gone_out h) ∷ map (λ (p : ℕ × Held). (p.0, gone_out p.1)) (pairs_in xs)) (id_gone h)

pub length_marked : (xs : List (Option Held)) → length (pairs_in (map (option_map gone_out) xs)) ≡ length (pairs_in xs)
length_marked [] = refl
length_marked (None ∷ xs) = length_marked xs
length_marked (Some h ∷ xs) = let e = length_marked xs in omega arith

pub marked_placed : (xs : List (Option Held)) (f : ℕ → Option ℕ) (n : ℕ) → IsPlaced xs f n → IsPlaced (map (option_map gone_out) xs) f n
marked_placed xs f n p = record {
  at = λ i. p.at i ∙ sym (from_marked 0 i xs);
  once = λ i. subst (λ (l : List ℕ). times i l ≤ 1) (sym (keys_marked xs)) (p.once i);
  many = p.many ∙ sym (length_marked xs);
}

-- one more of a list is changed, after n have
pub one_changed : {X : Type 0} (f : X → X) (xs ys zs : List X) (n : ℕ) (x y : X) → n < length xs → ys ≡ map f (take n xs) ++ drop n xs → x ≡ get_or ys n x → y ≡ f x → zs ≡ set ys n y
    → zs ≡ map f (take (n + 1) xs) ++ drop (n + 1) xs
one_changed f xs ys zs n x y lt at read made written =
    let front = map f (take n xs) in
    let v = get_or xs n x in
    let tail = drop (suc n) xs in
    let long : length front ≡ n = length-map (take n xs) f ∙ length-take-le n xs (omega arith) in
    let split : ys ≡ front ++ v ∷ tail = at ∙ ap (λ l. front ++ l) (drop-cons xs n x lt) in
    let same : x ≡ v = read ∙ ap (λ l. get_or l n x) split ∙ ap (λ m. get_or (front ++ v ∷ tail) m x) (sym long) ∙ get_or-append_seam front v tail x in
    let put : zs ≡ front ++ f v ∷ tail = written ∙ ap (λ l. set l n y) split ∙ ap (λ m. set (front ++ v ∷ tail) m y) (sym long) ∙ set-append_seam front v tail y ∙ ap (λ w. front ++ w ∷ tail) (made ∙ ap f same) in
    let more : map f (take (n + 1) xs) ≡ front ++ f v ∷ [] = ap (map f) (take_more xs n x lt) ∙ map-append f (take n xs) (v ∷ []) in
    put ∙ sym (append_assoc front (f v ∷ []) tail) ∙ ap (λ l. l ++ tail) (sym more) ∙ rw add-one refl

-- ---- without the empty places

pub pairs_full : (xs : List (Option Held)) → pairs_in (filter is_some xs) ≡ pairs_in xs
pairs_full [] = refl
pairs_full (None ∷ xs) = pairs_full xs
pairs_full (Some h ∷ xs) = ap (λ (l : List (ℕ × Held)). (id_in h, h) ∷ l) (pairs_full xs)

pub length_full : (xs : List (Option Held)) → length (filter is_some xs) ≡ length (pairs_in xs)
length_full [] = refl
length_full (None ∷ xs) = length_full xs
length_full (Some h ∷ xs) = let e = length_full xs in omega arith

-- There are at most as many entries as slots that are not empty.
pub pairs_few : (xs : List (Option Held)) → length (pairs_in xs) ≤ length xs
pairs_few [] = omega arith
pairs_few (None ∷ xs) = let e = pairs_few xs in omega arith
pairs_few (Some h ∷ xs) = let e = pairs_few xs in omega arith
