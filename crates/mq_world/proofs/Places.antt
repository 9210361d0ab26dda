-- Places in a list: walks, the items at places, and freed places.
use Rattle.std.proofs.Common.{◌≡◌, ℕ, zero, suc, ◌+◌, ◌<◌, ◌≤◌, max, Bool, true, false, cond, ◌||◌, eqb, Some, List, [], ◌∷◌, ◌++◌, length, slice_get}
use Rattle.std.proofs.Common.{refl, sym, ap, subst, ◌∙◌, arith, inl, inr}
use Rattle.std.proofs.lemmas.Bool.{cases_eq, cases_lt, ne_eqb}
use Rattle.mq_packet.specs.declared.message.Message.{Message}
use Rattle.mq_flow.specs.Sender.{times}
use Rattle.mq_flow.proofs.Counting.{eqb_self, times_same, times_other}
use Rattle.mq_world.specs.Half.{is_given, last_place}
use Rattle.mq_world.specs.Orders.{WalkFrom, Walk, IsAt, In, AllIn, is_among, others_from, Part}
use Rattle.mq_world.proofs.Lists.{Each, ids}

-- one past the greatest place
abbrev pub reach : ℕ → List ℕ → ℕ
reach n [] = n
reach n (p ∷ ps) = reach (max n (p + 1)) ps

pub walk_more : (n : ℕ) (ps : List ℕ) (p : ℕ) → WalkFrom n ps → p ≤ reach n ps → WalkFrom n (ps ++ p ∷ [])
walk_more n [] p w le = (le, tt)
walk_more n (q ∷ ps) p w le = (w.0, walk_more (max n (q + 1)) ps p w.1 le)

pub reach_more : (n : ℕ) (ps : List ℕ) (p : ℕ) → reach n (ps ++ p ∷ []) ≡ max (reach n ps) (p + 1)
reach_more n [] p = refl
reach_more n (q ∷ ps) p = reach_more (max n (q + 1)) ps p

pub covered : (n : ℕ) (ps : List ℕ) (p : ℕ) → WalkFrom n ps → n ≤ p → p < reach n ps → In p ps
covered n [] p w le lt = absurd (omega arith)
covered n (q ∷ ps) p w le lt =
    elim (cases_lt p (max n (q + 1))) [
      | inl below ↦ let le2 : q ≤ n = w.0 in inl (omega arith)
      | inr above ↦ inr (covered (max n (q + 1)) ps p w.1 above lt)
    ]

pub all_covered : (ps places_freed : List ℕ) (n : ℕ) → Walk ps → n ≤ reach 0 ps → Each (λ p. p < n) places_freed → AllIn places_freed ps
all_covered ps [] n w le h = tt
all_covered ps (f ∷ places_freed) n w le h = (let lt : f < n = h.0 in covered 0 ps f w (omega arith) (omega arith), all_covered ps places_freed n w le h.1)

pub get_front : (ys zs : List Message) (p : ℕ) (x : Message) → slice_get ys p ≡ Some x → slice_get (ys ++ zs) p ≡ Some x
get_front [] zs p x h = cc
get_front (y ∷ ys) zs zero x h = h
get_front (y ∷ ys) zs (suc p) x h = get_front ys zs p x h

pub get_seam : (ys zs : List Message) (x : Message) → slice_get (ys ++ x ∷ zs) (length ys) ≡ Some x
get_seam [] zs x = refl
get_seam (y ∷ ys) zs x = get_seam ys zs x

pub at_more : (xs ys : List Message) (ps : List ℕ) (x : Message) (p : ℕ) → IsAt xs ys ps → slice_get ys p ≡ Some x → IsAt (xs ++ x ∷ []) ys (ps ++ p ∷ [])
at_more [] ys [] x p h e = (e, tt)
at_more [] ys (q ∷ ps) x p h e = absurd h
at_more (z ∷ xs) ys [] x p h e = absurd h
at_more (z ∷ xs) ys (q ∷ ps) x p h e = (h.0, at_more xs ys ps x p h.1 e)

pub at_grown : (xs ys zs : List Message) (ps : List ℕ) → IsAt xs ys ps → IsAt xs (ys ++ zs) ps
at_grown [] ys zs [] h = tt
at_grown [] ys zs (q ∷ ps) h = absurd h
at_grown (x ∷ xs) ys zs [] h = absurd h
at_grown (x ∷ xs) ys zs (q ∷ ps) h = (get_front ys zs q x h.0, at_grown xs ys zs ps h.1)

-- ---- Freed places

pub among_not : (n : ℕ) (places_freed : List ℕ) → Each (λ p. p < n) places_freed → is_among n places_freed ≡ false
among_not n [] h = refl
among_not n (f ∷ places_freed) h =
    let lt : f < n = h.0 in
    let ne : f ≡ n → ⊥ = λ e. absurd (omega arith) in
    ap (λ (b : Bool). b || is_among n places_freed) (ne_eqb f n ne) ∙ among_not n places_freed h.1

pub each_later : (n m : ℕ) (places_freed : List ℕ) → n ≤ m → Each (λ p. p < n) places_freed → Each (λ p. p < m) places_freed
each_later n m [] le h = tt
each_later n m (f ∷ places_freed) le h = (let lt : f < n = h.0 in omega arith, each_later n m places_freed le h.1)

pub others_none : (n : ℕ) (places_freed : List ℕ) (entries : List (ℕ × Message)) → Each (λ p. p < n) places_freed → others_from n places_freed entries ≡ entries
others_none n places_freed [] h = refl
others_none n places_freed (e ∷ entries) h =
    let P : Bool → Type 0 = λ b. cond b (others_from (n + 1) places_freed entries) (e ∷ others_from (n + 1) places_freed entries) ≡ e ∷ entries in
    subst P (sym (among_not n places_freed h))
    (ap (λ (q : List (ℕ × Message)). e ∷ q) (others_none (n + 1) places_freed entries (each_later n (n + 1) places_freed (omega arith) h)))

pub others_gone : (n : ℕ) (places_freed : List ℕ) (gone entries : List (ℕ × Message))
    → ((j : ℕ) → n ≤ j → j < n + length gone → is_among j places_freed ≡ true)
    → others_from n places_freed (gone ++ entries) ≡ others_from (n + length gone) places_freed entries
others_gone n places_freed [] entries h = ap (λ (k : ℕ). others_from k places_freed entries) (omega arith)
others_gone n places_freed (g ∷ gone) entries h =
    let P : Bool → Type 0 =
    λ b. cond b (others_from (n + 1) places_freed (gone ++ entries)) (g ∷ others_from (n + 1) places_freed (gone ++ entries)) ≡ others_from
    (n + length (g ∷ gone)) places_freed entries in
    let rest = others_gone (n + 1) places_freed gone entries (λ j le lt. h j (omega arith) (omega arith)) in
    let e : (n + 1) + length gone ≡ n + length (g ∷ gone) = omega arith in
    subst P (sym (h n (omega arith) (omega arith))) (rest ∙ ap (λ (k : ℕ). others_from k places_freed entries) e)

or_true : (b c : Bool) → c ≡ true → b || c ≡ true
or_true true c h = refl
or_true false c h = h

or_step : (b c d : Bool) → (c ≡ true → d ≡ true) → b || c ≡ true → b || d ≡ true
or_step true c d f h = refl
or_step false c d f h = f h

pub among_more : (j : ℕ) (places_freed : List ℕ) (p : ℕ) → is_among j places_freed ≡ true → is_among j (places_freed ++ p ∷ []) ≡ true
among_more j [] p h = cc
among_more j (f ∷ places_freed) p h = or_step (eqb f j) (is_among j places_freed) (is_among j (places_freed ++ p ∷ [])) (among_more j places_freed p) h

pub among_last : (j : ℕ) (places_freed : List ℕ) → is_among j (places_freed ++ j ∷ []) ≡ true
among_last j [] = ap (λ (b : Bool). b || false) (eqb_self j)
among_last j (f ∷ places_freed) = or_true (eqb f j) (is_among j (places_freed ++ j ∷ [])) (among_last j places_freed)

-- ---- the place of an identifier

pub given_not : (i : ℕ) (ps : List (ℕ × Message)) → times i (ids ps) ≡ 0 → is_given i ps ≡ false
given_not i [] z = refl
given_not i (p ∷ ps) z =
    elim (cases_eq p.0 i) [
      | inl e ↦ let h : times i (ids (p ∷ ps)) ≡ 1 + times i (ids ps) = rw e (times_same i (ids ps)) in absurd (omega arith)
      | inr n ↦ let h = times_other i p.0 (ids ps) n in ap (λ (b : Bool). b || is_given i ps) (ne_eqb p.0 i n) ∙ given_not i ps (omega arith)
    ]

pub given_at : (i : ℕ) (gone rest : List (ℕ × Message)) (p : ℕ × Message) → p.0 ≡ i → is_given i (gone ++ p ∷ rest) ≡ true
given_at i [] rest p e = ap (λ (k : ℕ). eqb k i || is_given i rest) e ∙ ap (λ (b : Bool). b || is_given i rest) (eqb_self i)
given_at i (g ∷ gone) rest p e = or_true (eqb g.0 i) (is_given i (gone ++ p ∷ rest)) (given_at i gone rest p e)

pub last_place_at : (i : ℕ) (gone rest : List (ℕ × Message)) (p : ℕ × Message) → p.0 ≡ i → times i (ids rest) ≡ 0
    → last_place i (gone ++ p ∷ rest) ≡ length gone
last_place_at i [] rest p e z = let P : Bool → Type 0 = λ b. cond b (last_place i rest + 1) 0 ≡ 0 in subst P (sym (given_not i rest z)) refl
last_place_at i (g ∷ gone) rest p e z =
    let h = last_place_at i gone rest p e z in
    let P : Bool → Type 0 = λ b. cond b (last_place i (gone ++ p ∷ rest) + 1) 0 ≡ length (g ∷ gone) in
    subst P (sym (given_at i gone rest p e)) (omega arith)

-- ---- a part of a list

pub part_self : (xs : List Message) → Part xs xs
part_self [] = tt
part_self (x ∷ xs) = inl (refl, part_self xs)

-- the last item is left out of the list, or taken
pub part_more : (xs ys : List Message) (y : Message) → Part xs ys → Part xs (ys ++ y ∷ [])
part_more [] ys y h = tt
part_more (x ∷ xs) [] y h = absurd h
part_more (x ∷ xs) (z ∷ ys) y h = elim h [
  | inl t ↦ inl (t.0, part_more xs ys y t.1)
  | inr t ↦ inr (part_more (x ∷ xs) ys y t)
]

pub part_both : (xs ys : List Message) (y : Message) → Part xs ys → Part (xs ++ y ∷ []) (ys ++ y ∷ [])
part_both [] [] y h = inl (refl, tt)
part_both [] (z ∷ ys) y h = inr (part_both [] ys y tt)
part_both (x ∷ xs) [] y h = absurd h
part_both (x ∷ xs) (z ∷ ys) y h = elim h [
  | inl t ↦ inl (t.0, part_both xs ys y t.1)
  | inr t ↦ inr (part_both (x ∷ xs) ys y t)
]

pub part_front : (xs zs ys : List Message) → Part (xs ++ zs) ys → Part xs ys
part_front [] zs ys h = tt
part_front (x ∷ xs) zs [] h = absurd h
part_front (x ∷ xs) zs (y ∷ ys) h = elim h [
  | inl t ↦ inl (t.0, part_front xs zs ys t.1)
  | inr t ↦ inr (part_front (x ∷ xs) zs ys t)
]
