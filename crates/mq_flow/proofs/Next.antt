-- Counting round to the first identifier that is free.
use Rattle.std.proofs.Common.{◌≡◌, ℕ, zero, suc, ◌+◌, ◌-◌, ◌<◌, ◌≤◌, Bool, true, false, ◌==◌, List, [], ◌∷◌, refl, sym, subst, ◌∙◌, arith, inl, inr}
use Rattle.std.proofs.lemmas.Bool.{cases_lt, cases_eq, lt-ltb, le-ltb}
use Rattle.std.specs.List.{list_any}
use Rattle.mq_packet.specs.Identifier.{IsIdentifier}
use Rattle.mq_flow.specs.Sender.{SenderBook, IsFirstFree, uses, times, steps}
use Rattle.mq_flow.specs.Next.{following, free_after, next_identifier, NextLaws}
use Rattle.mq_flow.proofs.Books.{laws as books}

-- An identifier that occurs nowhere is none of them; one that occurs is one of them.
unused : (i : ℕ) (js : List ℕ) → times i js ≡ 0 → list_any (λ j. j == i) js ≡ false
unused i [] none = refl
unused i (j ∷ js) none = go (j == i) refl none (unused i js)
  where
    go : (t : Bool) → (j == i) ≡ t → times i (j ∷ js) ≡ 0 → (times i js ≡ 0 → list_any (λ j. j == i) js ≡ false) → list_any (λ j. j == i) (j ∷ js) ≡ false
    go true e none ih = let one = rw e at none in absurd (omega arith)
    go false e none ih = let zero_more = rw e at none in rw e (ih (omega arith))

used_or : (i : ℕ) (js : List ℕ) → (times i js ≡ 0 → ⊥) → list_any (λ j. j == i) js ≡ true
used_or i [] some = absurd (some refl)
used_or i (j ∷ js) some = go (j == i) refl some (used_or i js)
  where
    go : (t : Bool) → (j == i) ≡ t → (times i (j ∷ js) ≡ 0 → ⊥) → ((times i js ≡ 0 → ⊥) → list_any (λ j. j == i) js ≡ true) → list_any (λ j. j == i) (j ∷ js) ≡ true
    go true e some ih = rw e refl
    go false e some ih = rw e (ih (λ none. some (rw e (omega arith))))

steps_below : (last i : ℕ) → last < i → steps last i ≡ i - last
steps_below last i lt = rw (lt-ltb last i lt) refl

steps_round : (last i : ℕ) → i ≤ last → steps last i ≡ (65535 - last) + i
steps_round last i le = rw (le-ltb last i le) refl

follows : (i : ℕ) → i < 65535 → following i ≡ i + 1
follows i lt = rw (lt-ltb i 65535 lt) refl

follows_round : (i : ℕ) → 65535 ≤ i → following i ≡ 1
follows_round i le = rw (le-ltb i 65535 le) refl

is_one : (i : ℕ) → IsIdentifier (following i)
is_one i = elim (cases_lt i 65535) [
  | inl lt ↦ (let e = follows i lt in (omega arith, omega arith))
  | inr le ↦ (let e = follows_round i le in (omega arith, omega arith))
]

-- One step from an identifier.
record Onward (cur j : ℕ) : Type 0 where
  at_most : steps cur j ≤ steps (following cur) j + 1
  exact : (following cur ≡ j → ⊥) → steps cur j ≡ steps (following cur) j + 1
  next : following cur ≡ j → steps cur j ≡ 1
  some : 1 ≤ steps cur j

onward : (cur j : ℕ) → IsIdentifier j → Onward cur j
onward cur j is = elim (cases_lt cur 65535) [
  | inl lt ↦ (let f = follows cur lt in elim (cases_lt cur j) [
    | inl above ↦ (let s = steps_below cur j above in elim (cases_lt (cur + 1) j) [
      | inl far ↦ (let t : steps (following cur) j ≡ j - (cur + 1) = rw f (steps_below (cur + 1) j far) in
          record { at_most = omega arith; exact = λ other. omega arith; next = λ e. absurd (omega arith); some = omega arith })
      | inr near ↦ (let t : steps (following cur) j ≡ (65535 - (cur + 1)) + j = rw f (steps_round (cur + 1) j near) in
          record { at_most = omega arith; exact = λ other. absurd (other (f ∙ omega arith)); next = λ e. omega arith; some = omega arith })
    ])
    | inr below ↦ (let s = steps_round cur j below in
        let t : steps (following cur) j ≡ (65535 - (cur + 1)) + j = rw f (steps_round (cur + 1) j (omega arith)) in
        record { at_most = omega arith; exact = λ other. omega arith; next = λ e. absurd (omega arith); some = omega arith })
  ])
  | inr le ↦ (let f = follows_round cur le in let s = steps_round cur j (omega arith) in elim (cases_lt 1 j) [
    | inl far ↦ (let t : steps (following cur) j ≡ j - 1 = rw f (steps_below 1 j far) in
        record { at_most = omega arith; exact = λ other. omega arith; next = λ e. absurd (omega arith); some = omega arith })
    | inr near ↦ (let t : steps (following cur) j ≡ (65535 - 1) + j = rw f (steps_round 1 j near) in
        record { at_most = omega arith; exact = λ other. absurd (other (f ∙ omega arith)); next = λ e. omega arith; some = omega arith })
  ])
]

-- The result of a search within reach: a free identifier, and no nearer one is free.
record Found (cur : ℕ) (used : List ℕ) (k : ℕ) : Type 0 where
  is : IsIdentifier k
  free : times k used ≡ 0
  least : (j : ℕ) → IsIdentifier j → times j used ≡ 0 → steps cur k ≤ steps cur j

-- The next one, if it is free.
found_here : (cur : ℕ) (used : List ℕ) → times (following cur) used ≡ 0 → Found cur used (following cur)
found_here cur used free = record {
  is = is_one cur;
  free = free;
  least = λ j js none. let one = (onward cur (following cur) (is_one cur)).next refl in let some = (onward cur j js).some in omega arith;
}

-- A result from the next one on, if the next one is in use.
found_there : (cur : ℕ) (used : List ℕ) (k : ℕ) → (times (following cur) used ≡ 0 → ⊥) → Found (following cur) used k → Found cur used k
found_there cur used k taken rest = record {
  is = rest.is;
  free = rest.free;
  least = λ j js none.
      let more = (onward cur j js).exact (λ e. taken (subst (λ i. times i used ≡ 0) (sym e) none)) in
      let most = (onward cur k rest.is).at_most in
      let least = rest.least j js none in
      omega arith;
}

found : (fuel cur : ℕ) (used : List ℕ) (i : ℕ) → IsIdentifier i → times i used ≡ 0 → steps cur i ≤ fuel + 1 → Found cur used (free_after fuel cur used)
found zero cur used i is free near = elim (cases_eq (following cur) i) [
  | inl e ↦ found_here cur used (subst (λ k. times k used ≡ 0) (sym e) free)
  | inr other ↦ (let x = (onward cur i is).exact other in let q = (onward (following cur) i is).some in absurd (omega arith))
]
found (suc fuel) cur used i is free near = elim (cases_eq (times (following cur) used) 0) [
  | inl none ↦ rw (unused (following cur) used none) (found_here cur used none)
  | inr taken ↦ (
      let x = (onward cur i is).exact (λ e. taken (subst (λ k. times k used ≡ 0) (sym e) free)) in
      rw (used_or (following cur) used taken) (found_there cur used (free_after fuel (following cur) used) taken (found fuel (following cur) used i is free (omega arith))))
]

near_enough : (last i : ℕ) → IsIdentifier i → steps last i ≤ 65536
near_enough last i is = elim (cases_lt last i) [
  | inl lt ↦ (let s = steps_below last i lt in let most = is.1 in omega arith)
  | inr le ↦ (let s = steps_round last i le in let most = is.1 in omega arith)
]

-- The number of steps determines an identifier.
told : (last i j : ℕ) → IsIdentifier i → IsIdentifier j → steps last i ≡ steps last j → i ≡ j
told last i j a b e =
    let a0 = a.0 in
    let a1 = a.1 in
    let b0 = b.0 in
    let b1 = b.1 in
    elim (cases_lt last i) [
      | inl h ↦
          let x = steps_below last i h in
          elim (cases_lt last j) [
            | inl k ↦ let y = steps_below last j k in omega arith
            | inr k ↦ let y = steps_round last j k in omega arith
          ]
      | inr h ↦
          let x = steps_round last i h in
          elim (cases_lt last j) [
            | inl k ↦ let y = steps_below last j k in omega arith
            | inr k ↦ let y = steps_round last j k in omega arith
          ]
    ]

-- the first free one is the next one
pub is_next : (last i : ℕ) (b : SenderBook) → IsFirstFree last b i → i ≡ next_identifier last b
unfolding next_identifier
is_next last i b first =
    let f = found 65535 last (uses b) i first.free.0 first.free.1 (near_enough last i first.free.0) in
    let there = first.first (free_after 65535 last (uses b)) (f.is, f.free) in
    let back = f.least i first.free.0 first.free.1 in
    told last i (free_after 65535 last (uses b)) first.free.0 f.is (omega arith)

pub laws : NextLaws
unfolding next_identifier
laws = record {
  first = λ capacity last b most room.
      let some = books.free capacity b most room in
      let f = found 65535 last (uses b) some.0 some.1.0 some.1.1 (near_enough last some.0 some.1.0) in
      record { free = (f.is, f.free); first = λ j free. f.least j free.0 free.1 };
  only = is_next;
}
