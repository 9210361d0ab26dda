-- The identifiers counted round from the one that was given last.
use Rattle.std.proofs.Common.{◌≡◌, ℕ, ◌+◌, ◌-◌, ◌<◌, ◌≤◌, ◌∙◌, true, false, cond, ltb, length, sym, ap, subst, arith, inl, inr}
use Rattle.std.proofs.lemmas.Bool.{cases_lt, lt-ltb, le-ltb, ltb-true, ltb-false, lt-leb, cases_eq}
use Rattle.mq_packet.specs.Identifier.{IsIdentifier}
use Rattle.mq_flow.specs.Sender.{uses, times, IsFree, IsFirstFree, is_full, steps}
use Rattle.mq_flow.specs.Sending.{Sending}
use Rattle.mq_flow.proofs.Books.{laws}

-- The first `counter` identifiers after the one assigned last are in use, and `number` is the last
-- of them.
pub record Passed (s : Sending) (counter number : ℕ) : Type 0 where
  pub last : s.last ≤ 65535
  pub capacity : s.capacity ≤ 65535
  pub room : is_full s.capacity s.book ≡ false
  pub before : s.last + counter ≤ 65535 → number ≡ s.last + counter
  pub beyond : 65535 < s.last + counter → number + 65535 ≡ s.last + counter
  pub used : (j : ℕ) → IsFree s.book j → counter < steps s.last j

steps_up : (last j : ℕ) → last < j → steps last j ≡ j - last
steps_up last j h = ap (λ t. cond t (j - last) ((65535 - last) + j)) (lt-ltb last j h)

steps_round : (last j : ℕ) → j ≤ last → steps last j ≡ (65535 - last) + j
steps_round last j h = ap (λ t. cond t (j - last) ((65535 - last) + j)) (le-ltb last j h)

pub steps_least : (last j : ℕ) → last ≤ 65535 → IsIdentifier j → 1 ≤ steps last j
steps_least last j l i =
    elim (cases_lt last j) [
      | inl h ↦ let e = steps_up last j h in omega arith
      | inr h ↦ let e = steps_round last j h in let p = i.0 in omega arith
    ]

pub steps_most : (last j : ℕ) → last ≤ 65535 → IsIdentifier j → steps last j ≤ 65535
steps_most last j l i =
    elim (cases_lt last j) [
      | inl h ↦ let e = steps_up last j h in let p = i.1 in omega arith
      | inr h ↦ let e = steps_round last j h in omega arith
    ]

-- The number of steps determines an identifier.
pub steps_tell : (last i j : ℕ) → last ≤ 65535 → IsIdentifier i → IsIdentifier j → steps last i ≡ steps last j → i ≡ j
steps_tell last i j l a b e =
    let a0 = a.0 in
    let a1 = a.1 in
    let b0 = b.0 in
    let b1 = b.1 in
    elim (cases_lt last i) [
      | inl h ↦
          let x = steps_up last i h in
          elim (cases_lt last j) [
            | inl k ↦ let y = steps_up last j k in omega arith
            | inr k ↦ let y = steps_round last j k in omega arith
          ]
      | inr h ↦
          let x = steps_round last i h in
          elim (cases_lt last j) [
            | inl k ↦ let y = steps_up last j k in omega arith
            | inr k ↦ let y = steps_round last j k in omega arith
          ]
    ]

-- the number after a number, counted round
abbrev pub after : ℕ → ℕ
after number = cond (ltb number 65535) (number + 1) 1

pub passed_none : (s : Sending) → s.last ≤ 65535 → s.capacity ≤ 65535 → is_full s.capacity s.book ≡ false → Passed s 0 s.last
passed_none s l c r = record {
  last = l;
  capacity = c;
  room = r;
  before = λ h. omega arith;
  beyond = λ h. omega arith;
  used = λ j f. let k = steps_least s.last j l f.0 in omega arith;
}

after_up : (number : ℕ) → number < 65535 → after number ≡ number + 1
after_up number h = ap (λ t. cond t (number + 1) 1) (lt-ltb number 65535 h)

after_round : (number : ℕ) → 65535 ≤ number → after number ≡ 1
after_round number h = ap (λ t. cond t (number + 1) 1) (le-ltb number 65535 h)

-- the next one is one step further
pub one_further : (s : Sending) (counter number : ℕ) → counter < 65535 → Passed s counter number
    → IsIdentifier (after number) × (s.last + (counter + 1) ≤ 65535 → after number ≡ s.last + (counter + 1)) × (65535 < s.last + (counter + 1) → after number + 65535 ≡ s.last + (counter + 1)) × (steps s.last (after number) ≡ counter + 1)
one_further s counter number lt p =
    let l = p.last in
    elim (cases_lt (s.last + counter) 65535) [
      | inl h ↦
          let n = p.before (omega arith) in
          let e = after_up number (omega arith) in
          let u = steps_up s.last (after number) (omega arith) in
          ((omega arith, omega arith), λ k. omega arith, λ k. omega arith, omega arith)
      | inr h ↦
          elim (cases_eq (s.last + counter) 65535) [
            | inl q ↦
                let n = p.before (omega arith) in
                let e = after_round number (omega arith) in
                let u = steps_round s.last (after number) (omega arith) in
                ((omega arith, omega arith), λ k. omega arith, λ k. omega arith, omega arith)
            | inr q ↦
                let n = p.beyond (omega arith) in
                let e = after_up number (omega arith) in
                let u = steps_round s.last (after number) (omega arith) in
                ((omega arith, omega arith), λ k. omega arith, λ k. omega arith, omega arith)
          ]
    ]

pub passed_more : (s : Sending) (counter number id : ℕ) → counter < 65535 → Passed s counter number → id ≡ after number → true ≡ ltb 0 (times id (uses s.book)) → Passed s (counter + 1) id
passed_more s counter number id lt p id_is in_use =
    let further = subst (λ (i : ℕ). IsIdentifier i × (s.last + (counter + 1) ≤ 65535 → i ≡ s.last + (counter + 1)) × (65535 < s.last + (counter + 1) → i + 65535 ≡ s.last + (counter + 1)) × (steps s.last i ≡ counter + 1)) (sym id_is) (one_further s counter number lt p) in
    let l = p.last in
    record {
      last = p.last;
      capacity = p.capacity;
      room = p.room;
      before = further.1;
      beyond = further.2;
      used = λ j f.
          let k = p.used j f in
          let there = ltb-true 0 (times id (uses s.book)) (sym in_use) in
          elim (cases_eq (steps s.last j) (counter + 1)) [
            | inl e ↦
                let same : j ≡ id = steps_tell s.last j id l f.0 further.0 (e ∙ sym further.3) in
                let none : times id (uses s.book) ≡ 0 = subst (λ (i : ℕ). times i (uses s.book) ≡ 0) same f.1 in
                absurd (omega arith)
            | inr n ↦ omega arith
          ];
    }

-- The first identifier that is not in use.
pub first_free : (s : Sending) (counter number id : ℕ) → counter < 65535 → Passed s counter number → id ≡ after number → false ≡ ltb 0 (times id (uses s.book)) → IsFirstFree s.last s.book id
first_free s counter number id lt p id_is in_use =
    let further = subst (λ (i : ℕ). IsIdentifier i × (s.last + (counter + 1) ≤ 65535 → i ≡ s.last + (counter + 1)) × (65535 < s.last + (counter + 1) → i + 65535 ≡ s.last + (counter + 1)) × (steps s.last i ≡ counter + 1)) (sym id_is) (one_further s counter number lt p) in
    let there = ltb-false 0 (times id (uses s.book)) (sym in_use) in
    record {
      free = (further.0, omega arith);
      first = λ j f. let k = p.used j f in let e = further.3 in omega arith;
    }

-- one of them is not
pub all_passed : (s : Sending) (counter number : ℕ) → 65535 ≤ counter → Passed s counter number → ⊥
all_passed s counter number le p =
    let f = laws.free s.capacity s.book p.capacity p.room in
    let k = p.used f.0 f.1 in
    let m = steps_most s.last f.0 p.last f.1.0 in
    omega arith

pub room_left : (s : Sending) (r : ℕ) → r ≡ s.capacity - length (uses s.book) → (r ≡ 0 → ⊥) → is_full s.capacity s.book ≡ false
room_left s r e n = lt-leb s.capacity (length (uses s.book)) (below s.capacity (length (uses s.book)) r e n)
  where
    below : (capacity used r : ℕ) → r ≡ capacity - used → (r ≡ 0 → ⊥) → used < capacity
    below capacity used r e n = elim (cases_lt used capacity) [ inl h ↦ h | inr h ↦ absurd (n (omega arith)) ]
