-- The files that a crash during a commit may leave.
use Rattle.std.proofs.Common.{◌≡◌, ◌≢◌, inl, inr, ⊎_elim, ℕ, List, [], ◌∷◌, refl, sym, subst, arith}
use Rattle.mq_record.specs.Reading.{IsEntry}
use Rattle.mq_log.specs.Blocks.{entries, gate, rest}
use Rattle.mq_log.specs.Disk.{LeavesOnly}
use Rattle.mq_log.specs.Journal.{IsBeforeOrAfter, IsSettled}
use Rattle.mq_log.specs.declared.journal.Journal.{Journal}
use Rattle.mq_log.specs.Laws.{JournalLaws}
use Rattle.mq_durable.specs.Recorded.{AfterCrash, events_in, events_of, HoldsAllOrNone, IsReadable}
use Rattle.mq_durable.proofs.Entries.{of_push, of_same, readable_push, readable_same}

-- all pending events or none, by the entry of them
pub all_or_none : (before entry file : List ℕ) → IsReadable before → IsEntry (events_in entry) entry → IsBeforeOrAfter (entries before) entry file
    → HoldsAllOrNone (events_of before) (events_in entry) file
all_or_none before entry file all whole is = record {
  holds = ⊎_elim (λ same. inl (of_same before file same)) (λ more. inr (of_push before file entry more)) is.holds;
  readable = ⊎_elim (λ same. readable_same before file same all) (λ more. readable_push before file entry more all whole) is.holds;
  no_damage = is.no_damage;
}

module _ {D : Type 0} (clock : D → ℕ) (left_since : D → ℕ → List ℕ → Type 0) (P Q : List ℕ → Type 0) where
  pub weaker : (old new : D) → ((c : List ℕ) → P c → Q c) → LeavesOnly clock left_since old new P → LeavesOnly clock left_since old new Q
  weaker old new goes l = record {
    later = l.later;
    each = λ c left. goes c (l.each c left);
    before = λ t c le left. ⊎_elim (λ was. inl was) (λ p. inr (goes c p)) (l.before t c le left);
  }

-- no call of the disk
pub unchanged : {D : Type 0} (clock : D → ℕ) (left_since : D → ℕ → List ℕ → Type 0) (Q : List ℕ → Type 0) (old : D)
    → ((c : List ℕ) → left_since old (clock old) c → Q c) → LeavesOnly clock left_since old old Q
unchanged clock left_since Q old here = record { later = omega arith; each = here; before = λ t c le left. inl left }

-- the file of a journal at rest
pub at_rest_is : (laws : JournalLaws) {D : Type 0} (seen : D → List ℕ) (may_leave : D → List ℕ → Type 0) (journal : Journal D) (pending : List ℕ)
    → IsSettled seen may_leave journal → IsBeforeOrAfter (entries (seen journal.disk)) pending (seen journal.disk)
at_rest_is laws seen may_leave journal pending s =
    let all = entries (seen journal.disk) in
    let closed : rest (seen journal.disk) ≡ 0 ∷ [] = subst (λ (f : List ℕ). rest f ≡ 0 ∷ []) (sym s.file) (laws.closed all s.short) in
    record { holds = inl refl; no_damage = subst (λ (r : List ℕ). gate r ≢ 1) (sym closed) (λ is. let wrong : ◌≡◌ {A = ℕ} 0 1 = is in absurd (omega (arith, wrong))) }

-- a crash between two calls leaves the file
pub left_now : (laws : JournalLaws) {D : Type 0} (seen : D → List ℕ) (may_leave : D → List ℕ → Type 0) (journal : Journal D) (entry : List ℕ)
    → IsSettled seen may_leave journal → IsReadable (seen journal.disk) → IsEntry (events_in entry) entry
    → AfterCrash (may_leave journal.disk) (HoldsAllOrNone (events_of (seen journal.disk)) (events_in entry))
left_now laws seen may_leave journal entry s all whole file left =
    let P : List ℕ → Type 0 = HoldsAllOrNone (events_of (seen journal.disk)) (events_in entry) in
    let here : P (seen journal.disk) = all_or_none (seen journal.disk) entry (seen journal.disk) all whole (at_rest_is laws seen may_leave journal entry s) in
    subst P (sym (s.durable file left)) here

-- a crash during a call without a call of the disk leaves the file
pub kept : (laws : JournalLaws) {D : Type 0} (clock : D → ℕ) (left_since : D → ℕ → List ℕ → Type 0) (seen : D → List ℕ) (may_leave : D → List ℕ → Type 0) (journal : Journal D) (entry : List ℕ)
    → IsSettled seen may_leave journal → ((c : List ℕ) → left_since journal.disk (clock journal.disk) c → may_leave journal.disk c)
    → IsReadable (seen journal.disk) → IsEntry (events_in entry) entry
    → LeavesOnly clock left_since journal.disk journal.disk (HoldsAllOrNone (events_of (seen journal.disk)) (events_in entry))
kept laws clock left_since seen may_leave journal entry s now all whole =
    unchanged clock left_since (HoldsAllOrNone (events_of (seen journal.disk)) (events_in entry)) journal.disk
    (λ c left. left_now laws seen may_leave journal entry s all whole c (now c left))
