-- A worker that keeps receipts serves connections one after another.
use Rattle.std.proofs.Common.{length-append, length, ◌≡◌, ◌≤◌, ℕ, ◌+◌, ◌*◌, Result, Ok, Err, IfOk, List, [], ◌∷◌, ◌++◌, refl, sym, ap, subst, ◌∙◌, arith, append_assoc, append-nil}
use Rattle.std.specs.List.{AllByRecursion}
use Rattle.mq_book.specs.declared.entry.Receipt.{Receipt}
use Rattle.mq_book.specs.Pages.{WorkerView}
use Rattle.mq_book.specs.Workers.{AuditedWorkerState, Worked}
use Rattle.mq_book.specs.declared.work_end.WorkEnd.{WorkEnd}
use Rattle.mq_serve.specs.Working.{HasWorked}

-- receipts that name a worker, and more that name the same one
named : (a b : ℕ) (rs ss : List Receipt) → b ≡ a → AllByRecursion (λ r. r.worker ≡ a) rs → AllByRecursion (λ r. r.worker ≡ b) ss
    → AllByRecursion (λ r. r.worker ≡ a) (rs ++ ss)
named a b [] ss same own more = let P : ℕ → Type 0 = λ n. AllByRecursion (λ (r : Receipt). r.worker ≡ n) ss in subst P same more
named a b (r ∷ rs) ss same own more = (own.0, named a b rs ss same own.1 more)

-- no step
pub worked_none : (d : AuditedWorkerState) → Worked (2 * 0) d d
worked_none d = record { more = []; added = sym (append-nil d.receipts); own = tt; same = refl; counted = omega arith; enough = omega arith }

-- more steps
pub worked_then : (n : ℕ) (d e f : AuditedWorkerState) → Worked (2 * n) d e → Worked 2 e f → Worked (2 * (n + 1)) d f
worked_then n d e f one two = record {
  more = one.more ++ two.more;
  added = two.added ∙ (ap (λ (xs : List Receipt). xs ++ two.more) one.added ∙ append_assoc d.receipts one.more two.more);
  own = named d.worker e.worker one.more two.more one.same one.own two.own;
  same = two.same ∙ one.same;
  counted = omega (arith, one.counted, two.counted, length-append one.more two.more);
  enough = omega (arith, one.enough, two.enough, length-append one.more two.more);
}

-- more steps, of an unknown number
pub worked_some : (n : ℕ) (d e f : AuditedWorkerState) → Worked (2 * n) d e → Worked 0 e f → Worked 0 d f
worked_some n d e f one two = record {
  more = one.more ++ two.more;
  added = two.added ∙ (ap (λ (xs : List Receipt). xs ++ two.more) one.added ∙ append_assoc d.receipts one.more two.more);
  own = named d.worker e.worker one.more two.more one.same one.own two.own;
  same = two.same ∙ one.same;
  counted = omega (arith, one.counted, two.counted, length-append one.more two.more);
  enough = omega arith;
}

-- at least no step
pub worked_least : (n : ℕ) (d e : AuditedWorkerState) → Worked (2 * n) d e → Worked 0 d e
worked_least n d e one =
    record { more = one.more; added = one.added; own = one.own; same = one.same; counted = one.counted; enough = omega arith }

-- ---- the result of a worker

abbrev pub share_of : AuditedWorkerState → WorkerView
share_of d = record { worker = d.worker; count = d.count }

-- the worker's steps are counted in its share
pub kept_worked : (d e : AuditedWorkerState) (end : Result ℕ WorkEnd) → Worked 0 d e → IfOk end (λ n. Worked (2 * n) d e) → HasWorked (share_of d) (share_of e) end
kept_worked d e (Ok n) some all = (some.same, omega (arith, some.counted), omega (arith, all.counted, all.enough))
kept_worked d e (Err why) some none = (some.same, omega (arith, some.counted), tt)

-- a worker that had no receipts has one for each step
pub kept_receipts : (d e : AuditedWorkerState) → d.receipts ≡ [] → Worked 0 d e
    → (e.count ≡ d.count + length e.receipts) × AllByRecursion (λ receipt. receipt.worker ≡ d.worker) e.receipts
kept_receipts d e none some =
    let all : some.more ≡ e.receipts = sym (some.added ∙ ap (λ (rs : List Receipt). rs ++ some.more) none) in
    (subst (λ (rs : List Receipt). e.count ≡ d.count + length rs) all some.counted, subst (λ (rs : List Receipt). AllByRecursion (λ receipt. receipt.worker ≡ d.worker) rs) all some.own)
