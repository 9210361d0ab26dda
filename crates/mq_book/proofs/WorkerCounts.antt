-- The number of steps that a worker makes, and its receipts.
use Rattle.std.proofs.Common.{◌≡◌, ℕ, ◌+◌, ◌≤◌, Result, Ok, Err, OnOk, OnErr, List, [], ◌∷◌, ◌++◌, length, refl, sym, ap, subst, ◌∙◌, arith, append_assoc, append-nil}
use Rattle.std.specs.List.{AllByRecursion}
use Rattle.mq_route.specs.declared.event.HubEvent.{HubEvent}
use Rattle.mq_route.specs.declared.reply.HubReply.{HubReply}
use Rattle.mq_book.specs.declared.entry.Receipt.{Receipt}
use Rattle.mq_book.specs.Connection.{Breaks, Chain, Closes, Made, Outside}
use Rattle.mq_book.specs.Workers.{AuditedStep, AuditedWorkerState, Worked, WorkerState, WorkerStep}
use Rattle.mq_book.proofs.Chains.{Ran}
use Rattle.mq_book.proofs.Connections.{breaks_ran, closes_ran}
use Rattle.mq_route.specs.declared.conn.Conn.{Conn}

-- receipts that name one worker name the other, who is the same
named : (a b : ℕ) (rs : List Receipt) → a ≡ b → AllByRecursion (λ r. r.worker ≡ a) rs → AllByRecursion (λ r. r.worker ≡ b) rs
named a b rs same own = let P : ℕ → Type 0 = λ n. AllByRecursion (λ (r : Receipt). r.worker ≡ n) rs in subst P same own

-- no step
at_rest : (d : AuditedWorkerState) → Worked 0 d d
at_rest d = record { more = []; added = sym (append-nil d.receipts); own = tt; same = refl; counted = omega arith; enough = omega arith }

-- a step, and then some more
steps_on : (n : ℕ) (d : AuditedWorkerState) (e : HubEvent) (r : HubReply) (z w : AuditedWorkerState) → AuditedStep d e r z → Worked n z w → Worked (n + 1) d w
steps_on n d e r z w one on = record {
  more = one.receipt ∷ on.more;
  added = on.added ∙ (ap (λ (xs : List Receipt). xs ++ on.more) one.receipts ∙ append_assoc d.receipts (one.receipt ∷ []) on.more);
  own = (one.made.2.own, named z.worker d.worker on.more one.worker on.own);
  same = on.same ∙ one.worker;
  counted = omega (arith, on.counted, one.count);
  enough = omega (arith, on.enough);
}

chained : (d : AuditedWorkerState) (ms : List Made) (w : AuditedWorkerState) → Chain AuditedStep d ms w → Worked (length ms) d w
chained d [] w is = let P : AuditedWorkerState → Type 0 = λ u. Worked 0 d u in subst P (sym is) (at_rest d)
chained d (m ∷ ms) w c = let on = steps_on (length ms) d m.event m.reply c.0 w c.1 (chained c.0 ms w c.2) in record {
  more = on.more;
  added = on.added;
  own = on.own;
  same = on.same;
  counted = on.counted;
  enough = omega (arith, on.enough);
}

-- all steps are counted
pub worked_of : (n : ℕ) (d w : AuditedWorkerState) → Ran AuditedStep n d w → Worked n d w
worked_of n d w ran = let all = chained d ran.made w ran.chain in record {
  more = all.more;
  added = all.added;
  own = all.own;
  same = all.same;
  counted = all.counted;
  enough = omega (arith, all.enough, ran.enough);
}

worked_closed : (conn : Conn) (d w : AuditedWorkerState) (a b : Outside) → Closes AuditedStep conn d w a b → Worked 2 d w
worked_closed conn d w a b p = worked_of 2 d w (closes_ran AuditedStep conn d w a b p)

worked_broken : (conn : Conn) (d w : AuditedWorkerState) (a b : Outside) → Breaks AuditedStep conn d w a b → Worked 0 d w
worked_broken conn d w a b p = worked_of 0 d w (breaks_ran AuditedStep conn d w a b p)

pub worked_ok : {T E : Type 0} (r : Result T E) (conn : Conn) (d w : AuditedWorkerState) (a b : Outside) → OnOk r (Closes AuditedStep conn d w a b)
    → OnOk r (Worked 2 d w)
worked_ok (Ok x) conn d w a b p = worked_closed conn d w a b p
worked_ok (Err e) conn d w a b p = tt

pub worked_any : {T E : Type 0} (r : Result T E) (conn : Conn) (d w : AuditedWorkerState) (a b : Outside) → OnOk r (Closes AuditedStep conn d w a b)
    → OnErr r (Breaks AuditedStep conn d w a b) → Worked 0 d w
worked_any (Ok x) conn d w a b p q =
    let all = worked_closed conn d w a b p in record {
      more = all.more;
      added = all.added;
      own = all.own;
      same = all.same;
      counted = all.counted;
      enough = omega arith;
    }
worked_any (Err e) conn d w a b p q = worked_broken conn d w a b q

-- ---- steps of which no receipt is kept

-- the worker has the same number, and counted at least this number of steps more
pub record Counted (least : ℕ) (w v : WorkerState) : Type 0 where
  pub same : v.worker ≡ w.worker
  pub more : w.count + least ≤ v.count

counts_all : (w : WorkerState) (ms : List Made) (v : WorkerState) → Chain WorkerStep w ms v → Counted (length ms) w v
counts_all w [] v is = record { same = ap (λ (x : WorkerState). x.worker) is; more = omega (arith, ap (λ (x : WorkerState). x.count) is) }
counts_all w (m ∷ ms) v c =
    let on = counts_all c.0 ms v c.2 in record {
      same = on.same ∙ c.1.worker;
      more = omega (arith, on.more, c.1.count);
    }

counts_ran : (n : ℕ) (w v : WorkerState) → Ran WorkerStep n w v → Counted n w v
counts_ran n w v ran =
    let all = counts_all w ran.made v ran.chain in record { same = all.same; more = omega (arith, all.more, ran.enough) }

pub counts_closed : (conn : Conn) (w v : WorkerState) (a b : Outside) → Closes WorkerStep conn w v a b → Counted 2 w v
counts_closed conn w v a b p = counts_ran 2 w v (closes_ran WorkerStep conn w v a b p)

pub counts_broken : (conn : Conn) (w v : WorkerState) (a b : Outside) → Breaks WorkerStep conn w v a b → Counted 0 w v
counts_broken conn w v a b p = counts_ran 0 w v (breaks_ran WorkerStep conn w v a b p)
