use Rattle.std.proofs.Common.{sym, ◌∙◌}
use Rattle.mq_pubsub_programs.proofs.Deliveries.{fault_fails, fault_known, status_known, status_ok}
use Rattle.mq_pubsub_programs.proofs.subscribing.run_sub.Goals as goal

pub returns-in-Ok-clause-done : goal.returns-in-Ok-clause-done
returns-in-Ok-clause-done g c zero = let end = c.in-Ok.ensures in status_ok end.0 _ end.2 (sym end.1 ∙ zero)

pub returns-in-Ok-clause-status : goal.returns-in-Ok-clause-status
returns-in-Ok-clause-status g c = let end = c.in-Ok.ensures in rw end.1 (status_known end.0)

pub returns-in-Err-clause-done : goal.returns-in-Err-clause-done
returns-in-Err-clause-done g c zero = absurd (fault_fails _ (sym c.tell_fault.ensures ∙ zero))

pub returns-in-Err-clause-status : goal.returns-in-Err-clause-status
returns-in-Err-clause-status g c = rw c.tell_fault.ensures (fault_known _)
