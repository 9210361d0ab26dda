use Rattle.std.proofs.Common.{take}
use Rattle.mq_durable.specs.Inside.Recorded.{AreReadable, events_in_all}
use Rattle.mq_durable.specs.Recovering.{Continues}
use Rattle.mq_durable.proofs.progress.Progress.after.Given as goal

abbrev pub invariant-loop-entry : goal.invariant-loop-entry
invariant-loop-entry l = record {
  continues : Continues l.fn.self (events_in_all (take l.entry-index l.entries)) l.progress;
  readable : AreReadable (take l.entry-index l.entries);
}
