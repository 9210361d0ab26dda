use Rattle.std.proofs.Common.{◌≡◌, length, take}
use Rattle.mq_durable.specs.Inside.Recorded.{events_in_all}
use Rattle.mq_store.proofs.restoring.count_all.Given as goal

abbrev pub invariant-loop-entry : goal.invariant-loop-entry
invariant-loop-entry l = l.count ≡ length (events_in_all (take l.entry-index l.entries))
