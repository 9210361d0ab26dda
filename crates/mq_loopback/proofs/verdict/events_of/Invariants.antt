use Rattle.std.proofs.Common.{◌≡◌, take}
use Rattle.mq_loopback.specs.Judged.{events_in}
use Rattle.mq_loopback.proofs.verdict.events_of.Given as goal

abbrev pub invariant-loop-entry : goal.invariant-loop-entry
invariant-loop-entry l = l.events.items ≡ events_in (take l.entry-index l.entries)
