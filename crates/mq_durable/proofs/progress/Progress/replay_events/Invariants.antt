use Rattle.std.proofs.Common.{take}
use Rattle.mq_durable.specs.Recovering.{Continues}
use Rattle.mq_durable.proofs.progress.Progress.replay_events.Given as goal

abbrev pub invariant-loop-event : goal.invariant-loop-event
invariant-loop-event l = Continues l.fn.self (take l.event-index l.events) l.self
