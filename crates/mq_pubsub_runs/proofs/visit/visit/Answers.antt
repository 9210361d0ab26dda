use Rattle.std.proofs.Common.{rules}
use Rattle.mq_pubsub_runs.proofs.Visits.{discards}
use Rattle.mq_pubsub_runs.proofs.visit.visit.Goals as goal

pub returns : goal.returns
returns g c connected = discards _ _ _ _ c.in_ok-open.ensures.ok c.in_ok-connected.ensures.hears (c.in_ok-connected.ensures.up (search rules)) c.in_ok-leave.ensures.leaves
