use Rattle.mq_pubsub_runs.proofs.Visits.{hears_more, hears_none}
use Rattle.mq_pubsub_runs.proofs.visit.await_connection.Goals as goal

pub loop-init : goal.loop-init
loop-init g c = hears_none _

pub loop-preserved : goal.loop-preserved
loop-preserved g c = hears_more _ _ _ _ _ c.loop.invariant c.listen.ensures.2

pub returns-then-is_up-clause-hears : goal.returns-then-is_up-clause-hears
returns-then-is_up-clause-hears g c = hears_more _ _ _ _ _ c.loop.invariant c.listen.ensures.2

pub returns-then-is_over-clause-hears : goal.returns-then-is_over-clause-hears
returns-then-is_over-clause-hears g c = hears_more _ _ _ _ _ c.loop.invariant c.listen.ensures.2
