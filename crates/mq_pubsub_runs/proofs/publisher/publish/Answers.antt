use Rattle.mq_pubsub_runs.proofs.Postings.{far_none, far_on, far_once, remembers_none, run_err, run_last, run_ok, run_part}
use Rattle.mq_pubsub_runs.proofs.publisher.publish.Goals as goal

pub loop-init : goal.loop-init
loop-init g c = (
  far_none _ _ _ _ _ c.new-outbox.ensures.next c.new-outbox.ensures.lost,
  remembers_none _ _ c.new-outbox.ensures.ended,
)

pub loop-preserved : goal.loop-preserved
loop-preserved g c = (
  far_on _ _ _ _ _ _ _ _ _ c.in_default.ensures.again (far_once _ _ _ _ _ _ _ _ _ _ _ _ _ _ c.loop.invariant.0 c.publish_next-sitting.ensures.ends),
  c.publish_next-sitting.ensures.remembers c.loop.invariant.1,
)

pub returns-in-Some-clause-ok : goal.returns-in-Some-clause-ok
returns-in-Some-clause-ok g c =
    let once = far_once _ _ _ _ _ _ _ _ _ _ _ _ _ _ c.loop.invariant.0 c.publish_next-sitting.ensures.ends in
    rw (c.end_of.ensures.end, c.end_of.ensures.client, c.end_of.ensures.kept) (run_ok _ _ _ _ _ _ _ _ _ _ c.in-Some.ensures.done once)

pub returns-in-Some-clause-err : goal.returns-in-Some-clause-err
returns-in-Some-clause-err g c =
    let once = far_once _ _ _ _ _ _ _ _ _ _ _ _ _ _ c.loop.invariant.0 c.publish_next-sitting.ensures.ends in
    rw (c.end_of.ensures.end, c.end_of.ensures.client, c.end_of.ensures.kept) (run_err _ _ _ _ _ _ _ _ _ _ c.in-Some.ensures.failed once)

pub returns-in-Some-clause-ended : goal.returns-in-Some-clause-ended
returns-in-Some-clause-ended g c =
    rw c.end_of.ensures.end (run_last _ _ _ _ c.in-Some.ensures.done c.publish_next-sitting.ensures.last (c.publish_next-sitting.ensures.remembers c.loop.invariant.1))

pub returns-clause-err : goal.returns-clause-err
returns-clause-err g c = rw (c.end_of-2.ensures.end, c.end_of-2.ensures.client, c.end_of-2.ensures.kept) (run_part _ _ _ _ _ _ _ _ c.loop.invariant.0)
