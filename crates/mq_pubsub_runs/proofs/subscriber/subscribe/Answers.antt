use Rattle.mq_pubsub_runs.proofs.Watchings.{far_none, far_on, far_once, far_renewed, run_ended, run_err, run_ok, run_part}
use Rattle.mq_pubsub_runs.proofs.subscriber.subscribe.Goals as goal

pub loop-init : goal.loop-init
loop-init g c = rw c.first_inbox-inbox.ensures (far_none _ _ _ _ _)

pub loop-preserved : goal.loop-preserved
loop-preserved g c =
    let once = far_once _ _ _ _ _ _ _ _ _ _ _ _ _ _ c.loop.invariant c.subscribe_next-sitting.ensures in
    let far = far_on _ _ _ _ _ _ _ _ _ _ c.in_default.ensures.again once in
    rw c.renew-sitting.ensures.shown (far_renewed _ _ _ _ _ _ _ _ _ _ _ _ far c.renew-sitting.ensures.kept c.renew-sitting.ensures.client)

pub returns-in-Some-clause-ok : goal.returns-in-Some-clause-ok
returns-in-Some-clause-ok g c =
    let once = far_once _ _ _ _ _ _ _ _ _ _ _ _ _ _ c.loop.invariant c.subscribe_next-sitting.ensures in
    rw (c.end_of.ensures.end, c.end_of.ensures.inbox) (run_ok _ _ _ _ _ _ _ _ _ _ _ c.in-Some.ensures.done once)

pub returns-in-Some-clause-ended : goal.returns-in-Some-clause-ended
returns-in-Some-clause-ended g c =
    let once = far_once _ _ _ _ _ _ _ _ _ _ _ _ _ _ c.loop.invariant c.subscribe_next-sitting.ensures in
    rw (c.end_of.ensures.end, c.end_of.ensures.inbox) (run_ended _ _ _ _ _ _ _ _ _ _ _ c.in-Some.ensures.done once)

pub returns-in-Some-clause-err : goal.returns-in-Some-clause-err
returns-in-Some-clause-err g c =
    let once = far_once _ _ _ _ _ _ _ _ _ _ _ _ _ _ c.loop.invariant c.subscribe_next-sitting.ensures in
    rw c.end_of.ensures.end (run_err _ _ _ _ _ _ _ _ _ _ _ c.in-Some.ensures.failed once)

pub returns-clause-err : goal.returns-clause-err
returns-clause-err g c = rw c.end_of-2.ensures.end (run_part _ _ _ _ _ _ _ _ _ c.loop.invariant)
