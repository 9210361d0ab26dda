use Rattle.std.proofs.Common.{ap, arith}
use Rattle.mq_client.specs.Course.{Publication}
use Rattle.mq_client.specs.Publishing.{text_message}
use Rattle.mq_client.proofs.Published.{more_none, more_one, more_same}
use Rattle.mq_client.proofs.publisher.publish_more.Goals as goal

pub loop-next-init : goal.loop-next-init
loop-next-init g c = more_none _ _ _

pub loop-next-preserved : goal.loop-next-preserved
loop-next-preserved g c =
    let sent = rw c.if-not-branch.false at c.in_ok-publish.ensures.went in
    more_one (λ text. Publication (text_message c.args.texts.now text.now)) c.args.texts.now.texts.now _ _ _ _ _ _ _ c.loop-next.invariant (omega arith) (ap Publication c.in_ok-message.ensures.ok) sent

pub returns-in_err-publish-clause-went : goal.returns-in_err-publish-clause-went
returns-in_err-publish-clause-went g c = more_same _ _ _ _ _ _ c.loop-next.invariant c.in_err-publish.ensures.went

pub returns-then-not-branch-clause-went : goal.returns-then-not-branch-clause-went
returns-then-not-branch-clause-went g c =
    let waits = rw c.if-not-branch.true at c.in_ok-publish.ensures.went in
    more_same _ _ _ _ _ _ c.loop-next.invariant waits
