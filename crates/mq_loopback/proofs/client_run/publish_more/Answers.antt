use Rattle.std.proofs.Common.{ap, arith, ◌∙◌}
use Rattle.mq_client.proofs.Published.{more_none, more_same}
use Rattle.mq_loopback.specs.Clients.{message_of}
use Rattle.mq_loopback.proofs.Runs.{more_payload}
use Rattle.mq_loopback.proofs.client_run.publish_more.Goals as goal

pub loop-next-init : goal.loop-next-init
loop-next-init g c = more_none _ _ _

pub loop-next-preserved : goal.loop-next-preserved
loop-next-preserved g c =
    let sent = rw c.if-not-branch.false at c.in_ok-publish.ensures.went in
    let is = c.in_ok-message.ensures ∙ ap (message_of c.args.publisher.now) c.index-payloads-next.is in
    more_payload c.args.publisher.now _ c.index-payloads-next.result _ _ _ _ _ _ c.as_slice-payloads.ensures c.loop-next.invariant (omega arith) is sent

pub returns-in_err-publish : goal.returns-in_err-publish
returns-in_err-publish g c = more_same _ _ _ _ _ _ c.loop-next.invariant c.in_err-publish.ensures.went

pub returns-then-not-branch : goal.returns-then-not-branch
returns-then-not-branch g c =
    let waits = rw c.if-not-branch.true at c.in_ok-publish.ensures.went in
    more_same _ _ _ _ _ _ c.loop-next.invariant waits
