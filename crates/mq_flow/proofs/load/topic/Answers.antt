use Rattle.mq_flow.proofs.Restoring.{bad_text}
use Rattle.mq_flow.proofs.load.topic.Goals as goal

pub returns-in_default : goal.returns-in_default
returns-in_default c =
    let front = c.split_at.ensures.front in
    let not = c.in_default.ensures.cases.0 in
    bad_text c.args.bytes.now c.in_ok-count.rest.now c.from-count.result (rw c.from-count.ensures c.in_ok-count.ensures) c.if-rest-count.false (rw front at not)
