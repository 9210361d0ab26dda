use Rattle.std.proofs.Common.{arith}
use Rattle.mq_bytes.proofs.Published.{publish_too_large}
use Rattle.mq_bytes.proofs.write_publish.encode_publish.Goals as goal

pub returns-then-payload-gt268435455-clause-gives : goal.returns-then-payload-gt268435455-clause-gives
returns-then-payload-gt268435455-clause-gives c =
    publish_too_large c.args.topic.now c.args.payload.now c.in-Some.qos c.args.qos c.args.retain c.args.dup c.args.id c.args.out.now c.in-Some.ensures (c.may_deliver.ensures.0 c.if-not-may_deliver.false) (omega (arith, c.if-payload-gt268435455.true))
