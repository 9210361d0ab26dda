use Rattle.std.proofs.Common.{arith}
use Rattle.mq_flow.specs.Loading.{received_at}
use Rattle.mq_flow.proofs.Restoring.{received_next}
use Rattle.mq_flow.proofs.load.received.Goals as goal

pub loop-preserved : goal.loop-preserved
loop-preserved c = record {
  told = rw (c.get-last.ensures.value, c.in_ok-store.ensures.book)
      (received_next c.args.count c.loop.counter c.loop.last c.in-Ok.field.0 c.loop.receiver c.loop.rest.now c.in-Ok.field.1.now (received_at c.args.count 0 c.args.receiver.now c.args.bytes.now)
      c.loop-test.true c.in-Ok.ensures c.loop.invariant.told);
  within = omega (arith, c.loop-test.true);
}
