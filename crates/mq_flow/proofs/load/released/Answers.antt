use Rattle.std.proofs.Common.{◌∙◌, arith}
use Rattle.mq_flow.specs.Loading.{released_at}
use Rattle.mq_flow.proofs.Restoring.{released_next}
use Rattle.mq_flow.proofs.load.released.Goals as goal

pub loop-preserved : goal.loop-preserved
loop-preserved c = record {
  told = released_next c.args.count c.loop.counter c.loop.sender.book c.with_released.new.sender.book c.loop.rest.now c.in_ok-rest.rest.now (released_at c.args.count c.args.sender.now.book c.args.bytes.now)
      c.loop-test.true c.in_ok-rest.ensures.read c.loop.invariant.told;
  used = omega (arith, c.loop.invariant.used, c.in_ok-rest.ensures.uses);
  within = omega (arith, c.loop-test.true);
  capacity = c.in_ok-rest.ensures.capacity ∙ c.loop.invariant.capacity;
  reserved = omega (arith, c.loop.invariant.reserved, c.in_ok-rest.ensures.room);
}
