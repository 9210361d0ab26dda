use Rattle.std.proofs.Common.{◌∙◌, arith}
use Rattle.mq_flow.specs.Loading.{entries_at}
use Rattle.mq_flow.proofs.Restoring.{entries_next}
use Rattle.mq_flow.proofs.load.entries.Goals as goal

pub loop-preserved : goal.loop-preserved
loop-preserved c = record {
  told = entries_next 268435455 c.args.count c.loop.counter c.loop.sender.book c.with_entry.new.sender.book c.loop.rest.now c.in_ok-rest.rest.now (entries_at 268435455 c.args.count c.args.sender.now.book c.args.bytes.now)
      c.loop-test.true c.in_ok-rest.ensures.read c.loop.invariant.told;
  used = omega (arith, c.loop.invariant.used, c.in_ok-rest.ensures.uses);
  within = omega (arith, c.loop-test.true);
  capacity = c.in_ok-rest.ensures.capacity ∙ c.loop.invariant.capacity;
  reserved = omega (arith, c.loop.invariant.reserved, c.in_ok-rest.ensures.room);
}
