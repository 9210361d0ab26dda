use Rattle.std.proofs.Common.{length}
use Rattle.mq_bytes.specs.Inside.Items.{AreItems}
use Rattle.mq_bytes.proofs.items.are_items.Given as goal

abbrev pub invariant-loop-rest : goal.invariant-loop-rest
invariant-loop-rest l = record {
  behind : AreItems l.kind l.items → AreItems l.kind l.rest;
  with : AreItems l.kind l.rest → AreItems l.kind l.items;
}

abbrev pub decreases-loop-rest : goal.decreases-loop-rest
decreases-loop-rest l = length l.rest
