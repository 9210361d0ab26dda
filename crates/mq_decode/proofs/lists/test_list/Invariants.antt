use Rattle.std.proofs.Common.{length}
use Rattle.mq_decode.proofs.Loops.{Passed}
use Rattle.mq_decode.proofs.lists.test_list.Given as goal

abbrev pub invariant-loop-rest : goal.invariant-loop-rest
invariant-loop-rest g l = Passed g.T.Item.item_at l.bytes l.rest

abbrev pub decreases-loop-rest : goal.decreases-loop-rest
decreases-loop-rest g l = length l.rest
