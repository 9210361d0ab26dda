use Rattle.std.proofs.Common.{length, map}
use Rattle.mq_loopback.specs.Printed.{collected_lines}
use Rattle.mq_loopback.proofs.Collected.{Partly}
use Rattle.mq_loopback.proofs.print.write_collected.Given as goal

abbrev pub invariant-loop-left : goal.invariant-loop-left
invariant-loop-left g l = Partly (g.W.Write.contents l.initial.output) (g.W.Write.contents l.output) l.left l.lists (collected_lines l.fn.clients (map (λ v. v.items) l.fn.collected))

abbrev pub decreases-loop-left : goal.decreases-loop-left
decreases-loop-left g l = length l.left
