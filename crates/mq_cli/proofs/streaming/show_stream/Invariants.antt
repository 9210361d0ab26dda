use Rattle.std.proofs.Common.{◌≡◌, ◌-◌, ◌^◌}
use Rattle.mq_cli.proofs.InTurn.{Printed}
use Rattle.mq_cli.proofs.streaming.show_stream.Given as goal

abbrev pub invariant-loop-count : goal.invariant-loop-count
invariant-loop-count g l = record {
  printed : Printed l.limits (g.R.JobInput.remaining l.fn.input) (g.R.JobInput.remaining l.input) (g.W.Write.contents l.fn.output) (g.W.Write.contents l.output) l.bytes l.total;
  stays : g.R.JobInput.may_fail l.input ≡ g.R.JobInput.may_fail l.fn.input;
}

abbrev pub decreases-loop-count : goal.decreases-loop-count
decreases-loop-count g l = 2 ^ 64 - l.total
