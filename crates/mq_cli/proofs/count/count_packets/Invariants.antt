use Rattle.std.proofs.Common.{◌≡◌, ◌-◌, ◌^◌}
use Rattle.mq_cli.proofs.Counting.{Counted}
use Rattle.mq_cli.proofs.count.count_packets.Given as goal

abbrev pub invariant-loop-bytes : goal.invariant-loop-bytes
invariant-loop-bytes g l = record {
  counted : Counted l.limits (g.R.JobInput.remaining l.fn.input) (g.R.JobInput.remaining l.input) l.bytes l.total l.packets;
  stays : g.R.JobInput.may_fail l.input ≡ g.R.JobInput.may_fail l.fn.input;
}

abbrev pub decreases-loop-bytes : goal.decreases-loop-bytes
decreases-loop-bytes g l = 2 ^ 64 - l.total
