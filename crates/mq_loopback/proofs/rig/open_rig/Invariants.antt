use Rattle.std.proofs.Common.{◌-◌, ◌≤◌, vec_len}
use Rattle.mq_loopback.proofs.rig.open_rig.Given as goal

abbrev pub invariant-loop-address : goal.invariant-loop-address
invariant-loop-address g l = vec_len l.streams ≤ l.count

abbrev pub decreases-loop-address : goal.decreases-loop-address
decreases-loop-address g l = l.count - vec_len l.streams
