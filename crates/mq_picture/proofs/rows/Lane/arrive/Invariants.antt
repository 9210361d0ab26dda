use Rattle.std.proofs.Common.{◌-◌, ◌≤◌}
use Rattle.mq_picture.specs.Inside.Lanes.{Ends}
use Rattle.mq_picture.proofs.rows.Lane.arrive.Given as goal

abbrev pub invariant-packets : goal.invariant-packets
invariant-packets l = (l.left ≤ l.count) × Ends (l.count - l.left) l.initial.self l.self l.initial.rows.items l.rows.items
