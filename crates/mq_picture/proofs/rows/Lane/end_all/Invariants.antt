use Rattle.std.proofs.Common.{length}
use Rattle.mq_picture.specs.Inside.Lanes.{Ends}
use Rattle.mq_picture.proofs.rows.Lane.end_all.Given as goal

abbrev pub invariant-packets : goal.invariant-packets
invariant-packets l = Ends 0 l.initial.self l.self l.initial.rows.items l.rows.items

abbrev pub decreases-packets : goal.decreases-packets
decreases-packets l = length l.self.packets.items
