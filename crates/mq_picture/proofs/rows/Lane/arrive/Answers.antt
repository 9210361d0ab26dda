use Rattle.std.proofs.Common.{◌+◌, ◌-◌, refl, arith}
use Rattle.mq_picture.proofs.Lanes.{ends_less, more_ends}
use Rattle.mq_picture.proofs.rows.Lane.arrive.Goals as goal

-- no packet is left
pub returns-in_default : goal.returns-in_default
returns-in_default c = ends_less (c.args.count - c.packets.left) c.args.count c.args.self.now c.packets.self c.args.rows.now.items c.packets.rows.items (omega arith) c.packets.invariant.1

pub packets-preserved : goal.packets-preserved
packets-preserved c =
    let lane = c.packets.self in
    more_ends c.args.count c.packets.left c.in-Some.missing c.args.self.now lane (record { to = lane.to; packets = lane.packets; arrived = lane.arrived + c.in-Some.missing }) c.end_first.new.self
    c.args.rows.now.items c.packets.rows.items c.end_first.new.rows.items c.if-left-missing.false c.packets.invariant.0 c.packets.invariant.1 refl refl (omega arith) c.in_ok-end_first.ensures.ends
