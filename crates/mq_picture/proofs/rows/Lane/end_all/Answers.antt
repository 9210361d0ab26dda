use Rattle.mq_picture.proofs.Lanes.{ends_then}
use Rattle.mq_picture.proofs.rows.Lane.end_all.Goals as goal

pub packets-preserved : goal.packets-preserved
packets-preserved c =
    ends_then 0 0 c.args.self.now c.packets.self c.end_first.new.self c.args.rows.now.items c.packets.rows.items c.end_first.new.rows.items
    c.packets.invariant c.in_ok-end_first.ensures.ends
