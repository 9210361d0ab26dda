use Rattle.std.proofs.Common.{sym, arith}
use Rattle.mq_packet.proofs.Lists.{fits_item}
use Rattle.mq_packet.proofs.encoded.put_all.Goals as goal

pub put-requires : goal.put-requires
put-requires g c =
    let fits = fits_item g.T.ListItem.encoding c.args.items.now c.loop-item.item-index c.item-item.result c.loop-item.out.items c.args.out.now.items c.loop-item-test.true (sym c.item-item.is) c.loop-item.invariant.items in
    omega (arith, c.loop-item.out.ok.0, c.args.out.now.ok.0)
