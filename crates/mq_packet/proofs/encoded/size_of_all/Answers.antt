use Rattle.std.proofs.Common.{sym}
use Rattle.mq_packet.proofs.Lists.{too_long}
use Rattle.mq_packet.proofs.encoded.size_of_all.Goals as goal

pub returns-then-size-gt268435455-clause-fits : goal.returns-then-size-gt268435455-clause-fits
returns-then-size-gt268435455-clause-fits g c =
    too_long g.T.ListItem.encoding c.args.items.now c.loop-item.item-index c.item-item.result c.loop-item.size c.size-size.result c.loop-item-test.true (sym c.item-item.is)
    c.loop-item.invariant.size c.size-size.ensures.size c.if-size-gt268435455.true
