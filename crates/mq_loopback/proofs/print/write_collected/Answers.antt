use Rattle.mq_loopback.proofs.Collected.{lines_more}
use Rattle.mq_loopback.proofs.print.write_collected.Goals as goal

pub loop-left-preserved : goal.loop-left-preserved
loop-left-preserved g c =
    let at = c.loop-left in
    lines_more (g.W.Write.contents c.args.output.now) (g.W.Write.contents at.output) (g.W.Write.contents c.write_client.new.output) at.left.now at.lists.now c.client-item.result c.messages-item.result c.as_slice.result.now _ c.in-len1-up.len_at_least
    c.in-len1-up-lists.len_at_least c.client-item.is c.messages-item.is c.as_slice.ensures.value at.invariant c.in_ok-write_client.ensures
