use Rattle.std.proofs.Common.{◌<◌, length}
use Rattle.mq_decode.proofs.Loops.{passed_none, passed_more, some_left}
use Rattle.mq_decode.proofs.lists.test_list.Goals as goal

pub loop-rest-init : goal.loop-rest-init
loop-rest-init g c = passed_none g.T.Item.item_at c.args.bytes.now

pub loop-rest-preserved : goal.loop-rest-preserved
loop-rest-preserved g c =
    let left : 0 < length c.loop-rest.rest.now = some_left c.is_empty-in-loop-rest.result _ c.is_empty-in-loop-rest.ensures c.loop-rest-test.true in
    passed_more g.T.Item.item_at c.args.bytes.now c.loop-rest.rest.now c.in-Ok.after.now left c.in-Ok.ensures.shorter c.in-Ok.ensures.read c.loop-rest.invariant
