use Rattle.std.proofs.Common.{◌<◌, length}
use Rattle.mq_decode.proofs.Loops.{some_left}
use Rattle.mq_bytes.proofs.ItemLists.{items_go, items_stop}
use Rattle.mq_bytes.proofs.items.are_items.Goals as goal

pub loop-rest-preserved : goal.loop-rest-preserved
loop-rest-preserved c =
    let some : 0 < length c.loop-rest.rest.now = some_left c.is_empty.result _ c.is_empty.ensures c.loop-rest-test.true in
    let h = items_go c.args.kind c.args.items.now c.loop-rest.rest.now c.split_at.result.1.now c.in-Some.size c.split_at.ensures.back some c.in-Some.ensures.complete c.in-Some.ensures.sound c.loop-rest.invariant.behind c.loop-rest.invariant.with in
    record { behind = h.behind; with = h.with }

pub returns-in-None : goal.returns-in-None
returns-in-None c =
    let some : 0 < length c.loop-rest.rest.now = some_left c.is_empty.result _ c.is_empty.ensures c.loop-rest-test.true in
    items_stop c.args.kind c.args.items.now c.loop-rest.rest.now some c.in-None.ensures.complete c.loop-rest.invariant.behind
