use Rattle.std.proofs.Common.{◌<◌, ◌∷◌, [], length, arith}
use Rattle.std.proofs.lemmas.List.{length-append}
use Rattle.mq_decode.specs.Lists.{items_at}
use Rattle.mq_decode.proofs.Loops.{goes_on, some_left}
use Rattle.mq_decode.proofs.lists.list.Goals as goal

pub loop-rest-preserved : goal.loop-rest-preserved
loop-rest-preserved g c =
    let items = c.loop-rest.items.items in
    let pushed = c.in_ok-push-in-Ok.ensures.items in
    let left : 0 < length c.loop-rest.rest.now = some_left c.is_empty.result _ c.is_empty.ensures c.loop-rest-test.true in
    let shorter : length c.in-Ok.after.now < length c.loop-rest.rest.now = c.in-Ok.ensures.shorter in
    rw pushed (record {
      room = omega (arith, length-append items (c.in-Ok.item ∷ []));
      item = omega (arith, length-append items (c.in-Ok.item ∷ []));
      told = goes_on g.T.Item.item_at items c.in-Ok.item c.args.bytes.now c.loop-rest.rest.now c.in-Ok.after.now (items_at g.T.Item.item_at (length c.args.bytes.now) c.args.bytes.now)
          left c.loop-rest.invariant.room c.in-Ok.ensures.read c.loop-rest.invariant.told;
    })
