use Rattle.std.proofs.Common.{take, flat_map}
use Rattle.std.specs.Io.KnownBytes.{Appends}
use Rattle.mq_status.specs.Page.{item_text}
use Rattle.mq_status.specs.declared.page.Item.{Item}
use Rattle.mq_status.proofs.page.write_items.Given as goal

abbrev pub invariant-loop-item : goal.invariant-loop-item
invariant-loop-item g l =
    Appends (g.W.Write.contents l.initial.output) (g.W.Write.contents l.output)
    (flat_map (λ (i : Item). item_text i.0.now i.1) (take l.item-index l.items))
