use Rattle.std.proofs.Common.{arith, get_or, refl, sym, ap, ◌∙◌}
use Rattle.std.specs.Option.{option_map}
use Rattle.mq_flow.specs.Inside.Held.{gone_out}
use Rattle.mq_flow.proofs.Slots.{one_changed}
use Rattle.mq_flow.proofs.table.mark_slots.Goals as goal

pub loop-slot-preserved : goal.loop-slot-preserved
loop-slot-preserved c = one_changed (option_map gone_out) c.deref_mut-slot-items.result.now c.loop-slot.slot-items _ c.loop-slot.slot-index c.slot-item.result c.mark.new.slot (omega arith) c.loop-slot.invariant c.slot-item.is (c.mark.ensures ∙ ap (option_map gone_out) (sym c.slot-item.is)) refl
