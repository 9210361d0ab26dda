-- A replay continues by a step.
use Rattle.std.proofs.Common.{List, [], ◌∷◌, ◌++◌, sym, subst, refl}
use Rattle.mq_route.specs.Hub.{HubState}
use Rattle.mq_route.specs.Step.{HubStep}
use Rattle.mq_book.specs.declared.entry.Entry.{Entry}
use Rattle.mq_book.specs.Replays.{Replay}

-- one step more at the end
pub replay_snoc : (base : HubState) (es : List Entry) (hub : HubState) (e : Entry) (next : HubState) → Replay base es hub
    → HubStep hub e.event e.reply next → Replay base (es ++ e ∷ []) next
replay_snoc base [] hub e next is step = let P : HubState → Type 0 = λ h. HubStep h e.event e.reply next in (next, subst P (sym is) step, refl)
replay_snoc base (x ∷ es) hub e next r step = (r.0, r.1, replay_snoc r.0 es hub e next r.2 step)
