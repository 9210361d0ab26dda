-- When a broker needs a tick (3.1.2.10).
use Rattle.std.specs.Prelude.{◌≡◌, ◌<◌, ℕ, [], max}
use Rattle.mq_route.specs.declared.event.HubEvent.TheVariants.{Tick}
use Rattle.mq_route.specs.declared.reply.HubReply.{HubReply}
use Rattle.mq_route.specs.Hub.{HubState}
use Rattle.mq_route.specs.Step.{HubStep, with_clock}

-- Before this time a tick sets the clock and does nothing else.
abbrev pub IsIdleBefore : ℕ → HubState → Type 0
IsIdleBefore time hub =
    (now : ℕ) (reply : HubReply) (after : HubState) → max hub.clock now < time
    → HubStep hub (Tick now) reply after → (reply.acts ≡ []) × (after ≡ with_clock now hub)
