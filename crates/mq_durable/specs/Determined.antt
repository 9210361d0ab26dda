-- Runs of the same events lead to the same broker.
use Rattle.std.specs.Prelude.{◌≡◌, List, map}
use Rattle.mq_route.specs.declared.event.HubEvent.{HubEvent}
use Rattle.mq_route.specs.declared.reply.HubReply.{HubReply}
use Rattle.mq_route.specs.Hub.{HubState}
use Rattle.mq_durable.specs.Replaying.{Replays}

-- the replies to the events
abbrev pub replies_in : {old new : HubState} {events : List HubEvent} → Replays old events new → List HubReply
replies_in run = map (λ episode. episode.reply) run.episodes

pub record ReplayLaws : Type 0 where
  -- If no failed allocation is reported, the same events lead the same broker to the same replies
  -- and the same broker.
  pub same : (old new other : HubState) (events : List HubEvent)
      → (first : Replays old events new) (second : Replays old events other)
      → (replies_in first ≡ replies_in second) × (new ≡ other)
