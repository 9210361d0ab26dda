-- The broker to which a list of recorded events came.
use Rattle.std.specs.Prelude.{◌≡◌, false, List, map, filter}
use Rattle.std.specs.List.{list_any}
use Rattle.mq_route.specs.declared.event.HubEvent.{HubEvent}
use Rattle.mq_route.specs.Hub.{HubState}
use Rattle.mq_route.specs.Runs.{Episode, Follows}
use Rattle.mq_record.specs.Encoding.{is_recorded}
use Rattle.mq_durable.specs.Memory.{reports_memory}

-- no reply of a run reports that an allocation failed
abbrev pub IsSound : List Episode → Type 0
IsSound episodes = list_any (λ episode. reports_memory episode.reply) episodes ≡ false

-- Exactly these events led the broker `old` to `new`, and no reply reports refused memory.
pub record Replays (old : HubState) (events : List HubEvent) (new : HubState) : Type 0 where
  pub episodes : List Episode
  pub came : map (λ episode. episode.event) episodes ≡ events
  pub follows : Follows old episodes new
  pub sound : IsSound episodes

-- A run led the broker `old` to `new`. Its recorded events are these: all but `Collect`.
pub record Reaches (old : HubState) (events : List HubEvent) (new : HubState) : Type 0 where
  pub episodes : List Episode
  pub came : filter is_recorded (map (λ episode. episode.event) episodes) ≡ events
  pub follows : Follows old episodes new
