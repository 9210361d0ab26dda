-- A broker that was recovered from a folder.
use Rattle.std.specs.Prelude.{ℕ}
use Rattle.mq_route.specs.Hub.{HubState}

-- A broker, and the number of events that were recovered.
pub record RecoveredState : Type 0 where
  pub hub : HubState
  pub events : ℕ
