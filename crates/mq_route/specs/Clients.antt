-- The connection of a client, by the acts of a run (3.1.4, 4.6).
use Rattle.std.specs.Prelude.{◌≡◌, ◌↔◌, ℕ, true, List, Some}
use Rattle.mq_route.specs.declared.conn.Conn.{Conn}
use Rattle.mq_route.specs.declared.config.HubConfig.{HubConfig}
use Rattle.mq_route.specs.Hub.{HubState, new_hub, is_for, stage_of}
use Rattle.mq_route.specs.Routed.{seen}
use Rattle.mq_route.specs.Runs.{Episode, Follows, acts_of}

pub record ClientLaws : Type 0 where
  -- a client is connected on a connection exactly if the acts say so
  pub connected_is_seen : (config : HubConfig) (episodes : List Episode) (hub : HubState) → Follows (new_hub config) episodes hub
      → (client : ℕ) (conn : Conn) → (is_for client (stage_of conn hub.connections) ≡ true) ↔ ((seen client (acts_of episodes)).up ≡ Some conn)
