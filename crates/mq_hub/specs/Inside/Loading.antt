-- A broker that is made from a snapshot (3.1.2.4, 4.1, 4.2).
use Rattle.std.specs.Prelude.{ℕ, [], ◌∷◌, ◌++◌, ◌≡◌, List}
use Rattle.std.specs.List.{AllByRecursion}
use Rattle.mq_route.specs.declared.conn.Conn.{Conn}
use Rattle.mq_route.specs.declared.connection_state.ConnectionState.TheVariants.{AwaitingConnect}
use Rattle.mq_route.specs.Hub.{HubConnection, HubState}

-- a connection that was opened at this time, and waits for its CONNECT
abbrev pub opened_at : Conn → ℕ → HubConnection
opened_at conn since = record { conn = conn; stage = AwaitingConnect; held = []; waiting = []; since = since }

-- the broker with one more connection
abbrev pub with_opened : HubConnection → HubState → HubState
with_opened connection hub = record hub { connections = hub.connections ++ connection ∷ [] }

-- there is no pending output
abbrev pub HaveNoOutput : List HubConnection → Type 0
HaveNoOutput = AllByRecursion (λ connection. connection.waiting ≡ [])
