-- What the broker's definition sees of the tables.
use Rattle.std.proofs.Common.{◌≡◌, ◌||◌, ℕ, Bool, List, [], ◌∷◌, ◌++◌, refl, ap}
use Rattle.mq_route.specs.declared.config.HubConfig.{HubConfig}
use Rattle.mq_route.specs.declared.conn.Conn.{Conn}
use Rattle.mq_route.specs.Hub.{HubConnection, is_connection, knows}
use Rattle.mq_tables.specs.declared.sessions.session.BrokerSession.{BrokerSession}
use Rattle.mq_tables.specs.Sessions.{sessions_of}
use Rattle.mq_tables.specs.Tables.{HubTables}
use Rattle.mq_hub.specs.Inside.View.{all_seen, hub_of, seen}

pub knows_seen : (k : Conn) (ts : List BrokerSession) (xs : List HubConnection) → knows k (all_seen ts xs) ≡ knows k xs
knows_seen k ts [] = refl
knows_seen k ts (x ∷ xs) = ap (λ (b : Bool). is_connection k x || b) (knows_seen k ts xs)

pub seen_append : (ts : List BrokerSession) (xs ys : List HubConnection) → all_seen ts (xs ++ ys) ≡ all_seen ts xs ++ all_seen ts ys
seen_append ts [] ys = refl
seen_append ts (x ∷ xs) ys = ap (λ (zs : List HubConnection). seen ts x ∷ zs) (seen_append ts xs ys)

-- a broker that has such tables
pub hub_same : (config : HubConfig) (clock next : ℕ) (t u : HubTables) → u.rows ≡ t.rows → u.retained.messages ≡ t.retained.messages → u.sessions.list ≡ t.sessions.list
    → u.connections.connections ≡ t.connections.connections → hub_of config clock next u ≡ hub_of config clock next t
hub_same config clock next t u rows retained list connections = λ i. record {
  config = config;
  clock = clock;
  next_key = next;
  rows = rows i;
  retained = retained i;
  sessions = sessions_of (list i);
  connections = all_seen (list i) (connections i);
}
