-- Connections in a snapshot.
use Rattle.std.proofs.Common.{◌≡◌, ◌||◌, List, [], ◌∷◌, ◌++◌, map, refl}
use Rattle.std.proofs.lemmas.List.{length-map}
use Rattle.std.specs.List.{flat_map, list_any}
use Rattle.mq_route.specs.declared.conn.Conn.{Conn}
use Rattle.mq_route.specs.Hub.{HubConnection, knows}
use Rattle.mq_route.specs.Routed.{same_conn}
use Rattle.mq_route.specs.Snapshot.{eight, listed, saved_connection}
use Rattle.mq_tables.specs.declared.sessions.session.BrokerSession.{BrokerSession}
use Rattle.mq_hub.specs.Inside.View.{all_seen, seen}

pub names_seen : (ts : List BrokerSession) (xs : List HubConnection) → map (λ (x : HubConnection). x.conn) xs ≡ map (λ (x : HubConnection). x.conn) (all_seen ts xs)
names_seen ts [] = refl
names_seen ts (x ∷ xs) = λ i. x.conn ∷ names_seen ts xs i

pub known_names : (k : Conn) (xs : List HubConnection) → list_any (λ (name : Conn). same_conn name k) (map (λ (x : HubConnection). x.conn) xs) ≡ knows k xs
known_names k [] = refl
known_names k (x ∷ xs) = λ i. same_conn x.conn k || known_names k xs i

-- the pending output is not saved
saved_seen : (ts : List BrokerSession) (x : HubConnection) → saved_connection (seen ts x) ≡ saved_connection x
unfolding saved_connection
saved_seen ts x = refl

all_saved : (ts : List BrokerSession) (xs : List HubConnection) → flat_map saved_connection (all_seen ts xs) ≡ flat_map saved_connection xs
all_saved ts [] = refl
all_saved ts (x ∷ xs) = λ i. saved_seen ts x i ++ all_saved ts xs i

pub listed_seen : (ts : List BrokerSession) (xs : List HubConnection) → listed saved_connection (all_seen ts xs) ≡ listed saved_connection xs
listed_seen ts xs = λ i. eight (length-map xs (seen ts) i) ++ all_saved ts xs i
