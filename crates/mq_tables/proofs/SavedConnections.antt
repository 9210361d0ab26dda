-- Connections in a snapshot.
use Rattle.std.proofs.Common.{◌≡◌, ℕ, List, [], ◌∷◌, ◌++◌, map, length, refl, sym, ◌∙◌}
use Rattle.std.proofs.lemmas.List.{length-map}
use Rattle.std.specs.List.{flat_map}
use Rattle.mq_route.specs.declared.conn.Conn.{Conn}
use Rattle.mq_route.specs.Snapshot.{eight, listed, saved_connection}
use Rattle.mq_tables.specs.declared.connections.connection.Connection.{Connection}
use Rattle.mq_tables.specs.Connections.{connection_of, connections_of}

-- the bytes of a connection of the table
abbrev pub saved_by : Connection → List ℕ
saved_by c = saved_connection (connection_of c)

each_saved : (es : List (Conn × Connection)) → flat_map saved_by (map (λ e. e.1) es) ≡ flat_map saved_connection (connections_of es)
each_saved [] = refl
each_saved (e ∷ es) = λ i. saved_by e.1 ++ each_saved es i

pub listed_by : (es : List (Conn × Connection)) → listed saved_by (map (λ e. e.1) es) ≡ listed saved_connection (connections_of es)
listed_by es =
    let size : length (map (λ (e : Conn × Connection). e.1) es) ≡ length (connections_of es) =
    length-map es (λ (e : Conn × Connection). e.1) ∙ sym (length-map es (λ (e : Conn × Connection). connection_of e.1)) in
    λ i. eight (size i) ++ each_saved es i

-- the names of the connections of the table
pub each_name : (es : List (Conn × Connection)) → map (λ (c : Connection). c.conn) (map (λ e. e.1) es) ≡ map (λ x. x.conn) (connections_of es)
each_name [] = refl
each_name (e ∷ es) = λ i. e.1.conn ∷ each_name es i
