-- The table of connections (4.2). Only proofs cite these definitions.
use Rattle.std.specs.Prelude.{ℕ, List, ◌≡◌, slice_get, true, Some, Option, ◌≤◌, false}
use Rattle.mq_route.specs.declared.conn.Conn.{Conn}
use Rattle.mq_route.specs.Routed.{same_conn}
use Rattle.mq_route.specs.declared.connection_state.ConnectionState.{ConnectionState}
use Rattle.mq_tables.specs.declared.connections.connection.Connection.{Connection}
use Rattle.mq_tables.specs.Alarms.{is_late_on}

-- the connection at this index has this name
abbrev pub IsNamedAt : Conn → ℕ → List (Conn × Connection) → Type 0
IsNamedAt conn index entries = (entry : Conn × Connection) × (slice_get entries index ≡ Some entry) × (same_conn conn entry.0 ≡ true)

-- it is not late up to this time (3.1, 3.1.2.10)
abbrev pub IsTimely : Option ℕ → ℕ → ℕ → ConnectionState → Type 0
IsTimely within due since stage = (now : ℕ) → now ≤ due → is_late_on within now since stage ≡ false
