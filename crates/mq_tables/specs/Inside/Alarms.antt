-- When connections may be late (3.1, 3.1.2.10). Only proofs cite these definitions.
use Rattle.std.specs.Prelude.{ℕ, Bool, false, Option, List, ◌≡◌, ◌||◌, [], ◌∷◌}
use Rattle.std.specs.List.{AllByRecursion}
use Rattle.mq_route.specs.declared.conn.Conn.{Conn}
use Rattle.mq_route.specs.Routed.{same_conn}
use Rattle.mq_tables.specs.declared.connections.connection.Connection.{Connection}
use Rattle.mq_tables.specs.Alarms.{AlarmTable, IsQuiet, IsAwaited}

-- every alarm of the first table that rings by some time makes the second table ring by then
abbrev pub RingsWith : AlarmTable → AlarmTable → Type 0
RingsWith first second = (conn : Conn) (now : ℕ) → IsQuiet second conn now → IsQuiet first conn now

-- this connection is one of these
abbrev pub is_named : Conn → List Conn → Bool
is_named conn [] = false
is_named conn (first ∷ rest) = same_conn conn first || is_named conn rest

-- each of these connections is not late before an alarm of its rings
abbrev pub AreAwaited : Option ℕ → AlarmTable → List (Conn × Connection) → Type 0
AreAwaited within table = AllByRecursion (λ entry. IsAwaited within table entry.1.conn entry.1.since entry.1.stage)

-- the same, except for the connections with these names
abbrev pub AreAwaitedBut : Option ℕ → List Conn → AlarmTable → List (Conn × Connection) → Type 0
AreAwaitedBut within names table = AllByRecursion (λ entry. is_named entry.1.conn names ≡ false → IsAwaited within table entry.1.conn entry.1.since entry.1.stage)
