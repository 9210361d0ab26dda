-- Late connections, by index and by name (3.1, 3.1.2.10). Only proofs cite these definitions.
use Rattle.std.specs.Prelude.{◌≡◌, ℕ, false, List, Option, true, slice_get, Some}
use Rattle.std.specs.List.{Contains}
use Rattle.mq_route.specs.Hub.{HubConnection}
use Rattle.mq_route.specs.declared.conn.Conn.{Conn}
use Rattle.mq_tables.specs.Alarms.{is_late_on}
use Rattle.mq_tables.specs.Inside.Alarms.{is_named}

-- the name of each late connection is among these
abbrev pub HasLateNamed : Option ℕ → ℕ → List HubConnection → List Conn → Type 0
HasLateNamed within now connections names = (index : ℕ) (connection : HubConnection) → slice_get connections index ≡ Some connection
    → is_late_on within now connection.since connection.stage ≡ true → is_named connection.conn names ≡ true

-- the index of each late connection is among these, except for those with these names
abbrev pub HasLateBut : Option ℕ → ℕ → List HubConnection → List Conn → List ℕ → Type 0
HasLateBut within now connections names places =
    (index : ℕ) (connection : HubConnection) → slice_get connections index ≡ Some connection
    → is_late_on within now connection.since connection.stage ≡ true → is_named connection.conn names ≡ false → Contains places index
