-- Late connections, by index and by name (3.1, 3.1.2.10).
use Rattle.std.specs.Prelude.{◌≡◌, ℕ, false, List, Option, true, slice_get, Some}
use Rattle.std.specs.List.{AllByRecursion, Contains}
use Rattle.mq_route.specs.Hub.{HubConnection}
use Rattle.mq_tables.specs.Alarms.{is_late_on}

-- no connection is late at this time
abbrev pub AreInTime : Option ℕ → ℕ → List HubConnection → Type 0
AreInTime within now = AllByRecursion (λ connection. is_late_on within now connection.since connection.stage ≡ false)

-- the index of each late connection is among these
abbrev pub HasLate : Option ℕ → ℕ → List HubConnection → List ℕ → Type 0
HasLate within now connections places = (index : ℕ) (connection : HubConnection) → slice_get connections index ≡ Some connection
    → is_late_on within now connection.since connection.stage ≡ true → Contains places index
