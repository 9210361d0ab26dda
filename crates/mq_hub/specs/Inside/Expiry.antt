-- Sessions of clients that are absent for too long (3.1.2.4).
use Rattle.std.specs.Prelude.{◌≡◌, ℕ, List, None}
use Rattle.std.specs.List.{AllByRecursion}
use Rattle.mq_route.specs.Hub.{HubConnection, up_on}

-- none of these clients is connected
abbrev pub AreAway : List ℕ → List HubConnection → Type 0
AreAway keys connections = AllByRecursion (λ key. up_on key connections ≡ None) keys
