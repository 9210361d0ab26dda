-- Sessions over every run (3.1.2.4).
use Rattle.std.specs.Prelude.{ℕ, ◌≡◌, true, false, Option, List}
use Rattle.mq_world.specs.Machine.{Machine, Move, Run, blank_machine}

-- No connection has clean session 1, so neither side discards its session; and if the client's
-- session is established, the server has one (3.1.2.4).
pub record KeepsSessions (machine : Machine) : Type 0 where
  pub client : machine.client.end.clean ≡ false
  pub server : machine.server.end.clean ≡ false
  pub known : machine.client.end.known ≡ true → machine.server.end.known ≡ true

-- over every run
abbrev pub SessionsLaw : Type 0
SessionsLaw = (limit capacity : ℕ) (window : Option ℕ) (moves : List Move) (machine : Machine)
    → Run limit capacity (blank_machine window) moves machine → KeepsSessions machine
