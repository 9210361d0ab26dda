-- The turns of connections in a round: older ones first (3.1, 4.6).
use Rattle.std.specs.Prelude.{◌≡◌, ℕ, ◌+◌, ◌-◌, ◌^◌, ◌<◌, ◌≤◌, Bool, false, nat_lt, List, [], ◌∷◌, Option, length, min, slice_index_or, if◌then◌else◌}
use Rattle.mq_loop.specs.declared.reading.Reading.{Reading}
use Rattle.mq_loop.specs.declared.turns.Holds.{Holds}
use Rattle.mq_loop.specs.declared.turns.Turn.{Turn}
use Rattle.mq_loop.specs.Calls.{Ages, Call, Each, IsAscending, IsCovered, ages_read, with_calls}

-- no turn is that of an older connection than the one before it
abbrev pub IsOldestFirst : List Turn → Type 0
IsOldestFirst turns =
    (nth : ℕ) (other : Turn) → nth + 1 < length turns
    → (slice_index_or turns nth other).age ≤ (slice_index_or turns (nth + 1) other).age

-- no connection waits
abbrev pub no_holds : Holds
no_holds = record { held_after = 2 ^ 64 - 1; hung_up_after = 2 ^ 64 - 1 }

-- A connection may have more to read. Those wait for it that were opened after it last had nothing
-- to read; beyond a limited time only if its peer has hung up.
abbrev pub holding : Reading → Holds → Holds
holding reading holds = record {
  held_after = min holds.held_after reading.empty_at;
  hung_up_after = if reading.has_hung_up then min holds.hung_up_after reading.empty_at else holds.hung_up_after;
}

-- A connection of this age that sent no CONNECT yet must wait at this time: it is newer than one
-- that holds it. The limited time is 100 milliseconds after it was opened.
abbrev pub must_wait : Holds → ℕ → ℕ → Reading → Bool
must_wait holds time age reading =
    nat_lt (if nat_lt (time - reading.opened_at) 100 then holds.held_after else holds.hung_up_after) age

-- no turn is that of a connection of a smaller age
abbrev pub AtLeast : ℕ → List Turn → Type 0
AtLeast age [] = Unit {0}
AtLeast age (turn ∷ turns) = (age ≤ turn.age) × AtLeast age turns

-- no age is greater than that of a turn
abbrev pub Below : List ℕ → List Turn → Type 0
Below ages [] = Unit {0}
Below ages (turn ∷ turns) = Each (λ age. age ≤ turn.age) ages × Below ages turns

-- The calls of the turns of a round up to now, before the remaining ones.
pub record HeardSo (ages : Ages) (left : List Turn) (old new : Option (List Call)) : Type 0 where
  pub made : List Call
  pub calls : new ≡ with_calls old made
  pub covered : IsCovered false made
  pub oldest_first : IsAscending (ages_read ages made)
  pub below : Below (ages_read ages made) left
