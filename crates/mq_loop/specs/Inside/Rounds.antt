-- The end of a round: which connections have pending output, and which must be ended (4.6). Only
-- proofs cite these definitions.
use Rattle.std.specs.Prelude.{◌≡◌, ◌⊎◌, ℕ, suc, ◌+◌, ◌*◌, ◌≤◌, Bool, true, List, length}
use Rattle.mq_loop.specs.Inside.Places.{count_in}
use Rattle.mq_loop.specs.Rounds.{AllIn, connections_in, WatchedState, IsEmpty}

-- the second set has the places of the first, of at least as many
abbrev pub IsRoomier : List Bool → List Bool → Type 0
IsRoomier old new = (length old ≤ length new) × AllIn old new

-- no connection is over, unless an allocation failed
abbrev pub AreEnded : WatchedState → Type 0
AreEnded watched = IsEmpty watched.over ⊎ (watched.failed ≡ true)

-- the maximum number of remaining ends: a bound on the connections and on the places that are
-- over
abbrev pub ends_left : WatchedState → ℕ
ends_left watched = connections_in watched.served.lines * suc (length watched.over) + count_in watched.over
