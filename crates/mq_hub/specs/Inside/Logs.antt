-- The log of each client: the messages taken from it, placed for it and missed by it.
use Rattle.std.specs.Prelude.{◌≡◌, [], ℕ, ◌+◌, ◌++◌, List, ◌∷◌}
use Rattle.mq_route.specs.declared.trace.ClientLog.{ClientLog}
use Rattle.mq_route.specs.declared.act.Act.{Act}
use Rattle.mq_route.specs.Routed.{missed_by, placed_by, taken_by}

-- an empty log
abbrev pub IsBlank : ClientLog → Type 0
IsBlank log = (log.taken ≡ []) × (log.placed ≡ []) × (log.missed ≡ [])

-- the log of a client after one more act
abbrev pub noted : Act → ℕ → ClientLog → ClientLog
noted act client log = record { taken = log.taken ++ taken_by client act; placed = log.placed ++ placed_by client act; missed = log.missed ++ missed_by client act }

-- the logs of the clients from this key on after one more act
abbrev pub all_noted : ℕ → Act → List ClientLog → List ClientLog
all_noted client act [] = []
all_noted client act (log ∷ more) = noted act client log ∷ all_noted (client + 1) act more
