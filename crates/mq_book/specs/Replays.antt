-- The steps that a journal records.
use Rattle.std.specs.Prelude.{◌≡◌, List, [], ◌∷◌}
use Rattle.mq_route.specs.Hub.{HubState}
use Rattle.mq_route.specs.Step.{HubStep}
use Rattle.mq_book.specs.declared.entry.Entry.{Entry}

-- The entries lead from the base to the hub: each one is a step with its event and its reply.
abbrev pub Replay : HubState → List Entry → HubState → Type 0
Replay base [] hub = base ≡ hub
Replay base (entry ∷ rest) hub =
    (next : HubState) × HubStep base entry.event entry.reply next × Replay next rest hub
