use Rattle.std.proofs.Common.{◌≡◌, ◌++◌, All, length, take}
use Rattle.std.specs.List.{flat_map}
use Rattle.mq_route.specs.Snapshot.{eight, saved_session, HasIdentifiers}
use Rattle.mq_tables.specs.Sessions.{session_of}
use Rattle.mq_tables.proofs.sessions.snapshot.save_all.Given as goal

-- The number of sessions was appended, and those before the index, whose identifiers are valid.
abbrev pub invariant-loop-boxed : goal.invariant-loop-boxed
invariant-loop-boxed l = record {
  written : l.out.items ≡ (l.fn.out.items ++ eight (length l.list)) ++ flat_map (λ t. saved_session (session_of t)) (take l.boxed-index l.list);
  received : All (λ t. HasIdentifiers (session_of t)) (take l.boxed-index l.list);
}
