use Rattle.std.proofs.Common.{◌≡◌}
use Rattle.mq_pubsub_runs.specs.Inside.Posting.{Fills, Remembers}
use Rattle.mq_pubsub_runs.proofs.outbox.Outbox.fill.Given as goal

abbrev pub invariant-loop : goal.invariant-loop
invariant-loop g l =
    Fills l.initial.peer l.peer l.initial.self.next l.self.next l.initial.self.unwritten l.self.unwritten (g.M.Source.coming l.initial.source) (g.M.Source.coming l.source)
    × (l.self.lost ≡ l.initial.self.lost)
    × (Remembers l.initial.self.is_ended (g.M.Source.ended l.initial.source) → Remembers l.self.is_ended (g.M.Source.ended l.source))
