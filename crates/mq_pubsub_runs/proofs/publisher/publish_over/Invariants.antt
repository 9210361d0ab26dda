use Rattle.mq_pubsub_runs.specs.Posting.{Progress}
use Rattle.mq_pubsub_runs.specs.Inside.Posting.{Remembers}
use Rattle.mq_pubsub_runs.proofs.publisher.publish_over.Given as goal

abbrev pub invariant-loop : goal.invariant-loop
invariant-loop g l =
    Progress l.fn.peer l.peer l.fn.outbox.next l.outbox.next l.fn.outbox.lost l.outbox.lost (g.M.Source.coming l.fn.source) (g.M.Source.coming l.source)
    × (Remembers l.fn.outbox.is_ended (g.M.Source.ended l.fn.source) → Remembers l.outbox.is_ended (g.M.Source.ended l.source))
