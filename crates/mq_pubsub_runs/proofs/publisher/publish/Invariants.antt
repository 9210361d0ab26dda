use Rattle.mq_pubsub_runs.specs.Inside.Posting.{Remembers}
use Rattle.mq_pubsub_runs.proofs.Postings.{PostedSoFar}
use Rattle.mq_pubsub_runs.proofs.publisher.publish.Given as goal

abbrev pub invariant-loop : goal.invariant-loop
invariant-loop g l =
    PostedSoFar l.fn.client (g.K.SessionSaver.kept l.fn.keeper) l.sitting.client (g.K.SessionSaver.kept l.sitting.keeper)
    l.outbox.next l.outbox.lost (g.M.Source.coming l.fn.source) (g.M.Source.coming l.source)
    × Remembers l.outbox.is_ended (g.M.Source.ended l.source)
