use Rattle.std.proofs.Common.{[], ◌∷◌, subst}
use Rattle.mq_packet.specs.declared.message.Message.{Message}
use Rattle.mq_client.specs.Course.{Publication, Went}
use Rattle.mq_pubsub_runs.proofs.Postings.{publishes_none, publishes_one, stored_one}
use Rattle.mq_pubsub_runs.proofs.outbox.Outbox.publish_next.Goals as goal

pub returns-in_default-clause-published : goal.returns-in_default-clause-published
returns-in_default-clause-published g c = publishes_none _ _ _

pub returns-in_err-clone-clause-published : goal.returns-in_err-clone-clause-published
returns-in_err-clone-clause-published g c = publishes_none _ _ _

pub returns-in-Ok-true-clause-published : goal.returns-in-Ok-true-clause-published
returns-in-Ok-true-clause-published g c =
    let cloned = rw c.in-Ok-true.field-0-test at c.in-Ok-true.ensures.went in
    let went = subst (λ (m : Message). Went c.args.peer.now c.publish.new.self (Publication m ∷ []) [] []) c.in_ok-clone.ensures.cases cloned in
    rw (c.accept.ensures.next, c.in-Some.is) (publishes_one _ _ c.in-Some.message _ _ went c.accept.ensures.unwritten (λ e. stored_one _ (c.accept.ensures.stored e)))
