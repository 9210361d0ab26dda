use Rattle.std.proofs.Common.{[], ◌∷◌, List, subst}
use Rattle.mq_packet.specs.declared.packet.Request.{Request}
use Rattle.std.proofs.lemmas.List.Elements.{same_from_all_zip}
use Rattle.mq_client.specs.Course.{Subscription, Went}
use Rattle.mq_client.proofs.Courses.{on_err, went_none}
use Rattle.mq_pubsub_runs.proofs.subscriber.subscribe_to.Goals as goal

pub returns-in_err-clone-clause-err : goal.returns-in_err-clone-clause-err
returns-in_err-clone-clause-err g c = on_err _ _ (went_none _)

pub returns-clause-ok : goal.returns-clause-ok
returns-clause-ok g c =
    rw c.in-Some.is (subst (λ (z : List Request). Went c.args.peer.now c.subscribe.new.self (Subscription z ∷ []) [] []) (same_from_all_zip _ c.in-Some.requests.now c.in_ok-clone.field-0 c.in_ok-clone.ensures.cases (λ x y same. same)) c.in_ok-subscribe.ensures.went)
