use Rattle.std.proofs.Common.{[], ◌∷◌, refl, Ok}
use Rattle.std.proofs.lemmas.Result.{err_from_is_err_and}
use Rattle.mq_client.specs.Course.{Subscription}
use Rattle.mq_client.specs.Collecting.{Keeps, request_of}
use Rattle.mq_client.proofs.Collected.{first_all, first_none, keeps_then, keeps_went, unack_after, unack_none}
use Rattle.mq_client.proofs.Courses.{on_err, on_ok, went_none, went_still}
use Rattle.mq_client.proofs.collector.ask.Goals as goal

pub returns-in_err-requests_of-clause-err : goal.returns-in_err-requests_of-clause-err
returns-in_err-requests_of-clause-err g c =
    let p = err_from_is_err_and c.from_residual.result c.from_residual.ensures.1 in
    rw (p.1, p.2) (first_none _ _ _ _ _ _ (keeps_went _ _ _ _ _ (went_none _) c.in_err-requests_of.ensures.goes_on))

pub returns-in_err-subscribe-clause-err : goal.returns-in_err-subscribe-clause-err
returns-in_err-subscribe-clause-err g c =
    let p = err_from_is_err_and c.from_residual-in_err-subscribe.result c.from_residual-in_err-subscribe.ensures.1 in
    rw (p.1, p.2) (first_none _ _ _ _ _ _ (keeps_went _ _ _ _ _ c.in_err-subscribe.ensures.refused c.in_err-subscribe.ensures.goes_on))

pub returns-in_err-write-clause-err : goal.returns-in_err-write-clause-err
returns-in_err-write-clause-err g c =
    let p = err_from_is_err_and c.from_residual-in_err-write.result c.from_residual-in_err-write.ensures.1 in
    let went = rw c.in_ok-requests_of.ensures.ok at c.in_ok-subscribe.ensures.went in
    let asking : Keeps c.args.peer.now c.subscribe.new.self (Subscription (request_of c.args.goal.now ∷ []) ∷ []) c.args.kept.now.items c.args.kept.now.items (Ok tt) = keeps_went _ _ _ _ _ went refl in
    rw (p.1, p.2) (first_all _ _ _ _ _ _ (keeps_then _ _ _ (Subscription (request_of c.args.goal.now ∷ []) ∷ []) [] _ _ _ _ asking (keeps_went _ _ _ _ _ c.write.ensures.went c.in_err-write.ensures.goes_on)))

pub returns-clause-ok : goal.returns-clause-ok
returns-clause-ok g c =
    let went = rw c.in_ok-requests_of.ensures.ok at c.in_ok-subscribe.ensures.went in
    let asking : Keeps c.args.peer.now c.subscribe.new.self (Subscription (request_of c.args.goal.now ∷ []) ∷ []) c.args.kept.now.items c.args.kept.now.items (Ok tt) = keeps_went _ _ _ _ _ went refl in
    let written : Keeps c.subscribe.new.self c.write.new.self [] c.args.kept.now.items c.args.kept.now.items (Ok tt) = keeps_went _ _ _ _ _ c.write.ensures.went refl in
    let sent : Keeps c.args.peer.now c.write.new.self (Subscription (request_of c.args.goal.now ∷ []) ∷ []) c.args.kept.now.items c.args.kept.now.items (Ok tt) = keeps_then _ _ _ (Subscription (request_of c.args.goal.now ∷ []) ∷ []) [] _ _ _ _ asking written in
    on_ok _ _ (keeps_then _ _ _ (Subscription (request_of c.args.goal.now ∷ []) ∷ []) [] _ _ _ _ sent c.await_answer.ensures.kept)

pub returns-clause-err : goal.returns-clause-err
returns-clause-err g c =
    let went = rw c.in_ok-requests_of.ensures.ok at c.in_ok-subscribe.ensures.went in
    let asking : Keeps c.args.peer.now c.subscribe.new.self (Subscription (request_of c.args.goal.now ∷ []) ∷ []) c.args.kept.now.items c.args.kept.now.items (Ok tt) = keeps_went _ _ _ _ _ went refl in
    let written : Keeps c.subscribe.new.self c.write.new.self [] c.args.kept.now.items c.args.kept.now.items (Ok tt) = keeps_went _ _ _ _ _ c.write.ensures.went refl in
    let sent : Keeps c.args.peer.now c.write.new.self (Subscription (request_of c.args.goal.now ∷ []) ∷ []) c.args.kept.now.items c.args.kept.now.items (Ok tt) = keeps_then _ _ _ (Subscription (request_of c.args.goal.now ∷ []) ∷ []) [] _ _ _ _ asking written in
    on_err _ _ (first_all _ _ _ _ _ _ (keeps_then _ _ _ (Subscription (request_of c.args.goal.now ∷ []) ∷ []) [] _ _ _ _ sent c.await_answer.ensures.kept))

pub returns-in_err-requests_of-clause-unacknowledged : goal.returns-in_err-requests_of-clause-unacknowledged
returns-in_err-requests_of-clause-unacknowledged g c = unack_none _ _ [] [] (went_none _) refl

pub returns-in_err-subscribe-clause-unacknowledged : goal.returns-in_err-subscribe-clause-unacknowledged
returns-in_err-subscribe-clause-unacknowledged g c = unack_none _ _ [] [] c.in_err-subscribe.ensures.refused refl

pub returns-in_err-write-clause-unacknowledged : goal.returns-in_err-write-clause-unacknowledged
returns-in_err-write-clause-unacknowledged g c = unack_none _ _ _ [] (went_still _ _ _ _ [] [] c.in_ok-subscribe.ensures.went c.write.ensures.went) refl

pub returns-clause-unacknowledged : goal.returns-clause-unacknowledged
returns-clause-unacknowledged g c = unack_after _ _ _ _ [] (went_still _ _ _ _ [] [] c.in_ok-subscribe.ensures.went c.write.ensures.went) refl c.await_answer.ensures.unacknowledged
