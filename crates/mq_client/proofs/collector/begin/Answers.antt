use Rattle.std.proofs.Common.{◌≡◌, [], ◌∷◌, flat_map, refl, subst}
use Rattle.std.proofs.lemmas.Result.{err_from_is_err_and}
use Rattle.mq_client.specs.Course.{Opening, Subscription}
use Rattle.mq_client.specs.Collecting.{request_of}
use Rattle.mq_client.specs.declared.error.ClientError.TheVariants.{Lost}
use Rattle.mq_client.specs.Collecting.{handed}
use Rattle.mq_client.proofs.Collected.{first_all, first_before, keeps_as, unack_then}
use Rattle.mq_client.proofs.Collects.{if_kept, if_stopped}
use Rattle.mq_client.proofs.collector.begin.Goals as goal

pub returns-in_err-rise-clause-err : goal.returns-in_err-rise-clause-err
returns-in_err-rise-clause-err g c =
    let p = err_from_is_err_and c.from_residual.result c.from_residual.ensures.1 in
    rw (p.1, p.2) (first_before _ _ (Opening c.args.clean ∷ []) (Subscription (request_of c.args.goal.now ∷ []) ∷ []) _ _ _ c.in_err-rise.ensures.err)

pub returns-clause-ok : goal.returns-clause-ok
returns-clause-ok g c = if_kept _ _ _ c.args.clean c.args.goal.now _ _ _ c.ask.result c.in_ok-rise.ensures.ok c.ask.ensures.ok

pub returns-clause-err : goal.returns-clause-err
returns-clause-err g c = if_stopped _ _ _ c.args.clean c.args.goal.now _ _ _ c.ask.result c.in_ok-rise.ensures.ok c.ask.ensures.err

pub returns-then-has_message-clause-err : goal.returns-then-has_message-clause-err
returns-then-has_message-clause-err g c =
    first_before _ _ (Opening c.args.clean ∷ []) (Subscription (request_of c.args.goal.now ∷ []) ∷ []) _ _ _ (first_all _ _ _ _ _ _ (keeps_as _ _ _ _ _ Lost refl c.in_ok-rise.ensures.ok))

pub returns-clause-unacknowledged : goal.returns-clause-unacknowledged
returns-clause-unacknowledged g c =
    let none = subst (λ z. flat_map handed z ≡ []) c.as_slice.ensures.value (c.if-has_message.ensures refl) in
    unack_then _ _ _ (Opening c.args.clean ∷ []) _ _ c.in_ok-rise.ensures.ok none c.ask.ensures.unacknowledged
