use Rattle.std.proofs.Common.{◌≡◌, ◌++◌, ◌∙◌, ap, Option, Some, None, Err, Ok, option_to_list}
use Rattle.std.specs.Bool.{⊤}
use Rattle.std.proofs.lemmas.Result.{err_from_is_err_and}
use Rattle.mq_end.specs.declared.reason.CloseReason.{CloseReason}
use Rattle.mq_client.specs.declared.error.ClientError.TheVariants.{Closed}
use Rattle.mq_client.specs.Halts.{Closes}
use Rattle.mq_client.proofs.Collected.{keeps_all, keeps_memory, keeps_went}
use Rattle.mq_client.proofs.collector.keep.Goals as goal

closed_some : (o : Option CloseReason) (reason : CloseReason) → o ≡ Some reason → Closes {T = ⊤} (Err (Closed reason)) (option_to_list o)
closed_some o reason p = ap option_to_list p

closed_none : (o : Option CloseReason) → o ≡ None → Closes {T = ⊤} (Ok tt) (option_to_list o)
closed_none o p = ap option_to_list p

pub returns-in_err-progress-clause-kept : goal.returns-in_err-progress-clause-kept
returns-in_err-progress-clause-kept g c =
    let p = err_from_is_err_and c.from_residual.result c.from_residual.ensures.1 in
    rw (p.1, p.2) (keeps_went _ _ _ _ _ c.in_err-progress.ensures.lost c.in_err-progress.ensures.goes_on)

pub returns-in-Err-clause-kept : goal.returns-in-Err-clause-kept
returns-in-Err-clause-kept g c = keeps_memory _ _ c.in_ok-progress.progress.happenings _ _ (option_to_list c.in_ok-progress.progress.closed) c.in_ok-progress.ensures.went c.in-Err.ensures.items

pub returns-in-Some-clause-kept : goal.returns-in-Some-clause-kept
returns-in-Some-clause-kept g c =
    let kept = c.in_default.ensures.items ∙ ap (λ z. c.args.kept.now.items ++ z) c.in_ok-told.ensures.items in
    keeps_all _ _ c.in_ok-progress.progress.happenings _ _ (option_to_list c.in_ok-progress.progress.closed) _ c.in_ok-progress.ensures.went (closed_some _ _ c.in-Some.is) kept

pub returns-clause-kept : goal.returns-clause-kept
returns-clause-kept g c =
    let kept = c.in_default.ensures.items ∙ ap (λ z. c.args.kept.now.items ++ z) c.in_ok-told.ensures.items in
    keeps_all _ _ c.in_ok-progress.progress.happenings _ _ (option_to_list c.in_ok-progress.progress.closed) _ c.in_ok-progress.ensures.went (closed_none _ c.in-None.is) kept
