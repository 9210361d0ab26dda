use Rattle.std.proofs.Common.{◌≡◌, ℕ, List, ◌++◌, length, take, subst}
use Rattle.std.proofs.lemmas.Result.{on_err_weaker}
use Rattle.mq_flow.specs.Saved.{signature}
use Rattle.mq_flow.proofs.Fronts.{front_kept}
use Rattle.mq_flow.proofs.save.put_session.Goals as goal

pub returns-clause-err : goal.returns-clause-err
returns-clause-err c =
    let old = c.args.out.now.items in
    let new = c.put_state.new.out.items in
    on_err_weaker c.put_state.result (λ kept. front_kept old signature new (subst (λ (b : List ℕ). take (length b) new ≡ b) c.in_ok-extend_from_slice.ensures.items kept)) c.put_state.ensures.err
