use Rattle.std.proofs.Common.{ℕ, Option, subst}
use Rattle.std.proofs.lemmas.Result.{err_from_is_err_and}
use Rattle.std.specs.Int.NonZero.{non_zero_u16_get}
use Rattle.mq_world.specs.World.{IsNew}
use Rattle.mq_replay.proofs.Leading.{first_made, none_made}
use Rattle.mq_replay.proofs.run.replay.Goals as goal

-- no step was made, and nothing was printed
pub returns-in_err-world-clause-memory : goal.returns-in_err-world-clause-memory
returns-in_err-world-clause-memory g c =
    let s = c.args.schedule.now in
    let w = g.W.Write.contents c.args.output.now in
    let start = c.begins.ensures.0 in
    let counted = subst (λ (n : ℕ). IsNew s.limits n c.places-window.result start) c.get-capacity.ensures.value c.begins.ensures.1 in
    let new = subst (λ (n : Option ℕ). IsNew s.limits (non_zero_u16_get s.capacity) n start) c.places-window.ensures.places counted in
    let p = err_from_is_err_and c.from_residual.result c.from_residual.ensures.1 in
    rw (p.1, p.2) (first_made s 0 start start w w new (none_made s.limits (non_zero_u16_get s.capacity) start w))
