use Rattle.std.proofs.Common.{refl, rules}
use Rattle.std.proofs.lemmas.Result.{err_from_is_err_and}
use Rattle.mq_client.proofs.Courses.{on_ok}
use Rattle.mq_pubsub_runs.proofs.Postings.{left_ends, progress_on, progress_quiet, progress_then, until_connection, until_then}
use Rattle.mq_pubsub_runs.proofs.publisher.publish_over.Goals as goal

pub loop-init : goal.loop-init
loop-init g c = (progress_quiet _ _ _ _ _ c.open.ensures.posted, λ remembers. remembers)

pub loop-preserved : goal.loop-preserved
loop-preserved g c = (
  rw c.report.ensures.gives (progress_on _ _ _ _ _ _ _ _ _ (progress_then _ _ _ _ _ _ _ _ _ _ _ _ c.loop.invariant.0 c.in_ok-filled.ensures.ok) c.listen.ensures.posted),
  λ remembers ended. c.report.ensures.ends (c.send.ensures.remembers (c.loop.invariant.1 remembers) ended),
)

pub returns-in_err-open-clause-ends : goal.returns-in_err-open-clause-ends
returns-in_err-open-clause-ends g c =
    let p = err_from_is_err_and c.from_residual.result c.from_residual.ensures.1 in
    rw (p.1, p.2) (until_connection _ _ _ _ _ _ _ _ _ c.in_err-open.ensures.stop (progress_quiet _ _ _ _ _ c.open.ensures.posted))

pub returns-in_err-filled-clause-ends : goal.returns-in_err-filled-clause-ends
returns-in_err-filled-clause-ends g c =
    let p = err_from_is_err_and c.from_residual-in_err-filled.result c.from_residual-in_err-filled.ensures.1 in
    rw (p.1, p.2) (until_then _ _ _ _ _ _ _ _ _ _ _ _ _ c.loop.invariant.0 c.in_err-filled.ensures.err)

pub returns-then-is_acknowledged-clause-ends : goal.returns-then-is_acknowledged-clause-ends
returns-then-is_acknowledged-clause-ends g c =
    left_ends _ _ _ _ _ _ _ _ _ _ (progress_then _ _ _ _ _ _ _ _ _ _ _ _ c.loop.invariant.0 c.in_ok-filled.ensures.ok) ((c.in_ok-filled.ensures.none (search rules)).0) (c.if-is_acknowledged.ensures.idle refl) c.finish.ensures.ok c.finish.ensures.whole c.finish.ensures.posted c.finish.ensures.stop

pub returns-then-is_acknowledged-clause-last : goal.returns-then-is_acknowledged-clause-last
returns-then-is_acknowledged-clause-last g c = on_ok _ _ ((c.in_ok-filled.ensures.none (search rules)).1)

pub returns-then-is_over-clause-ends : goal.returns-then-is_over-clause-ends
returns-then-is_over-clause-ends g c = progress_then _ _ _ _ _ _ _ _ _ _ _ _ c.loop.invariant.0 c.in_ok-filled.ensures.ok

pub returns-in_err-listen-clause-ends : goal.returns-in_err-listen-clause-ends
returns-in_err-listen-clause-ends g c =
    let p = err_from_is_err_and c.from_residual-in_err-listen.result c.from_residual-in_err-listen.ensures.1 in
    rw (p.1, p.2) (until_connection _ _ _ _ _ _ _ _ _ c.in_err-listen.ensures.stop (progress_on _ _ _ _ _ _ _ _ _ (progress_then _ _ _ _ _ _ _ _ _ _ _ _ c.loop.invariant.0 c.in_ok-filled.ensures.ok) c.listen.ensures.posted))

pub returns-clause-ends : goal.returns-clause-ends
returns-clause-ends g c = c.loop.invariant.0
