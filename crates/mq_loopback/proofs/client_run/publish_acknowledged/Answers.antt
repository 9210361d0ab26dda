use Rattle.std.proofs.Common.{length, ap, refl, sym, ◌∙◌}
use Rattle.mq_client.proofs.Published.{first_heard, first_more, first_none, first_told}
use Rattle.mq_loopback.proofs.Runs.{all_asked}
use Rattle.mq_loopback.proofs.client_run.publish_acknowledged.Goals as goal

pub loop-init : goal.loop-init
loop-init g c = first_none _ _

pub loop-preserved : goal.loop-preserved
loop-preserved g c =
    let heard = first_heard _ _ _ _ _ _ _ c.loop.invariant c.in_ok-listen.ensures.2 c.in_ok-listen.ensures.3 in
    first_told _ _ _ _ _ _ _ (first_more _ _ _ _ _ _ heard c.publish_more.ensures) c.write.ensures.went

pub returns-then-is_idle : goal.returns-then-is_idle
returns-then-is_idle g c =
    let heard = first_heard _ _ _ _ _ _ _ c.loop.invariant c.in_ok-listen.ensures.2 c.in_ok-listen.ensures.3 in
    let more = first_told _ _ _ _ _ _ _ (first_more _ _ _ _ _ _ heard c.publish_more.ensures) c.write.ensures.went in
    all_asked _ _ c.args.publisher.now _ (c.if-next-count.true ∙ ap length c.as_slice-count.ensures) more (sym c.if-is_up.ensures) (c.if-is_idle.ensures.0 refl)
