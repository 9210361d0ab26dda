use Rattle.std.proofs.Common.{suc, string_bytes, subst, arith}
use Rattle.mq_client.specs.Links.{Here, IsNamedBy, More}
use Rattle.mq_client.proofs.session_lock.linked_name.Goals as goal

pub loop-nth-init : goal.loop-nth-init
loop-nth-init g c = (0, omega arith, rw c.in_ok-name.ensures.ok (Here c.args.name.now))

pub loop-nth-preserved : goal.loop-nth-preserved
loop-nth-preserved g c =
    let before = c.loop-nth.invariant in
    let named = subst (λ l. IsNamedBy l c.as_str-in-Ok-2.result.now (string_bytes c.in_ok-name-in-Ok.name)) c.as_str-in-Ok.ensures.value c.in_ok-name-in-Ok.ensures in
    (suc before.0, omega (arith, before.1), More _ _ _ _ _ before.2 named)
