use Rattle.std.proofs.Common.{◌≡◌, ◌==◌, ◌&&◌, not, drop}
use Rattle.std.specs.List.{list_any}
use Rattle.mq_flow.specs.Sender.{is_subscribe}
use Rattle.mq_flow.proofs.queue.has_unsubscribe.Given as goal

abbrev pub invariant-loop-claimed : goal.invariant-loop-claimed
invariant-loop-claimed l = list_any (λ c. not (is_subscribe c.kind) && c.id == l.id) (drop l.claimed-index l.claims) ≡ list_any (λ c. not (is_subscribe c.kind) && c.id == l.id) l.claims
