use Rattle.std.proofs.Common.{◌≡◌, ◌==◌, ◌&&◌, drop}
use Rattle.std.specs.List.{list_any}
use Rattle.mq_flow.specs.Sender.{is_subscribe}
use Rattle.mq_flow.proofs.queue.has_subscribe.Given as goal

abbrev pub invariant-loop-claimed : goal.invariant-loop-claimed
invariant-loop-claimed l = list_any (λ c. is_subscribe c.kind && (c.id == l.id && c.count == l.count)) (drop l.claimed-index l.claims) ≡ list_any (λ c. is_subscribe c.kind && (c.id == l.id && c.count == l.count)) l.claims
