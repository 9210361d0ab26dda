use Rattle.std.proofs.Common.{◌≡◌, ◌==◌, drop}
use Rattle.std.specs.List.{list_any}
use Rattle.mq_flow.proofs.queue.claim_at.Given as goal

abbrev pub invariant-loop-claimed : goal.invariant-loop-claimed
invariant-loop-claimed l = record {
  rest : list_any (λ c. c.id == l.id) (drop l.claimed-index l.claims) ≡ list_any (λ c. c.id == l.id) l.claims;
  place : l.at ≡ l.claimed-index;
}
