use Rattle.std.proofs.Common.{ap, sym, ◌∙◌}
use Rattle.mq_pubsub_runs.proofs.publisher.publish_once.Goals as goal

pub returns-clause-ends : goal.returns-clause-ends
returns-clause-ends g c = (
  c.set_quiet_limit.new.self,
  c.publish_over-end.new.peer,
  record { client_is = ap (λ m. m.client) c.set_quiet_limit.ensures ∙ c.new-peer.ensures.client; kept_is = ap (λ m. m.kept) c.set_quiet_limit.ensures ∙ c.new-peer.ensures.kept },
  record { client_is = sym c.into_parts-client.ensures.client; kept_is = sym c.into_parts-client.ensures.kept },
  c.publish_over-end.ensures.ends,
)
