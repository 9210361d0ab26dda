use Rattle.std.proofs.Common.{◌≡◌}
use Rattle.mq_hub.specs.Inside.Loading.{HaveNoOutput}
use Rattle.mq_hub.proofs.hub.HubOver.load_connections.Given as goal

abbrev pub invariant-loop : goal.invariant-loop
invariant-loop g l = record {
  config : l.self.config ≡ l.fn.self.config;
  quiet : HaveNoOutput l.fn.self.connections → HaveNoOutput l.self.connections;
}
