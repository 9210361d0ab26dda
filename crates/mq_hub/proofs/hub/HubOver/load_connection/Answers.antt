use Rattle.std.proofs.Common.{◌≡◌, ◌∙◌, false, sym, ap}
use Rattle.mq_route.specs.Hub.{HubState, knows, stage_of}
use Rattle.mq_tables.proofs.ConnectionTable.{itself}
use Rattle.mq_hub.specs.Inside.Loading.{opened_at}
use Rattle.mq_hub.proofs.LoadedConnections.{opened_stage}
use Rattle.mq_hub.proofs.hub.HubOver.load_connection.Goals as goal

pub load_state-requires-clause-stage : goal.load_state-requires-clause-stage
load_state-requires-clause-stage g c =
    let k = c.args.saved.conn in
    let none : knows k c.args.self.now.connections ≡ false = sym c.knows.ensures ∙ c.if-knows.false in
    ap (λ (v : HubState). stage_of k v.connections) c.in_ok-open.ensures.ok ∙ opened_stage k (opened_at k c.args.saved.since) c.args.self.now.connections none (itself k)
