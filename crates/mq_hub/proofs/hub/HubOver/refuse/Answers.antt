use Rattle.std.proofs.Common.{◌≡◌, ◌∙◌, sym, ap}
use Rattle.mq_route.specs.declared.connection_state.ConnectionState.TheVariants.{AwaitingConnect}
use Rattle.mq_route.specs.Hub.{HubState, key_on, stage_of, with_connection}
use Rattle.mq_tables.specs.Tables.{HubTables}
use Rattle.mq_tables.proofs.ClosedConnection.{closed}
use Rattle.mq_hub.specs.Inside.View.{hub_of}
use Rattle.mq_hub.proofs.ConnectionChange.{stage_seen}
use Rattle.mq_hub.proofs.RefusedConnect.{fresh_known, goes_refused, grown, hub_closed_with, kept_closed_with}
use Rattle.mq_hub.proofs.hub.HubOver.refuse.Goals as goal

pub shut_with-requires : goal.shut_with-requires
shut_with-requires g c =
    let t : HubTables = c.self.inside.tables in
    let k = c.args.conn in
    fresh_known k t.connections.connections
    (sym (stage_seen k t.sessions.list t.connections.connections) ∙ ap (λ (s : HubState). stage_of k s.connections) c.self.view_is ∙ c.requires.fresh)

pub invariant_of-self : goal.invariant_of-self
invariant_of-self g c =
    let h = c.self.inside in
    let t : HubTables = h.tables in
    let u : HubTables = c.shut_with.new.self in
    let k = c.args.conn in
    let rest = c.shut_with.ensures.rest in
    let fresh : stage_of k t.connections.connections ≡ AwaitingConnect =
    sym (stage_seen k t.sessions.list t.connections.connections) ∙ ap (λ (s : HubState). stage_of k s.connections) c.self.view_is ∙ c.requires.fresh in
    kept_closed_with k c.in_ok-waiting.waiting h.config h.next_key t u c.self.invariant (ap (λ (v : HubTables). v.rows) rest) (ap (λ (v : HubTables). v.retained.messages) rest)
    (ap (λ (v : HubTables). v.sessions.list) rest) c.shut_with.ensures.connections (ap key_on fresh) c.shut_with.ensures.limits

pub returns-clause-goes : goal.returns-clause-goes
returns-clause-goes g c =
    let h = c.self.inside in
    let t : HubTables = h.tables in
    let u : HubTables = c.shut_with.new.self in
    let k = c.args.conn in
    let b = c.in_ok-waiting.waiting in
    let rest = c.shut_with.ensures.rest in
    let fresh : stage_of k t.connections.connections ≡ AwaitingConnect =
    sym (stage_seen k t.sessions.list t.connections.connections) ∙ ap (λ (s : HubState). stage_of k s.connections) c.self.view_is ∙ c.requires.fresh in
    λ fits. goes_refused k c.args.code fits c.args.self.now (hub_of h.config h.clock h.next_key u) c.args.log.now.acts c.push.new.self.acts b c.in_ok-waiting.ensures c.requires.fresh
    (hub_closed_with k b h.config h.next_key t u c.self.invariant (ap (λ (v : HubTables). v.rows) rest) (ap (λ (v : HubTables). v.retained.messages) rest)
    (ap (λ (v : HubTables). v.sessions.list) rest) c.shut_with.ensures.connections h.clock fresh
    ∙ ap (λ (s : HubState). record s { connections = with_connection closed k (with_connection (grown b) k s.connections) }) c.self.view_is)
    c.push.ensures.acts
