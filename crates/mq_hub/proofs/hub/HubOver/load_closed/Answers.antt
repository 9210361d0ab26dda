use Rattle.std.proofs.Common.{◌≡◌, ◌∙◌, None, sym, ap}
use Rattle.mq_route.specs.Hub.{HubState, key_on, stage_of, with_connection}
use Rattle.mq_tables.specs.Tables.{HubTables}
use Rattle.mq_tables.proofs.ClosedConnection.{closed}
use Rattle.mq_hub.proofs.ConnectionChange.{stage_seen}
use Rattle.mq_hub.proofs.ClosedConnection.{hub_closed, kept_closed}
use Rattle.mq_hub.proofs.hub.HubOver.load_closed.Goals as goal

pub invariant_of-self : goal.invariant_of-self
invariant_of-self g c =
    let h = c.self.inside in
    let t : HubTables = h.tables in
    let k = c.args.conn in
    let rest = c.shut.ensures.rest in
    let idle : key_on (stage_of k t.connections.connections) ≡ None =
    ap key_on (sym (stage_seen k t.sessions.list t.connections.connections)) ∙ ap (λ (s : HubState). key_on (stage_of k s.connections)) c.self.view_is ∙ c.requires in
    kept_closed k h.config h.next_key t c.shut.new.self c.self.invariant idle (ap (λ (v : HubTables). v.rows) rest) (ap (λ (v : HubTables). v.retained.messages) rest)
    (ap (λ (v : HubTables). v.sessions.list) rest) c.shut.ensures.connections c.shut.ensures.limits

pub returns : goal.returns
returns g c =
    let h = c.self.inside in
    let t : HubTables = h.tables in
    let k = c.args.conn in
    let rest = c.shut.ensures.rest in
    let idle : key_on (stage_of k t.connections.connections) ≡ None =
    ap key_on (sym (stage_seen k t.sessions.list t.connections.connections)) ∙ ap (λ (s : HubState). key_on (stage_of k s.connections)) c.self.view_is ∙ c.requires in
    hub_closed k h.config h.next_key t c.shut.new.self c.self.invariant idle (ap (λ (v : HubTables). v.rows) rest) (ap (λ (v : HubTables). v.retained.messages) rest)
    (ap (λ (v : HubTables). v.sessions.list) rest) c.shut.ensures.connections h.clock
    ∙ ap (λ (s : HubState). record s { connections = with_connection closed k s.connections }) c.self.view_is
