use Rattle.std.proofs.Common.{◌≡◌, ◌∙◌, None, sym, ap}
use Rattle.mq_route.specs.Hub.{HubState, key_on, stage_of, without_connection}
use Rattle.mq_tables.specs.Tables.{HubTables}
use Rattle.mq_hub.proofs.ConnectionChange.{stage_seen}
use Rattle.mq_hub.proofs.RemovedConnection.{hub_forgotten, kept_forgotten}
use Rattle.mq_hub.proofs.hub.HubOver.forget.Goals as goal

pub forget-requires : goal.forget-requires
forget-requires g c =
    let t = c.self.inside.tables in
    ap key_on (sym (stage_seen c.args.conn t.sessions.list t.connections.connections)) ∙ ap (λ (s : HubState). key_on (stage_of c.args.conn s.connections)) c.self.view_is
    ∙ c.requires

pub invariant_of-self : goal.invariant_of-self
invariant_of-self g c =
    let h = c.self.inside in
    let t : HubTables = h.tables in
    let u : HubTables = c.forget.new.self in
    let idle : key_on (stage_of c.args.conn t.connections.connections) ≡ None =
    ap key_on (sym (stage_seen c.args.conn t.sessions.list t.connections.connections)) ∙ ap (λ (s : HubState). key_on (stage_of c.args.conn s.connections)) c.self.view_is
    ∙ c.requires in
    let rest = c.forget.ensures.rest in
    kept_forgotten c.args.conn h.config h.next_key t u c.self.invariant idle (ap (λ (v : HubTables). v.rows) rest)
    (ap (λ (v : HubTables). v.retained.messages) rest)
    (ap (λ (v : HubTables). v.sessions.list) rest) c.forget.ensures.connections c.forget.ensures.limits

pub returns : goal.returns
returns g c =
    let h = c.self.inside in
    let t : HubTables = h.tables in
    let u : HubTables = c.forget.new.self in
    let idle : key_on (stage_of c.args.conn t.connections.connections) ≡ None =
    ap key_on (sym (stage_seen c.args.conn t.sessions.list t.connections.connections)) ∙ ap (λ (s : HubState). key_on (stage_of c.args.conn s.connections)) c.self.view_is
    ∙ c.requires in
    let rest = c.forget.ensures.rest in
    hub_forgotten c.args.conn h.config h.next_key t u c.self.invariant idle (ap (λ (v : HubTables). v.rows) rest)
    (ap (λ (v : HubTables). v.retained.messages) rest)
    (ap (λ (v : HubTables). v.sessions.list) rest) c.forget.ensures.connections h.clock
    ∙ ap (λ (s : HubState). record s { connections = without_connection c.args.conn s.connections }) c.self.view_is
