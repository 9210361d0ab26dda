use Rattle.std.proofs.Common.{◌≡◌, ◌∙◌, ◌<◌, ℕ, true, [], refl, sym, ap, subst}
use Rattle.mq_end.specs.End.{resumed}
use Rattle.mq_route.specs.Hub.{HubState}
use Rattle.mq_tables.specs.declared.sessions.session.BrokerSession.{BrokerSession}
use Rattle.mq_tables.specs.Sessions.{AreBelow, sessions_of}
use Rattle.mq_tables.specs.Tables.{HubTables}
use Rattle.mq_hub.proofs.LoadedParts.{fitting_alone, hub_added, kept_added, no_connections}
use Rattle.mq_hub.proofs.hub.HubOver.add_session.Goals as goal

pub invariant_of-self-2 : goal.invariant_of-self-2
invariant_of-self-2 g c =
    let h = c.self.inside in
    let t : HubTables = h.tables in
    let u : HubTables = c.add_session.new.self in
    let s : BrokerSession = c.args.boxed in
    let rest = c.add_session.ensures.rest in
    let view = sym c.self.view_is in
    let none : t.connections.connections ≡ [] = no_connections t.sessions.list t.connections.connections (ap (λ (v : HubState). v.connections) c.self.view_is ∙ c.requires.connections) in
    let connections = ap (λ (v : HubTables). v.connections.connections) rest in
    let limits = ap (λ (v : HubTables). v.connections.limits) rest in
    let rows = ap (λ (v : HubTables). v.rows) rest in
    let retained = ap (λ (v : HubTables). v.retained.messages) rest in
    let below : AreBelow s.key t.sessions.list = subst (λ (n : ℕ). AreBelow n t.sessions.list) (ap (λ (r : BrokerSession). r.key) c.session.ensures) (c.if-not-takes_session.ensures.above refl) in
    let here =
    fitting_alone h.config h.next_key t u c.self.invariant connections limits s none rows retained (c.requires.capacity ∙ ap (λ (v : HubState). v.config.capacity) view)
    (c.requires.limit ∙ ap (λ (v : HubState). v.config.limits) view)
    (subst (λ (v : HubState). s.end.end ≡ resumed v.config.window true s.end.end.book s.end.end.received s.end.end.last) view c.requires.end) c.requires.output in
    kept_added h.config h.next_key t u c.self.invariant connections limits s none rows retained below (subst (λ (v : HubState). s.key < v.next_key) view c.requires.key) here c.in_ok-add_session.ensures.ok

pub returns : goal.returns
returns g c =
    let h = c.self.inside in
    let t : HubTables = h.tables in
    let u : HubTables = c.add_session.new.self in
    let rest = c.add_session.ensures.rest in
    let none : t.connections.connections ≡ [] = no_connections t.sessions.list t.connections.connections (ap (λ (v : HubState). v.connections) c.self.view_is ∙ c.requires.connections) in
    hub_added h.config h.next_key t u c.self.invariant (ap (λ (v : HubTables). v.connections.connections) rest) (ap (λ (v : HubTables). v.connections.limits) rest) c.args.boxed none
    (ap (λ (v : HubTables). v.rows) rest) (ap (λ (v : HubTables). v.retained.messages) rest) h.clock
    ∙ ap (λ (v : HubState). record v { sessions = sessions_of u.sessions.list }) c.self.view_is
