use Rattle.std.proofs.Common.{◌≡◌, ◌∙◌, None, sym, ap}
use Rattle.mq_topic.specs.Rows.{without_client}
use Rattle.mq_route.specs.Hub.{HubState, up_on, without_session}
use Rattle.mq_tables.specs.Tables.{HubTables}
use Rattle.mq_hub.specs.Inside.View.{hub_of}
use Rattle.mq_hub.proofs.ConnectionChange.{up_seen}
use Rattle.mq_hub.proofs.RemovedSession.{goes_removed, hub_removed, kept_removed}
use Rattle.mq_hub.proofs.hub.HubOver.remove.Goals as goal

pub invariant_of-self : goal.invariant_of-self
invariant_of-self g c =
    let h = c.self.inside in
    let t : HubTables = h.tables in
    let u : HubTables = c.remove.new.self in
    let key = c.args.key in
    let rest = c.remove.ensures.rest in
    let none : up_on key t.connections.connections ≡ None =
    sym (up_seen key t.sessions.list t.connections.connections) ∙ ap (λ (s : HubState). up_on key s.connections) c.self.view_is ∙ c.requires.away in
    kept_removed key h.config h.next_key t u c.self.invariant none c.remove.ensures.rows (ap (λ (v : HubTables). v.retained.messages) rest) c.remove.ensures.list
    (ap (λ (v : HubTables). v.connections.connections) rest) (ap (λ (v : HubTables). v.connections.limits) rest)

pub returns-clause-goes : goal.returns-clause-goes
returns-clause-goes g c =
    let h = c.self.inside in
    let t : HubTables = h.tables in
    let u : HubTables = c.remove.new.self in
    let key = c.args.key in
    let rest = c.remove.ensures.rest in
    let none : up_on key t.connections.connections ≡ None =
    sym (up_seen key t.sessions.list t.connections.connections) ∙ ap (λ (s : HubState). up_on key s.connections) c.self.view_is ∙ c.requires.away in
    goes_removed key c.args.self.now (hub_of h.config h.clock h.next_key u) c.args.log.now.acts c.push.new.self.acts
    (hub_removed key h.config h.next_key t u c.self.invariant none c.remove.ensures.rows (ap (λ (v : HubTables). v.retained.messages) rest) c.remove.ensures.list
    (ap (λ (v : HubTables). v.connections.connections) rest) h.clock
    ∙ ap (λ (s : HubState). record s { rows = without_client key s.rows; sessions = without_session key s.sessions }) c.self.view_is)
    c.push.ensures.acts
