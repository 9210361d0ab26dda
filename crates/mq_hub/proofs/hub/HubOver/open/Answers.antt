use Rattle.std.proofs.Common.{◌≡◌, ◌∙◌, false, refl, sym, ap}
use Rattle.mq_route.specs.Hub.{HubState, HubConnection, knows}
use Rattle.mq_tables.specs.Tables.{HubTables}
use Rattle.mq_tables.proofs.FirstPackets.{err_by, ok_by}
use Rattle.mq_hub.specs.Inside.Loading.{opened_at, with_opened}
use Rattle.mq_hub.proofs.GrantedRows.{either}
use Rattle.mq_hub.proofs.InvariantChanges.{kept_by, kept_opened}
use Rattle.mq_hub.proofs.LoadedConnections.{hub_opened}
use Rattle.mq_hub.proofs.TableView.{hub_same, knows_seen}
use Rattle.mq_hub.proofs.hub.HubOver.open.Goals as goal

pub open-requires : goal.open-requires
open-requires g c =
    sym (knows_seen c.args.conn c.self.inside.tables.sessions.list c.self.inside.tables.connections.connections)
    ∙ ap (λ (h : HubState). knows c.args.conn h.connections) c.self.view_is ∙ c.requires

pub invariant_of-self : goal.invariant_of-self
invariant_of-self g c =
    let h = c.self.inside in
    let u : HubTables = c.open.new.self in
    let x : HubConnection = opened_at c.args.conn c.args.since in
    let none : knows c.args.conn h.tables.connections.connections ≡ false =
    sym (knows_seen c.args.conn h.tables.sessions.list h.tables.connections.connections) ∙ ap (λ (s : HubState). knows c.args.conn s.connections) c.self.view_is ∙ c.requires in
    let rest = c.open.ensures.rest in
    let rows = ap (λ (t : HubTables). t.rows) rest in
    let kept = ap (λ (t : HubTables). t.retained.messages) rest in
    let list = ap (λ (t : HubTables). t.sessions.list) rest in
    either c.open.result c.open.ensures.ok c.open.ensures.err
    (λ ok. kept_opened x refl refl h.config h.next_key h.tables u c.self.invariant none rows kept list ok c.open.ensures.limits)
    (λ err. kept_by h.config h.next_key h.tables u c.self.invariant rows kept list err c.open.ensures.limits)

pub returns-clause-ok : goal.returns-clause-ok
returns-clause-ok g c =
    let h = c.self.inside in
    let u : HubTables = c.open.new.self in
    let x : HubConnection = opened_at c.args.conn c.args.since in
    let rest = c.open.ensures.rest in
    ok_by c.open.result
    (λ ok. hub_opened x refl h.config h.clock h.next_key h.tables u (ap (λ (t : HubTables). t.rows) rest) (ap (λ (t : HubTables). t.retained.messages) rest)
    (ap (λ (t : HubTables). t.sessions.list) rest) ok
    ∙ ap (with_opened x) c.self.view_is)
    c.open.ensures.ok

pub returns-clause-err : goal.returns-clause-err
returns-clause-err g c =
    let h = c.self.inside in
    let u : HubTables = c.open.new.self in
    let rest = c.open.ensures.rest in
    err_by c.open.result
    (λ err. hub_same h.config h.clock h.next_key h.tables u (ap (λ (t : HubTables). t.rows) rest) (ap (λ (t : HubTables). t.retained.messages) rest)
    (ap (λ (t : HubTables). t.sessions.list) rest) err
    ∙ c.self.view_is)
    c.open.ensures.err
