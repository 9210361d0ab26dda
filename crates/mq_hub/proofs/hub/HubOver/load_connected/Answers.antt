use Rattle.std.proofs.Common.{◌≡◌, ◌∙◌, false, None, List, refl, sym, ap, subst}
use Rattle.std.specs.Option.{IfSome}
use Rattle.mq_end.specs.End.{is_live}
use Rattle.mq_route.specs.declared.connection_state.ConnectionState.TheVariants.{AwaitingConnect}
use Rattle.mq_route.specs.Hub.{HubConnection, HubState, stage_of, up_on, with_connection}
use Rattle.mq_tables.specs.declared.sessions.session.BrokerSession.{BrokerSession}
use Rattle.mq_tables.specs.Connections.{connected_for}
use Rattle.mq_tables.specs.Sessions.{session_at, sessions_of}
use Rattle.mq_tables.specs.Tables.{HubTables}
use Rattle.mq_hub.proofs.ConnectionChange.{stage_seen}
use Rattle.mq_hub.proofs.InvariantChanges.{kept_by}
use Rattle.mq_hub.proofs.LoadedConnections.{hub_continued, is_down, kept_continued}
use Rattle.mq_hub.proofs.TableView.{hub_same}
use Rattle.mq_hub.proofs.hub.HubOver.load_connected.Goals as goal

pub invariant_of-self : goal.invariant_of-self
invariant_of-self g c =
    let h = c.self.inside in
    let rest = c.reserve_for_connect.ensures.rest in
    kept_by h.config h.next_key h.tables c.reserve_for_connect.new.self c.self.invariant (ap (λ (v : HubTables). v.rows) rest) (ap (λ (v : HubTables). v.retained.messages) rest)
    (ap (λ (v : HubTables). v.sessions.list) rest) c.reserve_for_connect.ensures.connections c.reserve_for_connect.ensures.limits

pub continue_connection-requires-clause-stage : goal.continue_connection-requires-clause-stage
continue_connection-requires-clause-stage g c =
    let t : HubTables = c.self.inside.tables in
    let k = c.args.conn in
    ap (λ (xs : List HubConnection). stage_of k xs) c.reserve_for_connect.ensures.connections
    ∙ sym (stage_seen k t.sessions.list t.connections.connections) ∙ ap (λ (s : HubState). stage_of k s.connections) c.self.view_is ∙ c.requires

pub continue_connection-requires-clause-down : goal.continue_connection-requires-clause-down
continue_connection-requires-clause-down g c =
    let h = c.self.inside in
    let key = c.args.key in
    subst (λ (ts : List BrokerSession). IfSome (session_at key ts) (λ t. is_live t.end.end.state ≡ false)) (sym (ap (λ (v : HubTables). v.sessions.list) c.reserve_for_connect.ensures.rest))
    (is_down h.config h.next_key key h.tables c.self.invariant (c.if-not-is_away.ensures.away refl))

pub invariant_of-self-2 : goal.invariant_of-self-2
invariant_of-self-2 g c =
    let h = c.self.inside in
    let t : HubTables = h.tables in
    let r : HubTables = c.reserve_for_connect.new.self in
    let u : HubTables = c.continue_connection.new.self in
    let k = c.args.conn in
    let key = c.args.key in
    let rest = c.reserve_for_connect.ensures.rest in
    let after = c.continue_connection.ensures.rest in
    let kept =
    kept_by h.config h.next_key t r c.self.invariant (ap (λ (v : HubTables). v.rows) rest) (ap (λ (v : HubTables). v.retained.messages) rest)
    (ap (λ (v : HubTables). v.sessions.list) rest) c.reserve_for_connect.ensures.connections c.reserve_for_connect.ensures.limits in
    let none : up_on key r.connections.connections ≡ None = ap (λ (xs : List HubConnection). up_on key xs) c.reserve_for_connect.ensures.connections ∙ c.if-not-is_away.ensures.away refl in
    let at : stage_of k r.connections.connections ≡ AwaitingConnect =
    ap (λ (xs : List HubConnection). stage_of k xs) c.reserve_for_connect.ensures.connections
    ∙ sym (stage_seen k t.sessions.list t.connections.connections) ∙ ap (λ (s : HubState). stage_of k s.connections) c.self.view_is ∙ c.requires in
    kept_continued k key c.args.terms c.args.last_activity h.config h.next_key r u kept none at c.continue_connection.ensures.list (ap (λ (v : HubTables). v.rows) after)
    (ap (λ (v : HubTables). v.retained.messages) after) c.continue_connection.ensures.connections (c.if-not-is_will_within.ensures refl) c.continue_connection.ensures.limits

pub returns : goal.returns
returns g c =
    let h = c.self.inside in
    let t : HubTables = h.tables in
    let r : HubTables = c.reserve_for_connect.new.self in
    let u : HubTables = c.continue_connection.new.self in
    let k = c.args.conn in
    let key = c.args.key in
    let rest = c.reserve_for_connect.ensures.rest in
    let after = c.continue_connection.ensures.rest in
    let rows = ap (λ (v : HubTables). v.rows) rest in
    let retained = ap (λ (v : HubTables). v.retained.messages) rest in
    let list = ap (λ (v : HubTables). v.sessions.list) rest in
    let kept = kept_by h.config h.next_key t r c.self.invariant rows retained list c.reserve_for_connect.ensures.connections c.reserve_for_connect.ensures.limits in
    let none : up_on key r.connections.connections ≡ None = ap (λ (xs : List HubConnection). up_on key xs) c.reserve_for_connect.ensures.connections ∙ c.if-not-is_away.ensures.away refl in
    let at : stage_of k r.connections.connections ≡ AwaitingConnect =
    ap (λ (xs : List HubConnection). stage_of k xs) c.reserve_for_connect.ensures.connections
    ∙ sym (stage_seen k t.sessions.list t.connections.connections) ∙ ap (λ (s : HubState). stage_of k s.connections) c.self.view_is ∙ c.requires in
    hub_continued k key c.args.terms c.args.last_activity h.config h.next_key r u kept none at c.continue_connection.ensures.list (ap (λ (v : HubTables). v.rows) after)
    (ap (λ (v : HubTables). v.retained.messages) after) c.continue_connection.ensures.connections h.clock
    ∙ ap (λ (s : HubState). record s { sessions = sessions_of u.sessions.list; connections = with_connection (connected_for key c.args.terms c.args.last_activity) k s.connections })
    (hub_same h.config h.clock h.next_key t r rows retained list c.reserve_for_connect.ensures.connections ∙ c.self.view_is)
