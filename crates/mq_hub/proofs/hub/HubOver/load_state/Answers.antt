use Rattle.std.proofs.Common.{◌∙◌, refl, sym, ap, subst}
use Rattle.mq_route.specs.Hub.{HubState, knows, with_connection}
use Rattle.mq_tables.specs.Connections.{holds, connected_for}
use Rattle.mq_tables.proofs.ClosedConnection.{closed}
use Rattle.mq_tables.proofs.FirstPackets.{ok_by}
use Rattle.mq_hub.specs.Inside.Loading.{HaveNoOutput}
use Rattle.mq_hub.proofs.LoadedConnections.{known_changed, silent_changed}
use Rattle.mq_hub.proofs.hub.HubOver.load_state.Goals as goal

pub load_held-requires-in-ConnectedAs : goal.load_held-requires-in-ConnectedAs
load_held-requires-in-ConnectedAs g c =
    let k = c.args.conn in
    let w = c.in-ConnectedAs in
    ap (λ (v : HubState). knows k v.connections) c.in_ok-load_connected-in-ConnectedAs.ensures
    ∙ known_changed (connected_for w.key w.terms w.last_activity) k (λ x. refl) c.args.self.now.connections ∙ c.requires.known

pub returns-in-AwaitingConnect-clause-quiet : goal.returns-in-AwaitingConnect-clause-quiet
returns-in-AwaitingConnect-clause-quiet g c =
    let k = c.args.conn in
    ok_by c.load_held.result
    (λ is all. subst HaveNoOutput (sym (ap (λ (v : HubState). v.connections) is)) (silent_changed (holds c.args.held.now) k (λ x. refl) c.args.self.now.connections all))
    c.load_held.ensures

pub returns-in_ok-load_connected-in-ConnectedAs-clause-quiet : goal.returns-in_ok-load_connected-in-ConnectedAs-clause-quiet
returns-in_ok-load_connected-in-ConnectedAs-clause-quiet g c =
    let k = c.args.conn in
    let b = c.args.held.now in
    let w = c.in-ConnectedAs in
    let f = connected_for w.key w.terms w.last_activity in
    let xs = c.args.self.now.connections in
    let mid = ap (λ (v : HubState). v.connections) c.in_ok-load_connected-in-ConnectedAs.ensures in
    ok_by c.load_held-in-ConnectedAs.result
    (λ is all. subst HaveNoOutput (sym (ap (λ (v : HubState). v.connections) is ∙ ap (with_connection (holds b) k) mid))
    (silent_changed (holds b) k (λ x. refl) (with_connection f k xs) (silent_changed f k (λ x. refl) xs all)))
    c.load_held-in-ConnectedAs.ensures

pub returns-in-Closed-clause-quiet : goal.returns-in-Closed-clause-quiet
returns-in-Closed-clause-quiet g c = λ all.
    subst HaveNoOutput (sym (ap (λ (v : HubState). v.connections) c.load_closed.ensures)) (silent_changed closed c.args.conn (λ x. refl) c.args.self.now.connections all)
