use Rattle.std.proofs.Common.{◌∙◌, List, [], eqb, refl, sym, ap, subst}
use Rattle.std.specs.HashMap.{get, hash_map_len}
use Rattle.mq_route.specs.declared.connection_state.ConnectionState.TheVariants.{Closed}
use Rattle.mq_route.specs.Hub.{HubConnection, key_on}
use Rattle.mq_tables.specs.Connections.{service, connections_of, AreConnections}
use Rattle.mq_tables.proofs.RingTimes.{never_late}
use Rattle.mq_tables.proofs.PendingBytes.{empty_decoding}
use Rattle.mq_tables.proofs.ConnectionTable.{Entry, served_at, kept_same, kept_shut, is_found}
use Rattle.mq_tables.proofs.FoundConnection.{changed_seen, shut_seen, stage_seen, still_seen}
use Rattle.mq_tables.proofs.connections.table.Connections.shut.Goals as goal

pub returns-in_default-clause-connections : goal.returns-in_default-clause-connections
returns-in_default-clause-connections c =
    let f : HubConnection → HubConnection = λ x. record x { stage = Closed; held = [] } in
    ap (λ m. connections_of m.entries) c.get_mut.follows.holds-at-none
    ∙ still_seen c.self.invariant c.self.view_is c.args.conn f c.in_default.ensures.value

pub remove_connected-requires : goal.remove_connected-requires
remove_connected-requires c =
    let ups = c.self.inside.ups in
    is_found (service c.self.inside.limits c.self.inside.alarms) c.args.conn c.in-Some-up.key c.self.inside.by_conn.entries c.in-Some.boxed.now (get eqb ups) (hash_map_len ups) c.self.invariant
    (sym c.in-Some.ensures.value) (sym c.key-up.ensures ∙ c.in-Some-up.is)

pub invariant_of-self-in-Some-up : goal.invariant_of-self-in-Some-up
invariant_of-self-in-Some-up c =
    let by = service c.self.inside.limits c.self.inside.alarms in
    let k = c.args.conn in
    let es = c.self.inside.by_conn.entries in
    let ups = c.self.inside.ups in
    let new = c.remove_connected.new.ups in
    let own = c.in-Some.boxed.now in
    let w = c.shut-stage.new.self in
    let there = sym c.in-Some.ensures.value in
    let read = served_at by k es own c.self.invariant.served there in
    subst (λ (rs : List Entry). AreConnections by rs (get eqb new) (hash_map_len new)) (sym (c.get_mut.follows.holds w).0)
    (kept_shut by k c.in-Some-up.key es own w (get eqb ups) (get eqb new) (hash_map_len ups) (hash_map_len new) c.self.invariant there
    (ap (λ (x : HubConnection). x.conn) c.shut-stage.ensures.line) (empty_decoding by.bounds w.decoder (c.shut-stage.ensures.limit ∙ read.0.0) c.shut-stage.ensures.failed (ap (λ (x : HubConnection). x.held) c.shut-stage.ensures.line), never_late by.within by.alarms w.conn w.since w.stage Closed (ap (λ (x : HubConnection). x.stage) c.shut-stage.ensures.line) (λ now. refl))
    (sym c.key-up.ensures ∙ c.in-Some-up.is) (ap (λ (x : HubConnection). key_on x.stage) c.shut-stage.ensures.line) c.remove_connected.ensures.found c.remove_connected.ensures.len)

pub invariant_of-self-in_default-up : goal.invariant_of-self-in_default-up
invariant_of-self-in_default-up c =
    let by = service c.self.inside.limits c.self.inside.alarms in
    let k = c.args.conn in
    let es = c.self.inside.by_conn.entries in
    let ups = c.self.inside.ups in
    let own = c.in-Some.boxed.now in
    let w = c.shut-stage.new.self in
    let there = sym c.in-Some.ensures.value in
    let read = served_at by k es own c.self.invariant.served there in
    subst (λ (rs : List Entry). AreConnections by rs (get eqb ups) (hash_map_len ups)) (sym (c.get_mut.follows.holds w).0)
    (kept_same by k es own w (get eqb ups) (hash_map_len ups) c.self.invariant there (ap (λ (x : HubConnection). x.conn) c.shut-stage.ensures.line)
    (empty_decoding by.bounds w.decoder (c.shut-stage.ensures.limit ∙ read.0.0) c.shut-stage.ensures.failed (ap (λ (x : HubConnection). x.held) c.shut-stage.ensures.line), never_late by.within by.alarms w.conn w.since w.stage Closed (ap (λ (x : HubConnection). x.stage) c.shut-stage.ensures.line) (λ now. refl))
    (ap (λ (x : HubConnection). key_on x.stage) c.shut-stage.ensures.line ∙ sym c.in_default-up.is ∙ c.key-up.ensures))

pub returns-in-Some-up-clause-connections : goal.returns-in-Some-up-clause-connections
returns-in-Some-up-clause-connections c =
    let f : HubConnection → HubConnection = λ x. record x { stage = Closed; held = [] } in
    let w = c.shut-stage.new.self in
    ap connections_of (c.get_mut.follows.holds w).0
    ∙ changed_seen c.self.invariant c.self.view_is c.args.conn f w c.in-Some.ensures.value c.shut-stage.ensures.line

pub returns-in_default-up-clause-connections : goal.returns-in_default-up-clause-connections
returns-in_default-up-clause-connections c =
    let f : HubConnection → HubConnection = λ x. record x { stage = Closed; held = [] } in
    let w = c.shut-stage.new.self in
    ap connections_of (c.get_mut.follows.holds w).0
    ∙ changed_seen c.self.invariant c.self.view_is c.args.conn f w c.in-Some.ensures.value c.shut-stage.ensures.line

pub returns-in_default-clause-stage : goal.returns-in_default-clause-stage
returns-in_default-clause-stage c =
    shut_seen c.self.invariant c.self.view_is c.args.conn c.in_default.ensures.value

pub returns-in-Some-up-clause-stage : goal.returns-in-Some-up-clause-stage
returns-in-Some-up-clause-stage c =
    c.shut-stage.ensures.stage
    ∙ stage_seen c.self.invariant c.self.view_is c.args.conn c.in-Some.ensures.value

pub returns-in_default-up-clause-stage : goal.returns-in_default-up-clause-stage
returns-in_default-up-clause-stage c =
    c.shut-stage.ensures.stage
    ∙ stage_seen c.self.invariant c.self.view_is c.args.conn c.in-Some.ensures.value
