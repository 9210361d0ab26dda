use Rattle.std.proofs.Common.{◌≡◌, ◌∙◌, List, eqb, sym, ap, subst}
use Rattle.std.specs.HashMap.{get, hash_map_len}
use Rattle.mq_route.specs.declared.conn.Conn.{Conn}
use Rattle.mq_route.specs.Arrives.{touched}
use Rattle.mq_route.specs.Hub.{HubConnection, key_on}
use Rattle.mq_tables.specs.declared.connections.connection.Connection.{Connection}
use Rattle.mq_tables.specs.Connections.{service, ConnectionList, connections_of, connection_of, AreConnections}
use Rattle.mq_tables.specs.Alarms.{IsAwaited}
use Rattle.mq_tables.proofs.RingTimes.{alarm_awaited, found_name, heard_awaited, still_all_awaited}
use Rattle.mq_tables.proofs.PendingBytes.{same_decoding}
use Rattle.mq_tables.proofs.ConnectionTable.{Entry, awaited_of, kept_anew, are_named, served_at, kept_same, heard_key, never_none, own_at, set_at}
use Rattle.mq_tables.proofs.FoundConnection.{changed_seen, shut_seen, stage_seen, still_seen}
use Rattle.mq_tables.proofs.connections.table.Connections.touched.Goals as goal

pub returns-in_default-clause-connections : goal.returns-in_default-clause-connections
returns-in_default-clause-connections c =
    let f : HubConnection → HubConnection = λ x. record x { stage = touched c.args.now x.stage } in
    sym (ap (λ (v : ConnectionList). v.connections) c.self.view_is)
    ∙ still_seen c.self.invariant c.self.view_is c.args.conn f (sym c.in_default.ensures.none)

pub returns-in_default-clause-key : goal.returns-in_default-clause-key
returns-in_default-clause-key c =
    ap key_on (shut_seen c.self.invariant c.self.view_is c.args.conn (sym c.in_default.ensures.none))

-- an index that was found has a connection
pub returns-in_default-get_index_mut-clause-connections : goal.returns-in_default-get_index_mut-clause-connections
returns-in_default-get_index_mut-clause-connections c =
    never_none c.args.conn c.in-Some.index c.self.inside.by_conn.entries c.in-Some.ensures.some c.in_default-get_index_mut.ensures.value

pub returns-in_default-get_index_mut-clause-key : goal.returns-in_default-get_index_mut-clause-key
returns-in_default-get_index_mut-clause-key c =
    never_none c.args.conn c.in-Some.index c.self.inside.by_conn.entries c.in-Some.ensures.some c.in_default-get_index_mut.ensures.value

pub invariant_of-self-then-is_earlier : goal.invariant_of-self-then-is_earlier
invariant_of-self-then-is_earlier c =
    let by = service c.self.inside.limits c.self.inside.alarms in
    let k = c.args.conn in
    let es = c.self.inside.by_conn.entries in
    let ups = c.self.inside.ups in
    let own = c.in-Some-get_index_mut.boxed.now in
    let w = c.touched.new.self in
    let there = own_at k c.in-Some.index es own c.self.invariant.distinct c.in-Some.ensures.some c.in-Some-get_index_mut.ensures.value in
    let alarms = c.set.new.self in
    let next = service c.self.inside.limits alarms in
    let rings = still_all_awaited by.within by.alarms alarms es c.set.ensures.keeps (awaited_of by es c.self.invariant.served) in
    let kept = kept_anew by alarms es (get eqb ups) (hash_map_len ups) rings c.self.invariant in
    let read = served_at by k es own c.self.invariant.served there in
    let name : k ≡ w.conn = found_name k es own (are_named by es c.self.invariant.served) there ∙ sym (ap (λ (x : Connection). x.conn) c.touched.ensures) in
    subst (λ (rs : List Entry). AreConnections next rs (get eqb ups) (hash_map_len ups))
    (sym (set_at k c.in-Some.index es w c.self.invariant.distinct c.in-Some.ensures.some))
    (kept_same next k es own w (get eqb ups) (hash_map_len ups) kept there (ap (λ (x : Connection). x.conn) c.touched.ensures) (
      same_decoding by.bounds own.decoder w.decoder (ap (λ (x : Connection). x.decoder) c.touched.ensures) read.0,
      subst (λ (n : Conn). IsAwaited by.within alarms n w.since w.stage) name (alarm_awaited by.within alarms k c.last_in_time.result w.since w.stage c.set.ensures.rings c.last_in_time.ensures),
    )
    (ap (λ (x : Connection). key_on x.stage) c.touched.ensures ∙ heard_key c.args.now own.stage))

pub invariant_of-self-else-is_earlier : goal.invariant_of-self-else-is_earlier
invariant_of-self-else-is_earlier c =
    let by = service c.self.inside.limits c.self.inside.alarms in
    let k = c.args.conn in
    let es = c.self.inside.by_conn.entries in
    let ups = c.self.inside.ups in
    let own = c.in-Some-get_index_mut.boxed.now in
    let w = c.touched.new.self in
    let there = own_at k c.in-Some.index es own c.self.invariant.distinct c.in-Some.ensures.some c.in-Some-get_index_mut.ensures.value in
    let read = served_at by k es own c.self.invariant.served there in
    let conn = ap (λ (x : Connection). x.conn) c.touched.ensures in
    subst (λ (rs : List Entry). AreConnections by rs (get eqb ups) (hash_map_len ups))
    (sym (set_at k c.in-Some.index es w c.self.invariant.distinct c.in-Some.ensures.some))
    (kept_same by k es own w (get eqb ups) (hash_map_len ups) c.self.invariant there conn (
      same_decoding by.bounds own.decoder w.decoder (ap (λ (x : Connection). x.decoder) c.touched.ensures) read.0,
      heard_awaited by.within by.alarms own w c.args.now conn (ap (λ (x : Connection). x.since) c.touched.ensures) (ap (λ (x : Connection). x.stage) c.touched.ensures)
          (c.is_active_after-is_earlier.ensures c.if-is_earlier.false by.within) read.1,
    )
    (ap (λ (x : Connection). key_on x.stage) c.touched.ensures ∙ heard_key c.args.now own.stage))

pub returns-then-is_earlier-clause-connections : goal.returns-then-is_earlier-clause-connections
returns-then-is_earlier-clause-connections c =
    let k = c.args.conn in
    let es = c.self.inside.by_conn.entries in
    let f : HubConnection → HubConnection = λ x. record x { stage = touched c.args.now x.stage } in
    let own = c.in-Some-get_index_mut.boxed.now in
    let w = c.touched.new.self in
    let there = own_at k c.in-Some.index es own c.self.invariant.distinct c.in-Some.ensures.some c.in-Some-get_index_mut.ensures.value in
    ap connections_of (set_at k c.in-Some.index es w c.self.invariant.distinct c.in-Some.ensures.some)
    ∙ changed_seen c.self.invariant c.self.view_is k f w (sym there) (ap connection_of c.touched.ensures)

pub returns-else-is_earlier-clause-connections : goal.returns-else-is_earlier-clause-connections
returns-else-is_earlier-clause-connections c =
    let k = c.args.conn in
    let es = c.self.inside.by_conn.entries in
    let f : HubConnection → HubConnection = λ x. record x { stage = touched c.args.now x.stage } in
    let own = c.in-Some-get_index_mut.boxed.now in
    let w = c.touched.new.self in
    let there = own_at k c.in-Some.index es own c.self.invariant.distinct c.in-Some.ensures.some c.in-Some-get_index_mut.ensures.value in
    ap connections_of (set_at k c.in-Some.index es w c.self.invariant.distinct c.in-Some.ensures.some)
    ∙ changed_seen c.self.invariant c.self.view_is k f w (sym there) (ap connection_of c.touched.ensures)

pub returns-then-is_earlier-clause-key : goal.returns-then-is_earlier-clause-key
returns-then-is_earlier-clause-key c =
    let es = c.self.inside.by_conn.entries in
    let own = c.in-Some-get_index_mut.boxed.now in
    c.key-key.ensures
    ∙ ap key_on (stage_seen c.self.invariant c.self.view_is c.args.conn (sym (own_at c.args.conn c.in-Some.index es own c.self.invariant.distinct c.in-Some.ensures.some c.in-Some-get_index_mut.ensures.value)))

pub returns-else-is_earlier-clause-key : goal.returns-else-is_earlier-clause-key
returns-else-is_earlier-clause-key c =
    let es = c.self.inside.by_conn.entries in
    let own = c.in-Some-get_index_mut.boxed.now in
    c.key-key.ensures
    ∙ ap key_on (stage_seen c.self.invariant c.self.view_is c.args.conn (sym (own_at c.args.conn c.in-Some.index es own c.self.invariant.distinct c.in-Some.ensures.some c.in-Some-get_index_mut.ensures.value)))
