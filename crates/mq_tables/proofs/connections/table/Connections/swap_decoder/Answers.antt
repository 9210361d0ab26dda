use Rattle.std.proofs.Common.{◌∙◌, List, eqb, true≢false, sym, ap, subst}
use Rattle.std.specs.HashMap.{get, hash_map_len}
use Rattle.mq_decode.specs.Limits.{Bounds}
use Rattle.mq_decode.specs.State.{State}
use Rattle.mq_route.specs.Hub.{HubConnection, key_on}
use Rattle.mq_tables.specs.declared.connections.connection.Connection.{Connection}
use Rattle.mq_tables.specs.Connections.{service, ConnectionList, connections_of, connection_of, AreConnections, IsDecoding}
use Rattle.mq_tables.proofs.RingTimes.{same_awaited}
use Rattle.mq_tables.proofs.PendingBytes.{same_decoding}
use Rattle.mq_tables.proofs.ConnectionTable.{Entry, served_at, kept_same}
use Rattle.mq_tables.proofs.FoundConnection.{changed_seen, held_seen, lacks_seen, still_seen}
use Rattle.mq_tables.proofs.connections.table.Connections.swap_decoder.Goals as goal

pub returns-in_default-clause-connections : goal.returns-in_default-clause-connections
returns-in_default-clause-connections c =
    let f : HubConnection → HubConnection = λ x. record x { held = c.args.decoder.now.held } in
    ap (λ m. connections_of m.entries) c.get_mut.follows.holds-at-none
    ∙ still_seen c.self.invariant c.self.view_is c.args.conn f c.in_default.ensures.value

pub returns-in_default-clause-held : goal.returns-in_default-clause-held
returns-in_default-clause-held c =
    absurd (true≢false (sym c.requires.known ∙ lacks_seen c.self.invariant c.self.view_is c.args.conn c.in_default.ensures.value))

pub invariant_of-self-2 : goal.invariant_of-self-2
invariant_of-self-2 c =
    let by = service c.self.inside.limits c.self.inside.alarms in
    let es = c.self.inside.by_conn.entries in
    let ups = c.self.inside.ups in
    let own = c.in-Some.boxed.now in
    let w = c.swap_decoder.new.self in
    let there = sym c.in-Some.ensures.value in
    let bounds = ap (λ (v : ConnectionList). v.limits.packets) c.self.view_is in
    let says = c.swap_decoder.ensures.own in
    subst (λ (rs : List Entry). AreConnections by rs (get eqb ups) (hash_map_len ups)) (sym (c.get_mut.follows.holds w).0)
    (kept_same by c.args.conn es own w (get eqb ups) (hash_map_len ups) c.self.invariant there (ap (λ (x : Connection). x.conn) says)
    (same_decoding by.bounds c.args.decoder.now w.decoder (ap (λ (x : Connection). x.decoder) says) (subst (λ (l : Bounds). IsDecoding l c.args.decoder.now) (sym bounds) c.requires.reading), same_awaited by.within by.alarms own w (ap (λ (x : Connection). x.conn) says) (ap (λ (x : Connection). x.since) says) (ap (λ (x : Connection). x.stage) says) (served_at by c.args.conn es own c.self.invariant.served there).1)
    (ap (λ (x : Connection). key_on x.stage) says))

pub returns-clause-connections : goal.returns-clause-connections
returns-clause-connections c =
    let f : HubConnection → HubConnection = λ x. record x { held = c.args.decoder.now.held } in
    let w = c.swap_decoder.new.self in
    ap connections_of (c.get_mut.follows.holds w).0
    ∙ changed_seen c.self.invariant c.self.view_is c.args.conn f w c.in-Some.ensures.value (ap connection_of c.swap_decoder.ensures.own)

pub returns-clause-held : goal.returns-clause-held
returns-clause-held c =
    ap (λ (d : State). d.held) c.swap_decoder.ensures.other
    ∙ held_seen c.self.invariant c.self.view_is c.args.conn c.in-Some.ensures.value

pub returns-clause-reading : goal.returns-clause-reading
returns-clause-reading c =
    let own = c.in-Some.boxed.now in
    let read = served_at (service c.self.inside.limits c.self.inside.alarms) c.args.conn c.self.inside.by_conn.entries own c.self.invariant.served (sym c.in-Some.ensures.value) in
    subst (λ (l : Bounds). IsDecoding l c.swap_decoder.new.decoder) (ap (λ (v : ConnectionList). v.limits.packets) c.self.view_is)
    (same_decoding c.self.inside.limits.packets own.decoder c.swap_decoder.new.decoder c.swap_decoder.ensures.other read.0)
