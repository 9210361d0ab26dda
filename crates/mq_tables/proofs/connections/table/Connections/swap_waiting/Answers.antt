use Rattle.std.proofs.Common.{◌∙◌, List, eqb, true≢false, sym, ap, subst}
use Rattle.std.specs.HashMap.{get, hash_map_len}
use Rattle.mq_route.specs.Hub.{HubConnection}
use Rattle.mq_tables.specs.Connections.{service, connections_of, connection_of, AreConnections}
use Rattle.mq_tables.proofs.ConnectionTable.{Entry}
use Rattle.mq_tables.proofs.FoundConnection.{changed_seen, kept_waiting, lacks_seen, still_seen, waiting_seen}
use Rattle.mq_tables.proofs.connections.table.Connections.swap_waiting.Goals as goal

pub returns-in_default-clause-connections : goal.returns-in_default-clause-connections
returns-in_default-clause-connections c =
    let f : HubConnection → HubConnection = λ x. record x { waiting = c.args.waiting.now } in
    ap (λ m. connections_of m.entries) c.get_mut.follows.holds-at-none
    ∙ still_seen c.self.invariant c.self.view_is c.args.conn f c.in_default.ensures.value

pub returns-in_default-clause-waiting : goal.returns-in_default-clause-waiting
returns-in_default-clause-waiting c =
    absurd (true≢false (sym c.requires.known ∙ lacks_seen c.self.invariant c.self.view_is c.args.conn c.in_default.ensures.value))

pub invariant_of-self-2 : goal.invariant_of-self-2
invariant_of-self-2 c =
    let by = service c.self.inside.limits c.self.inside.alarms in
    let ups = c.self.inside.ups in
    subst (λ (rs : List Entry). AreConnections by rs (get eqb ups) (hash_map_len ups)) (sym (c.get_mut.follows.holds c.swap_waiting.new.self).0)
    (kept_waiting c.self.invariant c.args.conn c.in-Some.ensures.value c.swap_waiting.ensures.own)

pub returns-clause-connections : goal.returns-clause-connections
returns-clause-connections c =
    let f : HubConnection → HubConnection = λ x. record x { waiting = c.args.waiting.now } in
    let w = c.swap_waiting.new.self in
    ap connections_of (c.get_mut.follows.holds w).0
    ∙ changed_seen c.self.invariant c.self.view_is c.args.conn f w c.in-Some.ensures.value (ap connection_of c.swap_waiting.ensures.own)

pub returns-clause-waiting : goal.returns-clause-waiting
returns-clause-waiting c =
    c.swap_waiting.ensures.other
    ∙ waiting_seen c.self.invariant c.self.view_is c.args.conn c.in-Some.ensures.value
