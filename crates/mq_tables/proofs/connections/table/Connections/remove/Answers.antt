use Rattle.std.proofs.Common.{◌∙◌, List, eqb, sym, ap, subst}
use Rattle.std.specs.HashMap.{get, hash_map_len}
use Rattle.std.specs.List.{IsDistinct}
use Rattle.std.specs.Map.{keys_of}
use Rattle.mq_route.specs.Routed.{same_conn}
use Rattle.mq_route.specs.Hub.{key_on, stage_of, without_connection}
use Rattle.mq_tables.specs.Connections.{service, ConnectionList, connections_of, AreConnections}
use Rattle.mq_tables.proofs.ConnectionTable.{Entry, are_named, kept_without, taken_out}
use Rattle.mq_tables.proofs.connections.table.Connections.remove.Goals as goal

pub invariant_of-self : goal.invariant_of-self
invariant_of-self c =
    let by = service c.self.inside.limits c.self.inside.alarms in
    let es = c.self.inside.by_conn.entries in
    let ups = c.self.inside.ups in
    let left = c.remove_conn.ensures.entries in
    subst (λ (rs : List Entry). AreConnections by rs (get eqb ups) (hash_map_len ups)) (sym left)
    (kept_without by c.args.conn es (get eqb ups) (hash_map_len ups) c.self.invariant
    (ap (λ (v : ConnectionList). key_on (stage_of c.args.conn v.connections)) c.self.view_is ∙ c.requires)
    (subst (λ (rs : List Entry). IsDistinct same_conn (keys_of rs)) left c.remove_conn.ensures.distinct))

pub returns-clause-connections : goal.returns-clause-connections
returns-clause-connections c =
    let es = c.self.inside.by_conn.entries in
    ap connections_of c.remove_conn.ensures.entries
    ∙ taken_out c.args.conn es (are_named (service c.self.inside.limits c.self.inside.alarms) es c.self.invariant.served) c.self.invariant.distinct
    ∙ ap (λ (v : ConnectionList). without_connection c.args.conn v.connections) c.self.view_is
