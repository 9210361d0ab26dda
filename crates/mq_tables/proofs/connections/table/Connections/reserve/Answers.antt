use Rattle.std.proofs.Common.{List, eqb, sym, subst}
use Rattle.std.specs.HashMap.{get, hash_map_len}
use Rattle.mq_tables.specs.Inside.Alarms.{AreAwaited}
use Rattle.mq_tables.specs.Connections.{service, AreConnections}
use Rattle.mq_tables.proofs.ConnectionTable.{Entry, awaited_of, kept_anew, kept_found}
use Rattle.mq_tables.proofs.connections.table.Connections.reserve.Goals as goal

pub refresh_alarms-requires : goal.refresh_alarms-requires
refresh_alarms-requires c =
    subst (λ (es : List Entry). AreAwaited c.self.inside.limits.connect_within c.self.inside.alarms es) (sym c.in_ok-reserve.ensures.entries)
    (awaited_of (service c.self.inside.limits c.self.inside.alarms) c.self.inside.by_conn.entries c.self.invariant.served)

pub invariant_of-self-2 : goal.invariant_of-self-2
invariant_of-self-2 c =
    let by = service c.self.inside.limits c.self.inside.alarms in
    let old = c.self.inside.ups in
    let new = c.reserve-2.new.self in
    let again = c.reserve-2.ensures.entries in
    let es = c.reserve.new.self.entries in
    let same = subst (λ (ds : List Entry). AreConnections by ds (get eqb old) (hash_map_len old)) (sym c.in_ok-reserve.ensures.entries) c.self.invariant in
    kept_found (service c.self.inside.limits c.refresh_alarms.new.alarms) es (get eqb old) (get eqb new) (hash_map_len old) (hash_map_len new)
    (kept_anew by c.refresh_alarms.new.alarms es (get eqb old) (hash_map_len old) c.refresh_alarms.ensures.awaited same) again.2 again.1
