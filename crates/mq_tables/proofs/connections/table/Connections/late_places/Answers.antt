use Rattle.std.proofs.Common.{eqb}
use Rattle.std.specs.HashMap.{get, hash_map_len}
use Rattle.mq_tables.specs.Connections.{service}
use Rattle.mq_tables.proofs.ConnectionTable.{are_named, awaited_of, kept_anew}
use Rattle.mq_tables.proofs.connections.table.Connections.late_places.Goals as goal

pub find_late-requires-clause-named : goal.find_late-requires-clause-named
find_late-requires-clause-named c =
    are_named (service c.self.inside.limits c.self.inside.alarms) c.self.inside.by_conn.entries c.self.invariant.served

pub find_late-requires-clause-awaited : goal.find_late-requires-clause-awaited
find_late-requires-clause-awaited c =
    awaited_of (service c.self.inside.limits c.self.inside.alarms) c.self.inside.by_conn.entries c.self.invariant.served

pub invariant_of-self : goal.invariant_of-self
invariant_of-self c =
    kept_anew (service c.self.inside.limits c.self.inside.alarms) c.find_late.new.alarms c.self.inside.by_conn.entries (get eqb c.self.inside.ups) (hash_map_len c.self.inside.ups)
    c.find_late.ensures.awaited c.self.invariant
