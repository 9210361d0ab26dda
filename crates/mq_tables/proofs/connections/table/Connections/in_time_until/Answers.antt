use Rattle.std.proofs.Common.{subst}
use Rattle.mq_tables.specs.Connections.{ConnectionList, service}
use Rattle.mq_tables.specs.Late.{AreInTime}
use Rattle.mq_tables.proofs.ConnectionTable.{awaited_of}
use Rattle.mq_tables.proofs.RingTimes.{quiet_in_time}
use Rattle.mq_tables.proofs.connections.table.Connections.in_time_until.Goals as goal

pub returns : goal.returns
returns c = λ now soon.
    subst (λ (v : ConnectionList). AreInTime v.limits.connect_within now v.connections) c.self.view_is
    (quiet_in_time c.self.inside.limits.connect_within c.self.inside.alarms now c.self.inside.by_conn.entries (λ k. c.quiet_until.ensures k now soon)
    (awaited_of (service c.self.inside.limits c.self.inside.alarms) c.self.inside.by_conn.entries c.self.invariant.served))
