use Rattle.std.proofs.Common.{vec_len}
use Rattle.mq_tables.specs.Inside.Alarms.{AreAwaitedBut}
use Rattle.mq_tables.specs.Connections.{connections_of}
use Rattle.mq_tables.specs.Inside.Late.{HasLateBut}
use Rattle.mq_tables.proofs.connections.table.find_named.Given as goal

abbrev pub invariant-loop-conn : goal.invariant-loop-conn
invariant-loop-conn l = record {
  awaited : AreAwaitedBut l.within l.names.items l.alarms l.by_conn.entries;
  late : HasLateBut l.within l.now (connections_of l.by_conn.entries) l.names.items l.places.items;
}

abbrev pub decreases-loop-conn : goal.decreases-loop-conn
decreases-loop-conn l = vec_len l.names
