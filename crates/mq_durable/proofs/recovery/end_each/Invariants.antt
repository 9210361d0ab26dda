use Rattle.std.proofs.Common.{drop}
use Rattle.mq_durable.specs.Recovering.{AreKnownAmong, HasEnded}
use Rattle.mq_durable.proofs.recovery.end_each.Given as goal

abbrev pub invariant-loop-conn : goal.invariant-loop-conn
invariant-loop-conn l = record {
  ended : HasEnded l.fn.hub l.hub;
  known : AreKnownAmong (drop l.conn-index l.conns) l.hub;
}
