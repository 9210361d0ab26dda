use Rattle.std.proofs.Common.{map}
use Rattle.mq_loopback.specs.File.{AreClients}
use Rattle.mq_loopback.proofs.read.read_clients.Given as goal

-- The first lines are the clients.
abbrev pub invariant-loop-line : goal.invariant-loop-line
invariant-loop-line l = record {
  can_next : (goal.iterator-loop-line).can_next l.line-iterator;
  is_finite : (goal.iterator-loop-line).is_finite l.line-iterator;
  read : AreClients l.clients.items (map (λ line. line.now) l.yielded);
}
