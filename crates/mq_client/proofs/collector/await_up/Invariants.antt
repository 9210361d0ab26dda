use Rattle.std.proofs.Common.{[], Ok}
use Rattle.std.specs.Io.KnownBytes.{Keeps as Silent}
use Rattle.mq_client.specs.Collecting.{Keeps}
use Rattle.mq_client.proofs.collector.await_up.Given as goal

abbrev pub invariant-loop : goal.invariant-loop
invariant-loop g l = Keeps l.initial.peer l.peer [] l.initial.kept.items l.kept.items (Ok tt) × Silent l.initial.peer.written l.peer.written
