use Rattle.std.proofs.Common.{◌≡◌, ℕ, take}
use Rattle.mq_decode.specs.Limits.{Bounds}
use Rattle.mq_world.specs.Machine.{Machine}
use Rattle.mq_world.specs.OverBytes.{Stands}
use Rattle.mq_world.specs.Pairs.{wired_of}
use Rattle.mq_world.specs.Listed.{accepted_in}
use Rattle.mq_world.specs.Inside.Listed.{TellsMore}
use Rattle.mq_world.specs.World.{InTurn, exchanges}
use Rattle.mq_world.proofs.pair.Pair.settle.Given as goal

abbrev pub invariant-loop-side : goal.invariant-loop-side
invariant-loop-side l = record {
  turns : (limit : Bounds) (capacity : ℕ) (m : Machine) → Stands limit capacity (wired_of l.initial.self) m
      → InTurn limit capacity (take l.side-index exchanges) l.deliveries.items (wired_of l.initial.self) (wired_of l.self);
  config : l.self.client.config ≡ l.initial.self.client.config;
  answers : l.self.trace.answers ≡ l.initial.self.trace.answers;
  at_client : accepted_in l.self.trace.client ≡ accepted_in l.initial.self.trace.client;
  at_server : accepted_in l.self.trace.server ≡ accepted_in l.initial.self.trace.server;
  told_client : TellsMore l.fn.self.trace.client l.self.trace.client;
  told_server : TellsMore l.fn.self.trace.server l.self.trace.server;
}
