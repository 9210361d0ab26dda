use Rattle.std.proofs.Common.{◌≡◌, false, take}
use Rattle.std.specs.List.{All}
use Rattle.mq_flow.specs.Window.{Spans}
use Rattle.mq_world.specs.World.{IsNeverFull, Leads}
use Rattle.mq_world.proofs.world.World.make_all.Given as goal

abbrev pub invariant-loop-event : goal.invariant-loop-event
invariant-loop-event l = record {
  leads : Leads l.initial.self.limit l.initial.self.capacity (take l.event-index l.events) l.self.answers l.initial.self.wired l.self.wired;
  fits : Spans l.initial.self.window l.initial.self.capacity → All IsNeverFull l.self.answers;
  limit : l.self.limit ≡ l.initial.self.limit;
  capacity : l.self.capacity ≡ l.initial.self.capacity;
  window : l.self.window ≡ l.initial.self.window;
  failed : l.self.failed ≡ false;
}
