use Rattle.std.proofs.Common.{◌≡◌, take}
use Rattle.std.specs.Int.NonZero.{non_zero_u16_get}
use Rattle.mq_replay.proofs.Leading.{IsMade}
use Rattle.mq_replay.proofs.run.run.Given as goal

abbrev pub invariant-loop-step : goal.invariant-loop-step
invariant-loop-step g l = record {
  made : IsMade l.schedule.limits (non_zero_u16_get l.schedule.capacity) (take l.step-index l.schedule.steps.items) l.initial.world.wired l.world.wired (g.W.Write.contents l.initial.output) (g.W.Write.contents l.output);
  limit_is : l.world.limit ≡ l.schedule.limits;
  capacity_is : l.world.capacity ≡ non_zero_u16_get l.schedule.capacity;
}
