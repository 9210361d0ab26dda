use Rattle.std.proofs.Common.{◌≡◌, take}
use Rattle.std.specs.Int.NonZero.{non_zero_u16_get}
use Rattle.mq_schedule.specs.Schedule.{number_of}
use Rattle.mq_world.specs.Carries.{Wired}
use Rattle.mq_world.specs.World.{IsNew}
use Rattle.mq_picture.proofs.Recording.{IsMade}
use Rattle.mq_picture.proofs.record.record_of.Given as goal

abbrev pub invariant-loop-step : goal.invariant-loop-step
invariant-loop-step l =
    (start : Wired) × IsNew l.schedule.limits (non_zero_u16_get l.schedule.capacity) (number_of l.schedule.window) start
    × IsMade l.schedule.limits (non_zero_u16_get l.schedule.capacity) (take l.step-index l.schedule.steps.items) start l.world.wired l.recorder.entries.items
    × (l.world.limit ≡ l.schedule.limits) × (l.world.capacity ≡ non_zero_u16_get l.schedule.capacity)
