use Rattle.std.proofs.Common.{◌≡◌, ◌++◌, take, flat_map}
use Rattle.std.specs.List.{All}
use Rattle.std.specs.String.{string_bytes}
use Rattle.mq_schedule.specs.Parts.{KeepsBounds}
use Rattle.mq_schedule.specs.Writing.{line_with, step_line, world_words}
use Rattle.mq_schedule.proofs.writing.write_schedule.Given as goal

-- The lines written.
abbrev pub invariant-loop-step : goal.invariant-loop-step
invariant-loop-step l = record {
  text : string_bytes l.text ≡ line_with (world_words l.schedule) ++ flat_map step_line (take l.step-index l.step-items);
  bounds : All KeepsBounds (take l.step-index l.step-items);
}
