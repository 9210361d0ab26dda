-- The names that the source files of this crate cite. It declares none of its own.
pub use Rattle.std.specs.Int.NonZero.{non_zero_u16_get}
pub use Rattle.std.specs.Io.KnownBytes.{Appends}
pub use Rattle.std.specs.List.{flat_map}
pub use Rattle.mq_packet.specs.Lines.{Prints}
pub use Rattle.mq_schedule.specs.Schedule.{number_of}
pub use Rattle.mq_world.specs.Carries.{Wired}
pub use Rattle.mq_world.specs.Listed.{accepted_in, handed_in}
pub use Rattle.mq_world.specs.OverBytes.{near}
pub use Rattle.mq_world.specs.World.{IsNew}
pub use Rattle.mq_world.specs.declared.answer.Answer.{Answer}
pub use Rattle.mq_replay.specs.Fault.{OnMemory}
pub use Rattle.mq_replay.specs.Printing.{anew_line, answer_lines, bytes_line, closed_line, delivery_lines, dropped_line, happening_line, idle_line, left_line, lost_line, opening_lines, published_line, refused_line, restarted_lines, settling_lines, ticked_line, handed_text, id_word}
pub use Rattle.mq_replay.specs.Replay.{IsCutReplay, IsReplay, StepDoes, held_count, last_lines, total_line}
pub use Rattle.mq_replay.specs.declared.run.ReplayFault.TheVariants.{Io, Memory}
