-- The names that the source files of this crate cite. It declares none of its own.
pub use Rattle.std.specs.Fmt.{digit_glyph}
pub use Rattle.std.specs.Int.NonZero.{non_zero_u16_get}
pub use Rattle.std.specs.Io.BufRead.{strip_last}
pub use Rattle.std.specs.String.{string_bytes}
pub use Rattle.hex.specs.Hex.{IsBytes}
pub use Rattle.mq_packet.specs.Lines.{escaped, byte_digits, escaped_byte, hex_of}
pub use Rattle.mq_topic.specs.Qos.{qos_number}
pub use Rattle.mq_topic.specs.Topic.{IsTopicName}
pub use Rattle.mq_schedule.specs.Laws.{ScheduleLaws}
pub use Rattle.mq_schedule.specs.Parts.{Finds, IsLimit, FindsBytes, is_plain, AreSteps, StopsAt, parts, parts_left, KeepsBounds}
pub use Rattle.mq_schedule.specs.Inside.Parts.{IsCapacity, last_word}
pub use Rattle.mq_schedule.specs.Schedule.{IsAmount, IsNumber, IsWindow, bytes_word, number_of, side_word, IsBadLine, IsSchedule, lines_of, IsWorldLine, Writes, publish_word, words_of}
pub use Rattle.mq_schedule.specs.Writing.{line_with, schedule_text, step_line, world_words}
pub use Rattle.mq_schedule.specs.declared.read.ScheduleFault.TheVariants.{Memory}
