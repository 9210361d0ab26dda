-- The names that the source files of this crate cite. It declares none of its own.
pub use Rattle.std.specs.Fmt.{DisplaysOnOk}
pub use Rattle.std.specs.Int.NonZero.{non_zero_u16_get}
pub use Rattle.std.specs.Io.KnownBytes.{Appends}
pub use Rattle.std.specs.List.{flat_map}
pub use Rattle.mq_packet.specs.Lines.{Prints, escaped_byte}
pub use Rattle.mq_replay.specs.Replay.{StepDoes}
pub use Rattle.mq_schedule.specs.Schedule.{number_of}
pub use Rattle.mq_world.specs.World.{IsNew}
pub use Rattle.mq_world.specs.declared.answer.Answer.{Answer}
pub use Rattle.mq_world.specs.declared.side.Side.TheVariants.{Client}
pub use Rattle.mq_picture.specs.Fault.{OnMemory}
pub use Rattle.mq_picture.specs.Image.{IsPicture, IsHead, IsImage, arrow_label, arrow_line, arrow_lines, arrow_place, body_lines, first_text, line_class, lines_text, note_lines, note_look, row_lines}
pub use Rattle.mq_picture.specs.Inside.Lanes.{Ends, FirstFits, IsChart, left_at, waiting}
pub use Rattle.mq_picture.specs.Inside.Recording.{Records}
pub use Rattle.mq_picture.specs.Inside.Summaries.{delivery_dup, delivery_id, kind_of, packet_dup, packet_id}
pub use Rattle.mq_picture.specs.Records.{IsRecord, anew_entries, answer_entries, closed_entries, delivery_entries, dropped_entries, happening_entries, left_entries, opening_entries, published_entries, settling_entries, ticked_entries, unsent}
pub use Rattle.mq_picture.specs.Rows.{Draws, reaches}
pub use Rattle.mq_picture.specs.Texts.{EscapeLaw, accepted_text, arrow_text, delivered_text, dots, dup_text, fate_text, id_text, kind_text, note_text, short_payload, short_topic, summary_text, xml_byte, xml_text}
pub use Rattle.mq_picture.specs.declared.entry.RecordEntry.TheVariants.{Arrived, Cleared, Noted}
pub use Rattle.mq_picture.specs.declared.picture.PictureFault.TheVariants.{Io, Memory}
