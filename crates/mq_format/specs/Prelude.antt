-- The names that the source files of this crate cite. It declares none of its own.
pub use Rattle.std.specs.List.{flat_map}
pub use Rattle.mq_format.specs.Format.{digits_text, field_text, filler, first_entry, front, head_text, id_entry, id_number, json_text, last_entry, middle_text, number_entry, payload_text, stamp_text, text_entry, line_end, line_text, payload_line, piece_text, verbose_line}
pub use Rattle.mq_format.specs.Json.{escaped_byte, quoted}
pub use Rattle.mq_format.specs.Layout.{padded, hexadecimal_digit, hexadecimal_text, with_zeros}
pub use Rattle.mq_format.specs.Moment.{instant_text, clock_text, date_text, time_text, unix_text, year_text}
pub use Rattle.mq_format.specs.Reading.{FailsWith, Reads, after_layout, entry_of, escape_letters, field_letters, layout_at, named, number_at, piece_at, shown, time_letters}
