-- The names that the source files of this crate cite. It declares none of its own.
pub use Rattle.std.specs.Fmt.{DisplaysOnOk}
pub use Rattle.std.specs.Io.KnownBytes.{Appends}
pub use Rattle.std.specs.List.{flat_map, list_all}
pub use Rattle.std.specs.Result.{result_ok}
pub use Rattle.std.specs.Str.Lines.{lines}
pub use Rattle.std.specs.String.{string_bytes}
pub use Rattle.hex.specs.Hex.{decode_sized}
pub use Rattle.mq_packet.specs.Lines.{escaped_byte}
pub use Rattle.sha2.specs.Sha256.{sha256}
pub use Rattle.mq_status.specs.Counting.{close_number, miss_reason, place, Grows, act_adds, acts_add, refusal_adds, share, value}
pub use Rattle.mq_status.specs.Html.{HtmlLaws, html_byte, html_escaped}
pub use Rattle.mq_status.specs.Http.{Answers, path_status, reply_of}
pub use Rattle.mq_status.specs.Log.{LogLaws, close_text, close_words, line_text, refusal_text, refusal_words}
pub use Rattle.mq_status.specs.Page.{by_qos_row, connections_text, item_text, page_text, row_text, state_word, title_text, totals_text}
pub use Rattle.mq_status.specs.Passwords.{Adds, Gives, PasswordLaws, ReadsTables, Refuses, accepts, entry_of, field_in, file_gives, fits, hash_in, is_field, is_field_byte, is_name, is_skipped, line_gives, lines_give, name_in, password_line, plain_of, stored_in}
pub use Rattle.mq_status.specs.Inside.Passwords.{AreTablesOf, RefusesLine, RefusesLines}
pub use Rattle.mq_status.specs.Prometheus.{by_qos_text, counters_text, head_text, memory_text, prometheus_text, rounds_text, sample_text, seconds_text, single_text, traffic_text, wills_text}
pub use Rattle.mq_status.specs.Response.{body_text, content_type, head_lines, response_text, status_lines}
pub use Rattle.mq_status.specs.declared.counter.Counter.TheVariants.{BytesRead, BytesWritten, Closed, RoundMicroseconds, Rounds}
