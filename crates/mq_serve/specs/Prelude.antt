-- The names that the source files of this crate cite. It declares none of its own.
pub use Rattle.std.specs.Io.KnownBytes.{Appends, Keeps}
pub use Rattle.std.specs.IoError.{os_error_kind}
pub use Rattle.std.specs.List.{flat_map, list_all, sum_by, AllZip}
pub use Rattle.mq_book.specs.Pages.{below}
pub use Rattle.mq_book.specs.Workers.{Worked}
pub use Rattle.mq_book.specs.declared.work_end.WorkEnd.{WorkEnd}
pub use Rattle.mq_decode.specs.Limits.{strict}
pub use Rattle.mq_packet.specs.Lines.{Prints}
pub use Rattle.mq_packet.specs.Writing.{AppendsFront}
pub use Rattle.mq_route.specs.Hub.{HubState}
pub use Rattle.mq_route.specs.declared.config.WhenFull.TheVariants.{ClosePublisher}
pub use Rattle.mq_stream.specs.Stream.{Arrives, IsUnread, outcome_of}
pub use Rattle.mq_serve.specs.Accepting.{IsTaken, after_failure, is_dead}
pub use Rattle.mq_serve.specs.Calls.{numbers_from}
pub use Rattle.mq_serve.specs.Ends.{end_status, IsReported, end_of_work, first_stop, retention_limit}
pub use Rattle.mq_serve.specs.Inside.Ends.{stop_of}
pub use Rattle.mq_serve.specs.Pending.{IsWhole, IsSent, Sends, WritesFront, bytes_of}
pub use Rattle.mq_serve.specs.Inside.Pending.{after_failed_write}
pub use Rattle.mq_serve.specs.Polled.{written_of}
pub use Rattle.mq_serve.specs.Printed.{end_line, end_lines, session_line, AreSessions, IsEarly, IsServeRun, ServeEnds}
pub use Rattle.mq_serve.specs.ReadOrder.{after_empty_read, idle, is_later, is_read, reads_beside, seat_of, serving, waits, with_seat, with_waiting}
pub use Rattle.mq_serve.specs.Inside.Wakers.{after_act, after_acts, call_if, must_wake, serves, uncalled, vacant}
pub use Rattle.mq_serve.specs.Working.{AreReceipts, HasWorked}
pub use Rattle.mq_serve.specs.declared.output.WriteNext.TheVariants.{Pause}
pub use Rattle.mq_serve.specs.declared.serve_end.ServeEnd.TheVariants.{Memory}
