-- The names that the source files of this crate cite. It declares none of its own.
pub use Rattle.std.specs.Io.BufRead.{strip_last}
pub use Rattle.std.specs.Io.KnownBytes.{Appends}
pub use Rattle.std.specs.List.{flat_map, count_by, AllZip}
pub use Rattle.mq_book.specs.Pages.{journal_of}
pub use Rattle.mq_client.specs.Collecting.{handed}
pub use Rattle.mq_client.specs.Publishing.{AskedAll}
pub use Rattle.mq_client.specs.Inside.Publishing.{AskedMore}
pub use Rattle.mq_client.specs.declared.error.ClientError.{ClientError}
pub use Rattle.mq_end.specs.End.{is_up}
pub use Rattle.mq_flow.specs.Receiver.{none_received}
pub use Rattle.mq_packet.specs.Lines.{Prints, escaped}
pub use Rattle.mq_schedule.specs.Parts.{Finds}
pub use Rattle.mq_schedule.specs.Schedule.{lines_of, words_of}
pub use Rattle.mq_topic.specs.Topic.{IsTopicFilter}
pub use Rattle.mq_wire.specs.Text.{IsText}
pub use Rattle.mq_loopback.specs.Inside.Barrier.{IsPending, first_fault, may_start}
pub use Rattle.mq_loopback.specs.Clients.{Collected, IsNewClient, Published, Receives, Subscribed, asks_of, message_of, IsClientRun, IsRoleDone}
pub use Rattle.mq_loopback.specs.Inside.Clients.{is_collector}
pub use Rattle.mq_loopback.specs.File.{AreClients, ArePayloads, IsBadLine, IsCount, IsFresh, Says}
pub use Rattle.mq_loopback.specs.Inside.File.{Joins}
pub use Rattle.mq_loopback.specs.Judged.{AllStand, IsReplayed, IsVerdict, events_in, replies_in}
pub use Rattle.mq_loopback.specs.Laws.{FileLaws}
pub use Rattle.mq_loopback.specs.Ordered.{IsOrdered}
pub use Rattle.mq_loopback.specs.Printed.{bad_line, collected_lines, message_line, play_end_line, play_end_status, role_lines, unread_line, verdict_lines, verdict_status}
pub use Rattle.mq_loopback.specs.Program.{Ends, IsInputRun, IsLoopback, IsNoFile, IsRunDone, IsPlayed}
pub use Rattle.mq_loopback.specs.declared.rig.RunError.TheVariants.{Broker}
