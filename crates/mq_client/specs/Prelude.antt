-- The names that the source files of this crate cite. It declares none of its own.
pub use Rattle.std.specs.Io.KnownBytes.{Appends, Consumes}
pub use Rattle.std.specs.IoError.{error_kind}
pub use Rattle.std.specs.List.{flat_map}
pub use Rattle.mq_end.specs.End.{is_up}
pub use Rattle.mq_end.specs.declared.happening.Happening.{Happening}
pub use Rattle.mq_end.specs.declared.reason.CloseReason.{CloseReason}
pub use Rattle.mq_flow.specs.Receiver.{none_received}
pub use Rattle.mq_packet.specs.Lines.{Prints}
pub use Rattle.mq_packet.specs.Writing.{AppendsFront}
pub use Rattle.mq_packet.specs.declared.message.Message.{Message}
pub use Rattle.mq_client.specs.Collecting.{IsAnswered, IsCollectDone, KeepsFirst, Unacknowledged, Unprinted, collects, grants, handed, request_of, Grows}
pub use Rattle.mq_client.specs.Inside.Collecting.{Gathers}
pub use Rattle.mq_client.specs.Course.{Opening, Subscription, Went, IsIdle, Leaves, MayBeLost, Ticked, Unsubscription, WentFirst, asked_by}
pub use Rattle.mq_client.specs.Disk.{Contains, IsMissing, FileState, Moved, Stays, Synced, Touched, Wrote, Replaced, history_of, stands_of, Unchanged}
pub use Rattle.mq_client.specs.Halts.{unloaded_status, closes_of, halt_status, Closes, halt_closes}
pub use Rattle.mq_client.specs.Keeping.{marked_form, saved_of, Holds}
pub use Rattle.mq_client.specs.Links.{IsNamedBy, Reaches, is_absolute}
pub use Rattle.mq_client.specs.Printed.{halt_line, message_line, payload_word, told_line, unloaded_line}
pub use Rattle.mq_client.specs.Program.{CanGoOn, GoesOn, IsNewClient, program_config}
pub use Rattle.mq_client.specs.Programs.{IsAbsent, IsClientOf, IsDiscarded, IsLoadedOf, IsLostDone, IsMessagesDone, IsSessionDone, IsTextsDone}
pub use Rattle.mq_client.specs.Inside.Programs.{IsKeptDone}
pub use Rattle.mq_client.specs.Publishing.{resumed_of, AskedAll, IsPublishDone, IsResumeDone, Published, PublishHalts, asks_of, publishes, text_message}
pub use Rattle.mq_client.specs.Inside.Publishing.{AskedMore}
pub use Rattle.mq_client.specs.declared.error.ClientError.TheVariants.{Memory}
