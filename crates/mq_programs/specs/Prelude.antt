-- The names that the source files of this crate cite. It declares none of its own.
pub use Rattle.std.specs.Io.KnownBytes.{Appends}
pub use Rattle.mq_broker.specs.Configuration.{configuration}
pub use Rattle.mq_broker.specs.End.{IsPacketLimit}
pub use Rattle.mq_broker.specs.declared.open_error.OpenError.TheVariants.{PacketLimit}
pub use Rattle.mq_cli.specs.Printed.{topic_line}
pub use Rattle.mq_cli.specs.Status.{IsReplayDone}
pub use Rattle.mq_loopback.specs.Program.{IsInputRun}
pub use Rattle.mq_packet.specs.Lines.{Prints}
pub use Rattle.mq_picture.specs.Image.{IsPicture}
pub use Rattle.mq_schedule.specs.Schedule.{IsSchedule, lines_of}
pub use Rattle.mq_store.specs.Restoring.{IsFound}
pub use Rattle.mq_programs.specs.Drawing.{IsDrawRun}
pub use Rattle.mq_programs.specs.Inside.Drawing.{IsImageSaved, IsSaved}
pub use Rattle.mq_programs.specs.Inputs.{input_of}
pub use Rattle.mq_programs.specs.Inside.Journal.{IsBegun}
pub use Rattle.mq_programs.specs.Kept.{IsBrokerStatus, IsEnded, IsReady, MayEnd}
pub use Rattle.mq_programs.specs.Inside.Kept.{keep_of}
pub use Rattle.mq_programs.specs.Options.{AreOptionsOf, milliseconds, start_status, when_full_of}
pub use Rattle.mq_programs.specs.Password.{IsPasswordDone, IsPasswordRun, without_line_end}
pub use Rattle.mq_programs.specs.Runs.{AreTextsOf, IsBadTopic, IsClientRun, IsCollectRun, IsCollected, IsLockedRun, IsPublishRun, IsPublished, IsSessionRun}
pub use Rattle.mq_programs.specs.Serving.{IsServeCommand}
