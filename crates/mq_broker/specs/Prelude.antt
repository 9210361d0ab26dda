-- The names that the source files of this crate cite. It declares none of its own.
pub use Rattle.std.specs.Io.KnownBytes.{Appends}
pub use Rattle.std.specs.IoError.{error_kind}
pub use Rattle.mq_decode.specs.Limits.{strict}
pub use Rattle.mq_loop.specs.Brokers.{Continues}
pub use Rattle.mq_loop.specs.Rounds.{IsReached}
pub use Rattle.mq_packet.specs.declared.connack.RefusalCode.{RefusalCode}
pub use Rattle.mq_route.specs.Begun.{MayBegin}
pub use Rattle.mq_status.specs.Log.{line_text}
pub use Rattle.mq_store.specs.Continued.{HasNext, IsFull}
pub use Rattle.mq_store.specs.Restoring.{IsFound}
pub use Rattle.mq_broker.specs.Configuration.{configuration, most_owed}
pub use Rattle.mq_broker.specs.End.{end_status, open_status, IsPacketLimit}
pub use Rattle.mq_broker.specs.Failures.{end_of_commit}
pub use Rattle.mq_broker.specs.Inside.Failures.{next_failure}
pub use Rattle.mq_broker.specs.Lines.{closed_text, refused_text}
pub use Rattle.mq_broker.specs.Missed.{amount}
pub use Rattle.mq_broker.specs.Inside.Missed.{CountsAct, CountsOne}
pub use Rattle.mq_broker.specs.Snapshots.{NotesNext}
pub use Rattle.mq_broker.specs.Inside.Snapshots.{AreReported, is_verbose, snapshot_line}
pub use Rattle.mq_broker.specs.declared.end.BrokerEnd.TheVariants.{PacketLimit, Memory}
