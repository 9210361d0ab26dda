-- The names that the source files of this crate cite. It declares none of its own.
pub use Rattle.std.specs.Io.KnownBytes.{Appends}
pub use Rattle.clap.specs.declared.parser.matches.Found.{Found}
pub use Rattle.mq_format.specs.Format.{line_text}
pub use Rattle.mq_packet.specs.Writing.{AppendsFront}
pub use Rattle.mq_pubsub_options.specs.Options.{IsPublish, IsSubscribe}
pub use Rattle.mq_stream.specs.Stream.{Arrives}
pub use Rattle.mq_pubsub_programs.specs.Delivering.{Delivers, Completes, AreWanted}
pub use Rattle.mq_pubsub_programs.specs.Inside.Delivering.{IsSupply}
pub use Rattle.mq_pubsub_programs.specs.Feeding.{IsUsedUp, coming_of, EndsWith, coming_payloads, rounds_of}
pub use Rattle.mq_pubsub_programs.specs.Inside.Feeding.{EndsSupply, Supplies, payloads_in, EndsInput}
pub use Rattle.mq_pubsub_programs.specs.Following.{ComesToEnd, Follows, IsRun, request_of}
pub use Rattle.mq_pubsub_programs.specs.Inside.Polling.{HasNoBytes}
pub use Rattle.mq_pubsub_programs.specs.Status.{IsFaultStatus, IsHelp, status_of, IsStatus}
pub use Rattle.mq_pubsub_programs.specs.Inside.Status.{fault_status}
