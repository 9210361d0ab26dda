-- The names that the source files of this crate cite. It declares none of its own.
pub use Rattle.std.specs.List.{flat_map}
pub use Rattle.mq_bytes.specs.Arguments.{IsLoginOf, IsMessageOf, IsPasswordOf, IsWillOf}
pub use Rattle.mq_bytes.specs.Buffers.{Filled}
pub use Rattle.mq_decode.specs.Limits.{strict}
pub use Rattle.mq_end.specs.Deadline.{IsDeadline}
pub use Rattle.mq_end.specs.KeepAlive.{pings}
pub use Rattle.mq_flow.specs.SavedTwo.{IsSavedAs}
pub use Rattle.mq_packet.specs.Encoding.{code_fields}
pub use Rattle.mq_topic.specs.Qos.{qos_number}
pub use Rattle.mq_topic.specs.Topic.{IsTopicFilter, IsTopicName}
pub use Rattle.mq_wire.specs.Text.{IsText}
pub use Rattle.mq_embedded.specs.Arguments.{AreLoginParts, AreMessageParts, AreRequestParts, AreWillParts, IsArgumentFault, IsPasswordPart, IsRequestOf}
pub use Rattle.mq_embedded.specs.Calls.{Connects, Drops, Hears, IsIdle, Leaves, Pings, Publishes, Receives, Saves, Subscribes, TakesEvent, TakesOutput, Unsubscribes, ShowsEvent, ShowsMessage, event_bytes}
pub use Rattle.mq_embedded.specs.Faults.{publish_fault}
pub use Rattle.mq_embedded.specs.Queue.{queued}
pub use Rattle.mq_embedded.specs.Starts.{IsBlank, IsLoadFault, Loads, Starts}
