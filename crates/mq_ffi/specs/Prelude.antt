-- The names that the source files of this crate cite. It declares none of its own.
pub use Rattle.std.specs.Box.Ownership.{box_owns}
pub use Rattle.std.specs.Coded.{coded_option}
pub use Rattle.mq_bytes.specs.Arguments.{IsLoginOf, IsWillOf, IsAcknowledgementOf, IsBareOf, IsConnAckOf, IsConnectOf, IsListOf, IsPublishOf}
pub use Rattle.mq_bytes.specs.Buffers.{Gives}
pub use Rattle.mq_bytes.specs.Checks.{IsSavedSession}
pub use Rattle.mq_embedded.specs.Arguments.{AreLoginParts, AreWillParts, IsArgumentFault}
pub use Rattle.mq_embedded.specs.Calls.{Connects, Drops, IsIdle, Leaves, Pings, Publishes, Receives, Saves, Subscribes, TakesEvent, TakesOutput, Unsubscribes, WithEvents}
pub use Rattle.mq_embedded.specs.Starts.{Starts}
pub use Rattle.mq_embedded.specs.contracts.client.Client.{the_row}
pub use Rattle.mq_topic.specs.Match.{Match}
pub use Rattle.mq_topic.specs.Topic.{IsTopicFilter, IsTopicName}
pub use Rattle.mq_ffi.specs.Boxed.{boxed}
pub use Rattle.mq_ffi.specs.Clients.{AreOptions, Calls, Codes, HasOptions, IsNextTick, Makes, Passes}
pub use Rattle.mq_ffi.specs.Codes.{call_code, closed_code, count_code, call_fault_code, encode_code, fault_code, reason_number}
pub use Rattle.mq_ffi.specs.Inside.Codes.{check_code, match_code}
pub use Rattle.mq_ffi.specs.Exports.{CodesOf, ReportsFront, ReportsPacket, bounds}
