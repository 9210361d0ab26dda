-- The names that the source files of this crate cite. It declares none of its own.
pub use Rattle.mq_end.specs.End.{resumed}
pub use Rattle.mq_flow.specs.Saved.{count, saved_payload}
pub use Rattle.mq_packet.specs.Encoding.{bit}
pub use Rattle.mq_packet.specs.Identifier.{IsIdentifier}
pub use Rattle.mq_route.specs.Hub.{HubConnection, HubSession}
pub use Rattle.mq_route.specs.Snapshot.{saved_connection, saved_state, saved_will, eight, saved_message, listed, saved_end, saved_row, saved_session, signature}
pub use Rattle.mq_topic.specs.Qos.{qos_number}
pub use Rattle.mq_topic.specs.Rows.{Row}
pub use Rattle.mq_wire.specs.Number.{number}
pub use Rattle.mq_wire.specs.Text.{counted}
pub use Rattle.mq_snapshot.specs.declared.fault.SnapshotFault.TheVariants.{Memory}
