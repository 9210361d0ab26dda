-- The names that the source files of this crate cite. It declares none of its own.
pub use Rattle.std.specs.List.{list_any}
pub use Rattle.mq_decode.specs.Limits.{Bounds}
pub use Rattle.mq_decode.specs.Views.{packet_of}
pub use Rattle.mq_packet.specs.Encoding.{encoded_size, connect_fields, login_fields, password_fields, will_fields, bit, delivery_fields, publish_fields, fields, protocol}
pub use Rattle.mq_packet.specs.Identifier.{IsIdentifier}
pub use Rattle.mq_packet.specs.Publication.{Publication, fits_delivery}
pub use Rattle.mq_topic.specs.Match.{Match}
pub use Rattle.mq_topic.specs.Qos.{qos_number}
pub use Rattle.mq_topic.specs.Topic.{IsTopicFilter, IsTopicName, is_wildcard}
pub use Rattle.mq_wire.specs.Length.{length_bytes, Length, LengthUnder}
pub use Rattle.mq_wire.specs.Number.{number}
pub use Rattle.mq_wire.specs.Text.{IsText, counted}
pub use Rattle.mq_wire.specs.Inside.Text.{is_special}
pub use Rattle.mq_bytes.specs.Arguments.{IsAcknowledgementOf, IsBareOf, IsConnectOf, IsLoginOf, IsWillOf, IsListOf, IsConnAckOf, IsPublishOf}
pub use Rattle.mq_bytes.specs.Inside.Arguments.{MayDeliver}
pub use Rattle.mq_bytes.specs.Buffers.{Filled, Gives}
pub use Rattle.mq_bytes.specs.Inside.Buffers.{EncodesParts}
pub use Rattle.mq_bytes.specs.Checks.{IsRefused, IsSavedSession}
pub use Rattle.mq_bytes.specs.Inside.Connects.{LoginWith, NoLogin, NoWill, WillWith, counted_if}
pub use Rattle.mq_bytes.specs.Inside.Items.{AreItems, IsItem, first_of, kind_number}
pub use Rattle.mq_bytes.specs.Places.{Lies, ShowsConnect, ShowsLogin, ShowsPassword, ShowsWill, IsLocated, ShowsPublish, dup_of, Shows, ShowsConnAck, ShowsList, ShowsNumber, identifier_of}
pub use Rattle.mq_bytes.specs.declared.places.Front.{Front}
