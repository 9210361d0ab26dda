-- The names that the source files of this crate cite. It declares none of its own.
pub use Rattle.std.specs.Fmt.{DisplaysOnOk}
pub use Rattle.std.specs.Io.KnownBytes.{Appends}
pub use Rattle.std.specs.List.{flat_map, AllByRecursion, AllZip}
pub use Rattle.mq_topic.specs.Topic.{IsTopicFilter}
pub use Rattle.mq_wire.specs.Length.{Length, length_bytes}
pub use Rattle.mq_wire.specs.Number.{number}
pub use Rattle.mq_wire.specs.Text.{counted, IsText}
pub use Rattle.mq_packet.specs.Codes.{refusal_number, refusal_from, code_number, code_from}
pub use Rattle.mq_packet.specs.Encoding.{Encodes, first_byte, fields, encoded_size, request_fields, code_fields, connect_protocol, connect_head, connect_fields, connect_flags, will_fields, login_fields, connack_fields, delivery_fields, password_fields, publish_fields, EncodingLaws}
pub use Rattle.mq_packet.specs.Identifier.{IsIdentifier}
pub use Rattle.mq_packet.specs.Lines.{code_text, connack_text, connect_text, delivery_text, escaped, escaped_byte, filter_text, hex_of, identified, is_dup, login_text, packet_text, password_text, publish_text, request_text, will_text}
pub use Rattle.mq_packet.specs.Publication.{fits_delivery, publication}
pub use Rattle.mq_packet.specs.Values.{IsRequest, Always, IsPacket, IsBinary, IsConnect, IsPublication, IsWill, IsLogin, IsList}
pub use Rattle.mq_packet.specs.Writing.{AppendsFront, WritesPacket, FailsToWrite}
