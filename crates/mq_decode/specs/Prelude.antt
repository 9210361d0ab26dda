-- The names that the source files of this crate cite. It declares none of its own.
pub use Rattle.std.specs.Io.KnownBytes.{Consumes, IsAtEnd, Keeps, ReadConsumes}
pub use Rattle.std.specs.Iterator.{at_most}
pub use Rattle.std.specs.List.{flat_map}
pub use Rattle.std.specs.Map.Iter.{TakesFirst}
pub use Rattle.std.specs.Result.{result_err}
pub use Rattle.mq_packet.specs.declared.packet.Packet.{Packet}
pub use Rattle.mq_topic.specs.Qos.{qos_from}
pub use Rattle.mq_wire.specs.Reading.{IsSmall, read_length}
pub use Rattle.mq_decode.specs.Bodies.{present_at, answer_at, connack_at, only_identifier_at, body_at}
pub use Rattle.mq_decode.specs.Connects.{flags_from, will_from, login_from}
pub use Rattle.mq_decode.specs.Copied.{counted_more, counted_next, Copies, Adds}
pub use Rattle.mq_decode.specs.Fault.{fault_code, fault_number}
pub use Rattle.mq_decode.specs.Fields.{filter_at, code_byte_at}
pub use Rattle.mq_decode.specs.Inside.Front.{front_at, end_told, header_at, len_told}
pub use Rattle.mq_decode.specs.Gives.{BeginsWith, EndsWith, Gives}
pub use Rattle.mq_decode.specs.Inside.Gives.{Same}
pub use Rattle.mq_decode.specs.Grammar.{IsFront, Pending, ReadsWithin, Wants, Goes, Stops, Faulty, HasHeader, Appends, Takes}
pub use Rattle.mq_decode.specs.Inside.Grammar.{IsAlone}
pub use Rattle.mq_decode.specs.Kind.{size_fault, kind_at, publish_kind, fixed_size}
pub use Rattle.mq_decode.specs.Laws.{EachReads, OneReading, PendingIsShort, ReadsAgain, ReadsOn}
pub use Rattle.mq_decode.specs.Layout.{FaultyFields}
pub use Rattle.mq_decode.specs.Lent.{items_of}
pub use Rattle.mq_decode.specs.Inside.Lent.{Tests, rest_of}
pub use Rattle.mq_decode.specs.Limits.{strict, loose, Bounds}
pub use Rattle.mq_decode.specs.Lists.{list_at, list_with, request_at, suback_code_at}
pub use Rattle.mq_decode.specs.Reader.{ReadStops, Answers, TakesSized, TakesWithin}
pub use Rattle.mq_decode.specs.Inside.Reader.{FillStops, stop_of, without_size}
pub use Rattle.mq_decode.specs.Views.{packet_of, LiesAtEnd, IsView, LiesInFront, view_read}
pub use Rattle.mq_decode.specs.declared.fault.BadField.{BadField}
pub use Rattle.mq_decode.specs.declared.fault.FaultKind.{FaultKind}
pub use Rattle.mq_decode.specs.declared.fault.FieldsError.TheVariants.{Bad, Memory}
pub use Rattle.mq_decode.specs.declared.read.ReadError.TheVariants.{Io}
