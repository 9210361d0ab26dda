-- The names that the source files of this crate cite. It declares none of its own.
pub use Rattle.std.specs.Iterator.{YieldsFirst, item_count}
pub use Rattle.std.specs.Iterator.Runs.{YieldsInOrder}
pub use Rattle.std.specs.List.{AllZip, list_any}
pub use Rattle.mq_decode.specs.Grammar.{IsFront, Pending, ReadsWithin}
pub use Rattle.mq_decode.specs.Views.{packet_of}
pub use Rattle.mq_flow.specs.Receiver.{none_received, on_pubrel}
pub use Rattle.mq_flow.specs.Saved.{AreWithin, IsSession}
pub use Rattle.mq_flow.specs.SavedTwo.{saved_form_two}
pub use Rattle.mq_flow.specs.Sender.{blank_book, all_sent, resent, same_qos, is_full, uses, claim, IsFree, publish_packet}
pub use Rattle.mq_packet.specs.Encoding.{Encodes, fields, encoded_size}
pub use Rattle.mq_packet.specs.Publication.{fits_delivery}
pub use Rattle.mq_packet.specs.declared.message.Message.{Message}
pub use Rattle.mq_topic.specs.declared.qos.Qos.TheVariants.{Q1, Q2, Q0}
pub use Rattle.mq_wire.specs.Length.{length_bytes}
pub use Rattle.mq_end.specs.Both.{publish_refusal, flow_gets, publish_gets, stores, has_identifier, publishes}
pub use Rattle.mq_end.specs.Client.{connects, subscribes, subscribe_refusal, unsubscribes, unsubscribe_refusal, leaves, leave_refusal, client_open_gets, connack_gets, client_gets, client_up_gets}
pub use Rattle.mq_end.specs.Codes.{close_code, refusal_code}
pub use Rattle.mq_end.specs.Deadline.{IsDeadline, is_overdue}
pub use Rattle.mq_end.specs.End.{blank_end, is_live, over, resumed, End, renewed, becomes_connected, Reply, closes, is_up, sends_packets}
pub use Rattle.mq_end.specs.KeepAlive.{pings, KeepAliveLaws, is_due, is_late, server_ticks}
pub use Rattle.mq_end.specs.Laws.{KeepsWindow, ClosingLaws, SoundLaws, WindowLaws}
pub use Rattle.mq_end.specs.Inside.Opening.{accepts_connect, connack_in, terms_get, terms_in, terms_of}
pub use Rattle.mq_end.specs.Publishing.{Accepts, connect_of}
pub use Rattle.mq_end.specs.Ready.{whole_size, AreEncodable, FitsRoom, CanSend, is_exactly_once, is_plain, HasRoom, size_at_once, publishes_size, packets_size, HasConnectRoom, AwaitsConnect}
pub use Rattle.mq_end.specs.ReadyLaws.{ReadyLaws}
pub use Rattle.mq_end.specs.Receiving.{Acts, ClientReceives, ClientTakes, Gives, outcome_of, Makes, Stays, gets_as, HeardAs, Hears, Shows, TakesAs, TakesPacket, no_outcome, HearsAt, ServerReceives, TakesOne}
pub use Rattle.mq_end.specs.Inside.Receiving.{IsBreak, ReceivesAs, TakesNext, heard_as, is_answered}
pub use Rattle.mq_end.specs.Requests.{Requests, Ticks}
pub use Rattle.mq_end.specs.Resuming.{FitsWithin, NamesAnother, kept_session}
pub use Rattle.mq_end.specs.Server.{opens, server_open_gets, refuses, server_gets, server_up_gets, ready_refusal, answer_refusal, suback_refusal, unsuback_refusal, subacks, unsubacks, would_hand, server_publish_refusal}
pub use Rattle.mq_end.specs.SizeLaws.{SizeLaws}
pub use Rattle.mq_end.specs.Sizes.{publish_size, subscribe_size, unsubscribe_size, suback_size, unsuback_size}
pub use Rattle.mq_end.specs.State.{PutsOut, bytes_less, no_bytes, no_room}
pub use Rattle.mq_end.specs.Waiting.{pending}
