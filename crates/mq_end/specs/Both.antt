-- The behaviour that both ends share: messages and their acknowledgements (4.3), and publishing.
use Rattle.std.specs.Prelude.{ℕ, Bool, true, false, not, ◌&&◌, if◌then◌else◌, Option, Some, None, [], ◌∷◌, nat_lt}
use Rattle.mq_topic.specs.declared.qos.Qos.{Qos}
use Rattle.mq_topic.specs.declared.qos.Qos.TheVariants.{Q0, Q1, Q2}
use Rattle.mq_packet.specs.declared.message.Message.{Message}
use Rattle.mq_packet.specs.declared.publish.Delivery.{Delivery}
use Rattle.mq_packet.specs.declared.packet.Packet.{Packet}
use Rattle.mq_packet.specs.declared.packet.Packet.TheVariants as packets
use Rattle.mq_flow.specs.Sender.{is_awaited, is_full, accept, publish_packet, on_puback, on_pubrec, pubrec_answer, on_pubcomp}
use Rattle.mq_flow.specs.Receiver.{is_new, on_publish, on_pubrel}
use Rattle.mq_flow.specs.Window.{fits_window}
use Rattle.mq_end.specs.declared.happening.Happening.TheVariants as happens
use Rattle.mq_end.specs.declared.reason.CloseReason.TheVariants as reasons
use Rattle.mq_end.specs.declared.refusal.PublishRefusal.{PublishRefusal}
use Rattle.mq_end.specs.declared.refusal.PublishRefusal.TheVariants as refusals
use Rattle.mq_end.specs.End.{End, Reply, silent, sends_packets, reports_event, closes, is_up}
use Rattle.mq_end.specs.Sizes.{publish_size}

-- QoS 2 PUBLISH: the identifier is stored and PUBREC sent; the message is delivered only if its
-- identifier was not stored (4.3.3).
abbrev pub stores : ℕ → Message → End → Reply
stores id message end = record {
  end = record end { received = on_publish id end.received };
  out = packets.PubRec id ∷ [];
  happenings = if is_new id end.received then happens.Handed message ∷ [] else [];
  freed = [];
  close = None;
}

-- A PUBLISH arrives at a connected end, by its QoS (3.3, 4.3).
abbrev pub publish_gets : Qos → Option Delivery → Message → End → Reply
-- At most once: it is delivered (4.3.1).
publish_gets Q0 None message end = reports_event (happens.Handed message) end
-- At least once: each PUBLISH is delivered and acknowledged by PUBACK, also a repeated one (4.3.2).
publish_gets Q1 (Some delivery) message end = record {
  end = end;
  out = packets.PubAck delivery.id ∷ [];
  happenings = happens.Handed message ∷ [];
  freed = [];
  close = None;
}
-- Exactly once: a message beyond the receive window closes the connection (4.8), otherwise it is
-- stored.
publish_gets Q2 (Some delivery) message end =
    if fits_window end.window delivery.id end.received then stores delivery.id message end else closes reasons.Window end
-- No other PUBLISH exists: it has an identifier exactly if its QoS is 1 or 2 (2.3.1).
publish_gets qos other message end = closes reasons.Unexpected end

-- A packet of a message flow arrives at a connected end (4.3).
abbrev pub flow_gets : Packet → End → Reply
flow_gets (packets.Publish packet) end = publish_gets packet.message.qos packet.delivery packet.message end
-- PUBACK (3.4, 4.3.2)
flow_gets (packets.PubAck id) end = record {
  end = record end { book = on_puback id end.book };
  out = [];
  happenings = [];
  freed = if is_awaited Q1 id end.book.entries then id ∷ [] else [];
  close = None;
}
-- PUBREC is answered by PUBREL (3.5, 4.3.3)
flow_gets (packets.PubRec id) end = sends_packets (pubrec_answer id end.book) (record end { book = on_pubrec id end.book })
-- PUBREL is answered by PUBCOMP, always (3.6, 4.3.3)
flow_gets (packets.PubRel id) end = sends_packets (packets.PubComp id ∷ []) (record end { received = on_pubrel id end.received })
-- PUBCOMP (3.7, 4.3.3)
flow_gets (packets.PubComp id) end = silent (record end { book = on_pubcomp id end.book })
-- any other packet is unexpected (4.8)
flow_gets packet end = closes reasons.Unexpected end

-- ---- publishing

-- a message of this quality of service has a packet identifier (2.3.1)
abbrev pub has_identifier : Qos → Bool
has_identifier Q0 = false
has_identifier Q1 = true
has_identifier Q2 = true

-- The user publishes a message under this identifier, if it has one. A connected end sends it at
-- once. A QoS 1 or 2 message is stored until it is acknowledged (4.3.2, 4.3.3).
abbrev pub publishes_at : Qos → ℕ → Message → End → Reply
publishes_at Q0 id message end = sends_packets (packets.Publish (record { message = message; delivery = None }) ∷ []) end
publishes_at qos id message end = sends_packets
    (if is_up end.state then publish_packet id false message ∷ [] else [])
    (record end { book = accept id message (is_up end.state) end.book; last = id })

-- a message is published, by its quality of service (3.3, 4.3)
abbrev pub publishes : ℕ → Message → End → Reply
publishes id message end = publishes_at message.qos id message end

-- The identifier that the call returns, for QoS 1 and 2 (2.3.1).
abbrev pub answered_identifier : Qos → ℕ → Option ℕ
answered_identifier qos id = if has_identifier qos then Some id else None

-- The first reason to refuse a message: QoS 0 messages are not stored (4.3.1) and need a
-- connection; the remaining length must be within the limit (2.2.3); and a message with an
-- identifier needs a free one (2.3.1).
abbrev pub publish_refusal : ℕ → ℕ → Message → End → Option PublishRefusal
publish_refusal limit capacity message end =
    if not (has_identifier message.qos) && not (is_up end.state) then Some refusals.NotConnected else
    (if nat_lt limit (publish_size message) then Some refusals.TooLarge else
    (if has_identifier message.qos && is_full capacity end.book then Some refusals.Full else None))
