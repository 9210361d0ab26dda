-- Reading the fields of a packet, all of them (chapter 3).
use Rattle.std.specs.Prelude.{ℕ, Bool, true, false, List, [], ◌∷◌, Option, Some, None, Result, Ok, Err, ◌==◌, if◌then◌else◌}
use Rattle.mq_topic.specs.declared.qos.Qos.TheVariants.{Q0, Q1, Q2}
use Rattle.mq_topic.specs.declared.qos.Qos.{Qos}
use Rattle.mq_packet.specs.declared.connack.ConnAck.{ConnAck}
use Rattle.mq_packet.specs.declared.connack.ConnAck.TheVariants.{Accepted, Refused}
use Rattle.mq_packet.specs.declared.connack.RefusalCode.{RefusalCode}
use Rattle.mq_packet.specs.declared.publish.Delivery.{Delivery}
use Rattle.mq_packet.specs.declared.packet.Packet.{Packet}
use Rattle.mq_packet.specs.declared.packet.Packet.TheVariants as packets
use Rattle.mq_packet.specs.Codes.{refusal_from}
use Rattle.mq_packet.specs.Publication.{Publication}
use Rattle.mq_decode.specs.declared.fault.FaultKind.TheVariants.{PastEnd, ForbiddenFlags, ForbiddenCode}
use Rattle.mq_decode.specs.declared.fault.BadField.{BadField}
use Rattle.mq_decode.specs.declared.kind.Kind.{Kind}
use Rattle.mq_decode.specs.declared.kind.Kind.TheVariants as kinds
use Rattle.mq_decode.specs.declared.kind.PublishFlags.{PublishFlags}
use Rattle.mq_decode.specs.Gives.{◌>>=◌}
use Rattle.mq_decode.specs.Fields.{bad_at, identifier_at, name_at, filter_at, end_at}
use Rattle.mq_decode.specs.Lists.{list_with, request_at, suback_code_at}
use Rattle.mq_decode.specs.Connects.{connect_at}

-- the code of CONNACK (3.2.2.3); with Session Present 1 it is 0
abbrev pub refusal_or_fault : Option RefusalCode → ℕ → List ℕ → Result (ConnAck × List ℕ) BadField
refusal_or_fault None byte bytes = Err (bad_at ForbiddenCode (byte ∷ bytes))
refusal_or_fault (Some code) byte bytes = Ok (Refused code, bytes)

abbrev pub answer_at : Bool → List ℕ → Result (ConnAck × List ℕ) BadField
answer_at present [] = Err (bad_at PastEnd [])
answer_at false (byte ∷ bytes) = if byte == 0 then Ok (Accepted false, bytes) else refusal_or_fault (refusal_from byte) byte bytes
answer_at true (byte ∷ bytes) = if byte == 0 then Ok (Accepted true, bytes) else Err (bad_at ForbiddenCode (byte ∷ bytes))

-- Session Present (3.2.2.2)
abbrev pub present_at : List ℕ → Result (Bool × List ℕ) BadField
present_at [] = Err (bad_at PastEnd [])
present_at (byte ∷ bytes) = if byte == 0 then Ok (false, bytes) else (if byte == 1 then Ok (true, bytes) else Err (bad_at ForbiddenFlags (byte ∷ bytes)))

unfoldable pub connack_at : List ℕ → Result ConnAck BadField
connack_at bytes = present_at bytes >>= λ present. answer_at present.0 present.1 >>= λ answer. end_at answer.1 >>= λ end. Ok answer.0

-- The identifier of a PUBLISH with QoS 1 or 2 (3.3.2.2).
abbrev pub identified_at : Bool → List ℕ → Result (Option Delivery × List ℕ) BadField
identified_at dup bytes = identifier_at bytes >>= λ id. Ok (Some (record { id = id.0; dup = dup }), id.1)

abbrev pub delivery_of : Qos → Bool → List ℕ → Result (Option Delivery × List ℕ) BadField
delivery_of Q0 dup bytes = Ok (None, bytes)
delivery_of Q1 dup bytes = identified_at dup bytes
delivery_of Q2 dup bytes = identified_at dup bytes

unfoldable pub delivery_at : PublishFlags → List ℕ → Result (Option Delivery × List ℕ) BadField
delivery_at flags bytes = delivery_of flags.qos flags.dup bytes

unfoldable pub publish_at : PublishFlags → List ℕ → Result Publication BadField
publish_at flags bytes = name_at bytes >>= λ topic. delivery_at flags topic.1 >>= λ delivery.
    Ok (record { message = record { topic = topic.0; payload = delivery.1; qos = flags.qos; retain = flags.retain }; delivery = delivery.0 })

-- only an identifier (3.4 to 3.7, 3.11)
unfoldable pub only_identifier_at : List ℕ → Result ℕ BadField
only_identifier_at bytes = identifier_at bytes >>= λ id. end_at id.1 >>= λ end. Ok id.0

-- all fields of a packet of this kind
abbrev pub body_at : Kind → List ℕ → Result Packet BadField
body_at kinds.Connect bytes = connect_at bytes >>= λ contents. Ok (packets.Connect contents)
body_at kinds.ConnAck bytes = connack_at bytes >>= λ contents. Ok (packets.ConnAck contents)
body_at (kinds.Publish flags) bytes = publish_at flags bytes >>= λ publish. Ok (packets.Publish publish)
body_at kinds.PubAck bytes = only_identifier_at bytes >>= λ id. Ok (packets.PubAck id)
body_at kinds.PubRec bytes = only_identifier_at bytes >>= λ id. Ok (packets.PubRec id)
body_at kinds.PubRel bytes = only_identifier_at bytes >>= λ id. Ok (packets.PubRel id)
body_at kinds.PubComp bytes = only_identifier_at bytes >>= λ id. Ok (packets.PubComp id)
body_at kinds.Subscribe bytes = list_with request_at bytes >>= λ list. Ok (packets.Subscribe list.0 list.1)
body_at kinds.SubAck bytes = list_with suback_code_at bytes >>= λ list. Ok (packets.SubAck list.0 list.1)
body_at kinds.Unsubscribe bytes = list_with filter_at bytes >>= λ list. Ok (packets.Unsubscribe list.0 list.1)
body_at kinds.UnsubAck bytes = only_identifier_at bytes >>= λ id. Ok (packets.UnsubAck id)
body_at kinds.PingReq bytes = end_at bytes >>= λ end. Ok packets.PingReq
body_at kinds.PingResp bytes = end_at bytes >>= λ end. Ok packets.PingResp
body_at kinds.Disconnect bytes = end_at bytes >>= λ end. Ok packets.Disconnect
