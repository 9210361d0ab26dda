-- Values and packets with the fields that a caller gives (chapter 3).
use Rattle.std.specs.Prelude.{◌≡◌, ℕ, Bool, true, false, List, Option, None, Some}
use Rattle.std.specs.List.{flat_map}
use Rattle.mq_wire.specs.Text.{counted}
use Rattle.mq_topic.specs.Qos.{qos_number}
use Rattle.mq_packet.specs.declared.connack.ConnAck.{ConnAck}
use Rattle.mq_packet.specs.declared.connack.ConnAck.TheVariants.{Accepted, Refused}
use Rattle.mq_packet.specs.declared.connect.Login.{Login}
use Rattle.mq_packet.specs.declared.connect.Will.{Will}
use Rattle.mq_packet.specs.declared.message.Message.{Message}
use Rattle.mq_packet.specs.declared.packet.Packet.{Packet}
use Rattle.mq_packet.specs.declared.packet.Packet.TheVariants as packets
use Rattle.mq_packet.specs.Codes.{refusal_number}
use Rattle.mq_packet.specs.Encoding.{code_fields, request_fields}
use Rattle.mq_bytes.specs.Places.{dup_of, identifier_of}

-- A packet of this type whose only field is this identifier (3.4 to 3.7, 3.11).
abbrev pub IsAcknowledgementOf : ℕ → ℕ → Packet → Type 0
IsAcknowledgementOf kind id (packets.PubAck found) = (kind ≡ 4) × (found ≡ id)
IsAcknowledgementOf kind id (packets.PubRec found) = (kind ≡ 5) × (found ≡ id)
IsAcknowledgementOf kind id (packets.PubRel found) = (kind ≡ 6) × (found ≡ id)
IsAcknowledgementOf kind id (packets.PubComp found) = (kind ≡ 7) × (found ≡ id)
IsAcknowledgementOf kind id (packets.UnsubAck found) = (kind ≡ 11) × (found ≡ id)
IsAcknowledgementOf kind id packet = ⊥

-- A packet of this type without fields (3.12 to 3.14).
abbrev pub IsBareOf : ℕ → Packet → Type 0
IsBareOf kind packets.PingReq = kind ≡ 12
IsBareOf kind packets.PingResp = kind ≡ 13
IsBareOf kind packets.Disconnect = kind ≡ 14
IsBareOf kind packet = ⊥

-- A packet of this type with this identifier and this list, as it is encoded (3.8 to 3.10).
abbrev pub IsListOf : ℕ → ℕ → List ℕ → Packet → Type 0
IsListOf kind id items (packets.Subscribe found requests) =
    (kind ≡ 8) × (found ≡ id) × (flat_map request_fields requests ≡ items)
IsListOf kind id items (packets.SubAck found codes) =
    (kind ≡ 9) × (found ≡ id) × (flat_map code_fields codes ≡ items)
IsListOf kind id items (packets.Unsubscribe found filters) =
    (kind ≡ 10) × (found ≡ id) × (flat_map counted filters ≡ items)
IsListOf kind id items packet = ⊥

-- CONNACK with this Session Present and return code (3.2).
abbrev pub IsAnswerOf : Bool → ℕ → ConnAck → Type 0
IsAnswerOf present code (Accepted session_present) = (session_present ≡ present) × (code ≡ 0)
IsAnswerOf present code (Refused refusal) = (present ≡ false) × (refusal_number refusal ≡ code)

abbrev pub IsConnAckOf : Bool → ℕ → Packet → Type 0
IsConnAckOf present code (packets.ConnAck answer) = IsAnswerOf present code answer
IsConnAckOf present code packet = ⊥

-- The message with these parts (3.3).
abbrev pub IsMessageOf : List ℕ → List ℕ → ℕ → Bool → Message → Type 0
IsMessageOf topic payload qos retain message =
    (message.topic ≡ topic) × (message.payload ≡ payload) × (qos_number message.qos ≡ qos) × (message.retain ≡ retain)

-- PUBLISH of this message, with this DUP and identifier: false and 0 with QoS 0 (3.3).
abbrev pub IsPublishOf : List ℕ → List ℕ → ℕ → Bool → Bool → ℕ → Packet → Type 0
IsPublishOf topic payload qos retain dup id (packets.Publish packet) =
    IsMessageOf topic payload qos retain packet.message
    × (dup_of packet.delivery ≡ dup) × (identifier_of packet.delivery ≡ id)
IsPublishOf topic payload qos retain dup id packet = ⊥

-- The will with these parts (3.1.3.2, 3.1.3.3), if there is one.
abbrev pub IsWillOf : Bool → List ℕ → List ℕ → ℕ → Bool → Option Will → Type 0
IsWillOf there topic payload qos retain None = there ≡ false
IsWillOf there topic payload qos retain (Some will) =
    (there ≡ true) × (will.topic ≡ topic) × (will.message ≡ payload) × (qos_number will.qos ≡ qos)
    × (will.retain ≡ retain)

-- The password (3.1.3.5), if there is one.
abbrev pub IsPasswordOf : Bool → List ℕ → Option (List ℕ) → Type 0
IsPasswordOf there password None = there ≡ false
IsPasswordOf there password (Some found) = (there ≡ true) × (found ≡ password)

-- The user name (3.1.3.4), if there is one, with the password. There is no password alone.
abbrev pub IsLoginOf : Bool → List ℕ → Bool → List ℕ → Option Login → Type 0
IsLoginOf there name has_password password None = (there ≡ false) × (has_password ≡ false)
IsLoginOf there name has_password password (Some login) =
    (there ≡ true) × (login.name ≡ name) × IsPasswordOf has_password password login.password

-- CONNECT with these fields (3.1).
abbrev pub IsConnectOf : List ℕ → ℕ → Bool → (Option Will → Type 0) → (Option Login → Type 0) → Packet → Type 0
IsConnectOf client_id keep_alive clean IsWill IsLogin (packets.Connect connect) =
    (connect.client_id ≡ client_id) × (connect.keep_alive ≡ keep_alive) × (connect.clean_session ≡ clean)
    × IsWill connect.will × IsLogin connect.login
IsConnectOf client_id keep_alive clean IsWill IsLogin packet = ⊥
