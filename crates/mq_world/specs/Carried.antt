-- Stored messages and packets in flight, over every run.
use Rattle.std.specs.Prelude.{ℕ, ◌≡◌, Bool, true, Option, Some, None, List, [], ◌∷◌}
use Rattle.mq_packet.specs.Identifier.{IsIdentifier}
use Rattle.mq_packet.specs.Publication.{fits_delivery}
use Rattle.mq_packet.specs.declared.message.Message.{Message}
use Rattle.mq_packet.specs.declared.publish.Delivery.{Delivery}
use Rattle.mq_packet.specs.declared.packet.Packet.{Packet}
use Rattle.mq_packet.specs.declared.packet.Packet.TheVariants as packets
use Rattle.mq_flow.specs.declared.entry.SenderEntry.{SenderEntry}
use Rattle.mq_end.specs.Both.{has_identifier}
use Rattle.mq_world.specs.Half.{Half, Publishes}
use Rattle.mq_world.specs.Machine.{Machine, Move, By, Run, blank_machine, first_packet}
use Rattle.mq_world.specs.Orders.{Each}

-- An identifier, if there is one, is valid (2.3.1).
abbrev pub IsDelivery : Option Delivery → Type 0
IsDelivery None = Unit {0}
IsDelivery (Some delivery) = IsIdentifier delivery.id

-- the PUBLISH of a message that passes the test (3.3)
abbrev pub IsPublication : (Message → Bool) → Message → Option Delivery → Type 0
IsPublication test message delivery = (test message ≡ true) × (fits_delivery message.qos delivery ≡ true) × IsDelivery delivery

-- A packet that may be in flight: the CONNECT of a new connection (3.1), the PUBLISH of a message
-- that passes the test (3.3), its acknowledgements (3.4 to 3.7), and packets without an identifier.
abbrev pub IsCarried : (Message → Bool) → Packet → Type 0
IsCarried test (packets.Connect connect) = connect ≡ first_packet
IsCarried test (packets.ConnAck answer) = Unit {0}
IsCarried test (packets.Publish packet) = IsPublication test packet.message packet.delivery
IsCarried test (packets.PubAck id) = IsIdentifier id
IsCarried test (packets.PubRec id) = IsIdentifier id
IsCarried test (packets.PubRel id) = IsIdentifier id
IsCarried test (packets.PubComp id) = IsIdentifier id
IsCarried test packets.PingReq = Unit {0}
IsCarried test packets.PingResp = Unit {0}
IsCarried test packets.Disconnect = Unit {0}
-- No side subscribes.
IsCarried test packet = ⊥

-- a message that passes the test is held, with its identifier (4.3.2, 4.3.3)
abbrev pub IsEntry : (Message → Bool) → SenderEntry → Type 0
IsEntry test entry = (test entry.message ≡ true) × (has_identifier entry.message.qos ≡ true) × IsIdentifier entry.id

-- a side holds only such messages, and only such packets are in flight to it
pub record CarriesOnly (test : Message → Bool) (half : Half) : Type 0 where
  pub entries : Each (IsEntry test) half.end.book.entries
  pub released : Each IsIdentifier half.end.book.released
  pub coming : Each (IsCarried test) half.coming

-- only messages that pass the test are published
abbrev pub PublishOnly : (Message → Bool) → List Move → Type 0
PublishOnly test [] = Unit {0}
PublishOnly test (By side (Publishes id message) ∷ moves) = (test message ≡ true) × PublishOnly test moves
PublishOnly test (move ∷ moves) = PublishOnly test moves

-- over every run
abbrev pub CarriedLaw : Type 0
CarriedLaw = (test : Message → Bool) (limit capacity : ℕ) (window : Option ℕ) (moves : List Move) (machine : Machine) → PublishOnly test moves
    → Run limit capacity (blank_machine window) moves machine → CarriesOnly test machine.client × CarriesOnly test machine.server
