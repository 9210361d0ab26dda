-- The remaining length of a packet that a call sends is the length of its fields (2.2.3).
use Rattle.std.specs.Prelude.{◌≡◌, ℕ, true, List, length, Option}
use Rattle.mq_packet.specs.declared.message.Message.{Message}
use Rattle.mq_packet.specs.declared.publish.Delivery.{Delivery}
use Rattle.mq_packet.specs.declared.packet.Request.{Request}
use Rattle.mq_packet.specs.declared.packet.SubAckCode.{SubAckCode}
use Rattle.mq_packet.specs.declared.packet.Packet.TheVariants as packets
use Rattle.mq_packet.specs.Publication.{fits_delivery}
use Rattle.mq_packet.specs.Encoding.{fields}
use Rattle.mq_end.specs.Sizes.{publish_size, subscribe_size, unsubscribe_size, suback_size, unsuback_size}

pub record SizeLaws : Type 0 where
  pub publish : (message : Message) (delivery : Option Delivery) → fits_delivery message.qos delivery ≡ true
      → length (fields (packets.Publish (record { message = message; delivery = delivery }))) ≡ publish_size message
  pub subscribe : (id : ℕ) (requests : List Request) → length (fields (packets.Subscribe id requests)) ≡ subscribe_size requests
  pub unsubscribe : (id : ℕ) (filters : List (List ℕ)) → length (fields (packets.Unsubscribe id filters)) ≡ unsubscribe_size filters
  pub suback : (id : ℕ) (codes : List SubAckCode) → length (fields (packets.SubAck id codes)) ≡ suback_size codes
  pub unsuback : (id : ℕ) → length (fields (packets.UnsubAck id)) ≡ unsuback_size
