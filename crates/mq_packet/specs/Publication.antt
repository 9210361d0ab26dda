-- The contents of a PUBLISH (3.3).
use Rattle.std.specs.Prelude.{Bool, true, false, Option, Some, None}
use Rattle.mq_topic.specs.declared.qos.Qos.{Qos}
use Rattle.mq_topic.specs.declared.qos.Qos.TheVariants.{Q0, Q1, Q2}
use Rattle.mq_packet.specs.declared.message.Message.{Message}
use Rattle.mq_packet.specs.declared.publish.Delivery.{Delivery}
use Rattle.mq_packet.specs.declared.publish.MessageRef.{MessageRef}

-- A message, and for QoS 1 and 2 the packet identifier and DUP.
pub record Publication : Type 0 where
  pub message : Message
  pub delivery : Option Delivery

-- The same for a borrowed message.
abbrev pub publication : MessageRef → Option Delivery → Publication
publication borrowed delivery = record {
  message = record { topic = borrowed.topic.now; payload = borrowed.payload.now; qos = borrowed.qos; retain = borrowed.retain };
  delivery = delivery;
}

-- A delivery exists exactly if the QoS is 1 or 2 (2.3.1, 3.3.2.2).
abbrev pub fits_delivery : Qos → Option Delivery → Bool
fits_delivery Q0 None = true
fits_delivery Q0 (Some delivery) = false
fits_delivery Q1 None = false
fits_delivery Q1 (Some delivery) = true
fits_delivery Q2 None = false
fits_delivery Q2 (Some delivery) = true
