-- The bounds are sharp: an end that sends a second answer breaks them.
use Rattle.std.specs.Prelude.{◌≡◌, ℕ, true, false, Some, [], ◌∷◌}
use Rattle.mq_topic.specs.declared.qos.Qos.TheVariants.{Q2}
use Rattle.mq_packet.specs.declared.packet.Packet.{Packet}
use Rattle.mq_packet.specs.declared.packet.Packet.TheVariants as packets
use Rattle.mq_packet.specs.Identifier.{IsIdentifier}
use Rattle.mq_end.specs.End.{End, Reply, sends_packets}
use Rattle.mq_route.specs.Bounds.Ends.{PacketBounds}

-- a PUBLISH of QoS 2 that is sent again, with topic name `t` and an empty payload
abbrev pub duplicate : ℕ → Packet
duplicate identifier = packets.Publish (record {
  message = record { topic = 116 ∷ []; payload = []; qos = Q2; retain = false };
  delivery = Some (record { id = identifier; dup = true });
})

pub record SharpLaws : Type 0 where
  -- two PUBCOMPs for a PUBREL (4.3.3)
  pub pubrel_twice : (gets : Packet → End → Reply) (end later : End) (identifier : ℕ) → IsIdentifier identifier
      → gets (packets.PubRel identifier) end ≡ sends_packets (packets.PubComp identifier ∷ packets.PubComp identifier ∷ []) later → PacketBounds gets → ⊥
  -- two PUBRECs for a PUBLISH that is sent again (4.3.3)
  pub pubrec_twice : (gets : Packet → End → Reply) (end later : End) (identifier : ℕ) → IsIdentifier identifier
      → gets (duplicate identifier) end ≡ sends_packets (packets.PubRec identifier ∷ packets.PubRec identifier ∷ []) later → PacketBounds gets → ⊥
