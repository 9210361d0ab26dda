-- The cost of incoming bytes to a broker.
use Rattle.std.specs.Prelude.{ℕ, ◌+◌, ◌≤◌, Bool, true, false, List, length, map, filter}
use Rattle.mq_wire.specs.Bytes.{AreBytes}
use Rattle.mq_packet.specs.declared.packet.Packet.{Packet}
use Rattle.mq_packet.specs.declared.packet.Packet.TheVariants as packets
use Rattle.mq_packet.specs.Encoding.{encodings}
use Rattle.mq_route.specs.declared.conn.Conn.{Conn}
use Rattle.mq_route.specs.declared.event.HubEvent.TheVariants.{Bytes}
use Rattle.mq_route.specs.declared.reply.HubReply.{HubReply}
use Rattle.mq_route.specs.Hub.{HubState, held_on}
use Rattle.mq_route.specs.Work.{Work}
use Rattle.mq_route.specs.Step.{Does}

-- every packet but PUBLISH and PUBREL, which carry the broker's own messages (4.3)
abbrev pub is_answer : Packet → Bool
is_answer (packets.Publish packet) = false
is_answer (packets.PubRel identifier) = false
is_answer packet = true

-- the answers among the sent packets, on any connection
abbrev pub answers_in : List (Conn × Packet) → List Packet
answers_in sent = filter is_answer (map (λ x. x.1) sent)

pub record BrokerBounds : Type 0 where
  -- In a step with bytes of a connection, the answers on all connections and the bytes that this
  -- one holds afterwards have at most the length of the bytes that it held and that arrived.
  pub answers : (hub : HubState) (conn : Conn) (piece : List ℕ) (reply : HubReply) (work : Work) → Does hub (Bytes conn piece) reply work
      → length (encodings (answers_in work.sent)) + length (held_on conn work.hub.connections) ≤ length (held_on conn hub.connections) + length piece
  -- The connection holds at most five bytes more than the maximum remaining length (2.2.3).
  pub held : (hub : HubState) (conn : Conn) (piece : List ℕ) (reply : HubReply) (work : Work) → Does hub (Bytes conn piece) reply work → AreBytes (held_on conn hub.connections) → AreBytes piece
      → AreBytes (held_on conn work.hub.connections) × (length (held_on conn work.hub.connections) ≤ 5 + hub.config.limits.most)
