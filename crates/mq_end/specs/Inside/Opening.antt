-- The first packet of a connection, as an end reads it (3.1, 3.2).
use Rattle.std.specs.Prelude.{Bool, not, ◌&&◌, if◌then◌else◌, Option, Some, None, [], ◌∷◌, length, ◌==◌}
use Rattle.mq_packet.specs.declared.connect.Connect.{Connect}
use Rattle.mq_packet.specs.declared.connack.ConnAck.{ConnAck}
use Rattle.mq_packet.specs.declared.connack.ConnAck.TheVariants as connacks
use Rattle.mq_packet.specs.declared.connack.RefusalCode.TheVariants.{IdentifierRejected}
use Rattle.mq_packet.specs.declared.packet.Packet.{Packet}
use Rattle.mq_packet.specs.declared.packet.Packet.TheVariants as packets
use Rattle.mq_end.specs.declared.first_packet.Terms.{Terms}
use Rattle.mq_end.specs.End.{End, Reply, becomes_connected, renewed}
use Rattle.mq_end.specs.Server.{refuses}

-- The CONNACK in a packet (3.2).
abbrev pub connack_in : Packet → Option ConnAck
connack_in (packets.ConnAck answer) = Some answer
connack_in packet = None

-- The fields of a CONNECT that determine the response (3.1).
abbrev pub terms_of : Connect → Terms
terms_of connect = record { clean = connect.clean_session; keep_alive = connect.keep_alive; anonymous = length connect.client_id == 0 }

abbrev pub terms_in : Packet → Option Terms
terms_in (packets.Connect connect) = Some (terms_of connect)
terms_in packet = None

-- The response to an accepted CONNECT: CONNACK, and all retransmissions (3.1.4, 4.4).
abbrev pub accepts_connect : Terms → Bool → End → Reply
accepts_connect terms session_present end =
    becomes_connected (packets.ConnAck (connacks.Accepted session_present) ∷ []) session_present (record (renewed terms.clean end) { keep_alive = terms.keep_alive })

-- The server's reaction to a CONNECT with these fields.
abbrev pub terms_get : Terms → End → Reply
terms_get terms end = if not terms.clean && terms.anonymous then refuses IdentifierRejected end else accepts_connect terms (not terms.clean && end.known) end
