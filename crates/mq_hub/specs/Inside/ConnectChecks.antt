-- The input of the checks of a CONNECT, and the effect of a refusal (3.1.3.1, 3.1.3.4, 3.2.2.3).
use Rattle.std.specs.Prelude.{◌≡◌, length, ℕ, Option, Some, None, is_some, Bool, [], ◌∷◌, true, false}
use Rattle.mq_packet.specs.declared.connack.ConnAck.TheVariants as connacks
use Rattle.mq_packet.specs.declared.connack.RefusalCode.{RefusalCode}
use Rattle.mq_packet.specs.declared.packet.Packet.TheVariants as packets
use Rattle.mq_packet.specs.declared.packet.Packet.{Packet}
use Rattle.mq_packet.specs.declared.packet.Packet.TheVariants as packets
use Rattle.mq_end.specs.declared.reason.CloseReason.TheVariants as reasons
use Rattle.mq_route.specs.Hub.{HubState, up_on}
use Rattle.mq_route.specs.Welcome.{up_count, ends_with}
use Rattle.mq_route.specs.declared.close.HubClose.TheVariants.{Own}
use Rattle.mq_route.specs.declared.conn.Conn.{Conn}
use Rattle.mq_route.specs.Work.{Work, close, put_on}
use Rattle.mq_hub.specs.declared.connect.check.Counts.{Counts}
use Rattle.mq_hub.specs.declared.connect.check.SessionStatus.{SessionStatus}

-- these are the numbers of a broker
pub record IsCounted (counts : Counts) (hub : HubState) : Type 0 where
  pub up : counts.up ≡ up_count hub.connections
  pub sessions : counts.sessions ≡ length hub.sessions
  pub next_key : counts.next_key ≡ hub.next_key

-- this is the state of a client's session, if it has one
abbrev pub IsStatusOf : Option SessionStatus → Option ℕ → HubState → Type 0
IsStatusOf None None hub = Unit {0}
IsStatusOf (Some status) (Some key) hub = (status.is_up ≡ is_some (up_on key hub.connections)) × (status.ends ≡ ends_with key hub)
IsStatusOf None (Some key) hub = ⊥
IsStatusOf (Some status) None hub = ⊥

-- a CONNECT is refused with this code: CONNACK is queued, and the connection is closed (3.2.2.3)
abbrev pub refused : Conn → RefusalCode → Bool → Work → Work
refused conn code fits work = close conn (Own (reasons.Refused code)) fits (put_on conn (packets.ConnAck (connacks.Refused code) ∷ []) work)

-- a packet is CONNECT, which must be the first one on a connection (3.1)
abbrev pub is_connect : Packet → Bool
is_connect (packets.Connect connect) = true
is_connect packet = false
