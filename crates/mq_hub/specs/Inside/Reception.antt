-- The classes of a PUBLISH at a connected end (3.3, 4.3).
use Rattle.std.specs.Prelude.{Bool, true, false, ◌≡◌, [], ◌∷◌, None, ℕ, List, Option, Some}
use Rattle.mq_packet.specs.declared.packet.Packet.TheVariants as packets
use Rattle.mq_packet.specs.Publication.{Publication}
use Rattle.mq_end.specs.declared.happening.Happening.TheVariants as happens
use Rattle.mq_end.specs.declared.reason.CloseReason.TheVariants as reasons
use Rattle.mq_end.specs.End.{End, closes, is_up}
use Rattle.mq_end.specs.Server.{server_gets}
use Rattle.mq_tables.specs.declared.sessions.session.BrokerSession.{BrokerSession}
use Rattle.mq_tables.specs.Sessions.{session_at}
use Rattle.mq_hub.specs.declared.publish.reception.Reception.{Reception}
use Rattle.mq_hub.specs.declared.publish.reception.Reception.TheVariants.{New, Duplicate, WindowFull}

-- with quality of service 2: by whether its identifier fits the window, and whether it is stored
-- (4.3.3)
abbrev pub by_identifier : Bool → Bool → Reception
by_identifier false stored = WindowFull
by_identifier true true = Duplicate
by_identifier true false = New

-- The class of a PUBLISH agrees with the end's reply: it delivers the message, or reports nothing
-- of it, or closes and sends nothing.
abbrev pub IsReceived : Reception → Publication → End → Type 0
IsReceived New publication end =
    ((server_gets (packets.Publish publication) end).close ≡ None) × ((server_gets (packets.Publish publication) end).happenings ≡ happens.Handed publication.message ∷ [])
IsReceived Duplicate publication end = ((server_gets (packets.Publish publication) end).close ≡ None) × ((server_gets (packets.Publish publication) end).happenings ≡ [])
IsReceived WindowFull publication end = server_gets (packets.Publish publication) end ≡ closes reasons.Window end

-- the session of a key exists, and its end is connected, with a receive window of this size
pub record CanReceive (key : ℕ) (places : Option ℕ) (sessions : List BrokerSession) : Type 0 where
  pub session : BrokerSession
  pub there : session_at key sessions ≡ Some session
  pub up : is_up session.end.end.state ≡ true
  pub known : session.end.end.known ≡ true
  pub window : session.end.end.window ≡ places
