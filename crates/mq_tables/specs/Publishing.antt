-- Room for messages in the ends of sessions, and publishing them (3.3.5, 3.8.4).
use Rattle.std.specs.Prelude.{◌≡◌, ◌≤◌, true, false, ℕ, List, None, Some, ⊤, IfSome, IfNone, Result, Err, OnOk, IfErr, map, ◌++◌, ◌==◌, if◌then◌else◌}
use Rattle.mq_packet.specs.declared.message.Message.{Message}
use Rattle.mq_packet.specs.Encoding.{encodings}
use Rattle.mq_end.specs.Both.{has_identifier}
use Rattle.mq_end.specs.End.{is_up}
use Rattle.mq_end.specs.Sizes.{publish_size}
use Rattle.mq_end.specs.State.{EndState, no_room}
use Rattle.mq_end.specs.Ready.{HasRoom}
use Rattle.mq_end.specs.Server.{ready_refusal}
use Rattle.mq_end.specs.declared.refusal.PublishRefusal.{PublishRefusal}
use Rattle.mq_end.specs.declared.refusal.PublishRefusal.TheVariants as refusals
use Rattle.mq_end.specs.Publishing.{room_left}
use Rattle.mq_route.specs.Work.{publishes_next}
use Rattle.mq_tables.specs.declared.sessions.session.BrokerSession.{BrokerSession}
use Rattle.mq_tables.specs.Sessions.{session_at, with_server}

-- ---- room for them

-- A message may be sent by a session, given free identifiers and memory. The session is known
-- (3.1.2.4), its client is connected if the message has quality of service 0 (4.3.1), and the
-- PUBLISH is within the size limit (2.2.3).
pub record MayGo (message : Message) (state : EndState) : Type 0 where
  pub known : state.end.known ≡ true
  pub up : has_identifier message.qos ≡ false → is_up state.end.state ≡ true
  pub fits : publish_size message ≤ state.limit.most

-- An end has room for messages and for `more` bytes besides, and refuses none of the messages.
pub record IsReady (messages : List Message) (more : ℕ) (state : EndState) : Type 0 where
  pub accepted : ready_refusal state.limit.most state.capacity messages state.end ≡ None
  pub room : HasRoom messages more state

-- the session of a key exists, and its end has this room
pub record IsReadyAt (key : ℕ) (messages : List Message) (more : ℕ) (sessions : List BrokerSession) : Type 0 where
  pub session : BrokerSession
  pub there : session_at key sessions ≡ Some session
  pub ready : IsReady messages more session.end

-- Making room in an end for messages and for `more` bytes besides: the first failing check is
-- reported, or a failed allocation, or the end has the room. Nothing else of the end changes, and
-- earlier room stays.
pub record Readies (messages : List Message) (more : ℕ) (answer : Result ⊤ PublishRefusal) (old new : EndState) : Type 0 where
  pub refused : IfSome (ready_refusal old.limit.most old.capacity messages old.end) (λ why. answer ≡ Err why)
  pub memory : IfNone (ready_refusal old.limit.most old.capacity messages old.end) (IfErr answer (λ why. why ≡ refusals.Memory))
  pub room : OnOk answer (HasRoom messages more new)
  pub same : new ≡ record old { room = new.room }
  pub before : (others : List Message) (extra : ℕ) → HasRoom others extra old → HasRoom others extra new

-- Making room in the end of the session of a key.
pub record ReadiesAt (key : ℕ) (messages : List Message) (more : ℕ) (answer : Result ⊤ PublishRefusal) (old new : List BrokerSession) : Type 0 where
  pub session : BrokerSession
  pub there : session_at key old ≡ Some session
  pub end : EndState
  pub readies : Readies messages more answer session.end end
  pub after : new ≡ with_server key end old

-- a session, its room disregarded
abbrev pub roomless : BrokerSession → BrokerSession
roomless session = record session { end = record session.end { room = no_room } }

-- the sessions are the same, except for room
abbrev pub AreSameButRoom : List BrokerSession → List BrokerSession → Type 0
AreSameButRoom old new = map roomless new ≡ map roomless old

-- each session that had room has it still
abbrev pub AreStillReady : List BrokerSession → List BrokerSession → Type 0
AreStillReady old new = (key : ℕ) (messages : List Message) (more : ℕ) → IsReadyAt key messages more old → IsReadyAt key messages more new

-- ---- placing

-- an end after it published a message, with the next identifier (2.3.1): the packets are queued
abbrev pub published : Message → EndState → EndState
published message state = record state {
  end = (publishes_next message state.end).end;
  output = state.output ++ encodings (publishes_next message state.end).out;
  room = room_left message.qos state.room;
}

abbrev pub publishing : ℕ → Message → BrokerSession → BrokerSession
publishing key message session = if session.key == key then record session { end = published message session.end } else session

-- the sessions after that of a key published a message
abbrev pub placed_at : ℕ → Message → List BrokerSession → List BrokerSession
placed_at key message sessions = map (publishing key message) sessions
