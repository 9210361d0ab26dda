-- Publishing a message (3.3, 4.3).
use Rattle.std.specs.Prelude.{◌≡◌, ℕ, ◌-◌, Bool, true, if◌then◌else◌, Option}
use Rattle.mq_topic.specs.declared.qos.Qos.{Qos}
use Rattle.mq_packet.specs.declared.message.Message.{Message}
use Rattle.mq_packet.specs.declared.connect.Connect.{Connect}
use Rattle.mq_flow.specs.Sender.{IsFirstFree}
use Rattle.mq_end.specs.declared.config.ClientConfig.{ClientConfig}
use Rattle.mq_end.specs.Both.{publishes, has_identifier, answered_identifier}
use Rattle.mq_end.specs.State.{EndState, PutsOut, Room}

-- the room of an end that accepted a message of this quality of service: one with an identifier
-- takes a place
abbrev pub room_left : Qos → Room → Room
room_left qos room = record room { messages = if has_identifier qos then room.messages - 1 else room.messages }

-- A message is accepted. The call returns its identifier if it has QoS 1 or 2: the first free one
-- after the one assigned last (2.3.1). A connected end sends it at once.
pub record Accepts (answer : Option ℕ) (message : Message) (old new : EndState) : Type 0 where
  pub id : ℕ
  pub answered : answer ≡ answered_identifier message.qos id
  pub first : has_identifier message.qos ≡ true → IsFirstFree old.end.last old.end.book id
  pub out : PutsOut (publishes id message old.end).out old.output new.output
  pub state : new ≡ record old { end = (publishes id message old.end).end; output = new.output; room = room_left message.qos old.room }

-- the CONNECT of a client, with clean session or not (3.1)
abbrev pub connect_of : ClientConfig → Bool → Connect
connect_of config clean = record { client_id = config.id; clean_session = clean; keep_alive = config.keep_alive; will = config.will; login = config.login }

-- A client end as contracts see it: the end, and its configuration.
pub record ClientState : Type 0 where
  pub link : EndState
  pub config : ClientConfig
