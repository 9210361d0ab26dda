-- One side of the machine: its end, the queue of packets toward it, and the lists of the run; and
-- its moves.
use Rattle.std.specs.Prelude.{ℕ, ◌+◌, ◌≡◌, Bool, true, false, ◌||◌, if◌then◌else◌, Option, None, List, [], ◌∷◌, ◌++◌, ◌==◌}
use Rattle.mq_topic.specs.declared.qos.Qos.{Qos}
use Rattle.mq_topic.specs.declared.qos.Qos.TheVariants.{Q0, Q1, Q2}
use Rattle.mq_packet.specs.declared.message.Message.{Message}
use Rattle.mq_packet.specs.declared.packet.Packet.{Packet}
use Rattle.mq_packet.specs.declared.packet.Packet.TheVariants as packets
use Rattle.mq_flow.specs.Sender.{same_qos}
use Rattle.mq_end.specs.declared.state.State.{State}
use Rattle.mq_end.specs.declared.state.State.TheVariants.{Disconnected, Connecting, Connected}
use Rattle.mq_end.specs.declared.happening.Happening.{Happening}
use Rattle.mq_end.specs.declared.happening.Happening.TheVariants as happens
use Rattle.mq_end.specs.declared.refusal.PublishRefusal.{PublishRefusal}
use Rattle.mq_end.specs.End.{End, Reply, blank_end, is_up, drops}
use Rattle.mq_end.specs.Both.{publishes, publish_refusal, has_identifier}
use Rattle.mq_end.specs.Client.{client_gets, leaves, leave_refusal}
use Rattle.mq_end.specs.Server.{server_gets, server_publish_refusal}
use Rattle.mq_end.specs.Laws.{MayHave}
use Rattle.mq_world.specs.declared.side.Side.{Side}
use Rattle.mq_world.specs.declared.side.Side.TheVariants.{Client, Server}

-- The messages that a side accepted from its user, in order, by quality of service (4.3); those of
-- quality of service 1 with the identifiers that it gave them.
pub record Accepted : Type 0 where
  pub at_most_once : List Message
  pub at_least_once : List (ℕ × Message)
  pub exactly_once : List Message

-- The messages that a side delivered to its user, in order, by QoS (4.3).
pub record HandedOn : Type 0 where
  pub at_most_once : List Message
  pub at_least_once : List Message
  pub exactly_once : List Message

-- A side: its end; the queue of packets toward it, the oldest first (4.6); and of the run so far
-- the messages that it accepted, those that it delivered, and the places, among its accepted QoS 1
-- messages, of those that were acknowledged to it (4.3.2).
pub record Half : Type 0 where
  pub end : End
  pub coming : List Packet
  pub accepted : Accepted
  pub handed : HandedOn
  pub freed : List ℕ

-- No message was accepted, and none delivered.
abbrev pub none_accepted : Accepted
none_accepted = record { at_most_once = []; at_least_once = []; exactly_once = [] }

abbrev pub none_handed : HandedOn
none_handed = record { at_most_once = []; at_least_once = []; exactly_once = [] }

-- A side with this receive window: no session, no connection, no message accepted or delivered.
abbrev pub blank_half : Option ℕ → Half
blank_half window = record { end = blank_end window; coming = []; accepted = none_accepted; handed = none_handed; freed = [] }

-- ---- queues

-- The packets that join the queue toward a side; packets toward a closed one are lost (4.2).
abbrev pub joined : {A : Type 0} → State → List A → List A → List A
joined Disconnected queue more = queue
joined Connecting queue more = queue ++ more
joined Connected queue more = queue ++ more

-- an end that closes leaves nothing in the queue toward it (4.2)
abbrev pub kept : State → List Packet → List Packet
kept Disconnected queue = []
kept Connecting queue = queue
kept Connected queue = queue

-- packets are put into the queue toward a side
abbrev pub put : List Packet → Half → Half
put more half = record half { coming = joined half.end.state half.coming more }

-- ---- the lists of the run

-- The messages of one QoS (4.3), behind the reported ones.
abbrev pub told : Qos → List Happening → List Message → List Message
told qos [] messages = messages
told qos (happens.Handed message ∷ rest) messages = told qos rest (if same_qos qos message.qos then messages ++ message ∷ [] else messages)
told qos (happening ∷ rest) messages = told qos rest messages

-- An identifier occurs in a list of pairs.
abbrev pub is_given : ℕ → List (ℕ × Message) → Bool
is_given id [] = false
is_given id (pair ∷ rest) = pair.0 == id || is_given id rest

-- the place of the last pair with an identifier
abbrev pub last_place : ℕ → List (ℕ × Message) → ℕ
last_place id [] = 0
last_place id (pair ∷ rest) = if is_given id rest then last_place id rest + 1 else 0

-- the places freed, after those of these identifiers
abbrev pub freed_with : List (ℕ × Message) → List ℕ → List ℕ → List ℕ
freed_with given [] places = places
freed_with given (id ∷ rest) places = freed_with given rest (places ++ last_place id given ∷ [])

-- the messages accepted, by quality of service (4.3), with one more
abbrev pub accepted_with : Qos → ℕ → Message → Accepted → Accepted
accepted_with Q0 id message accepted = record accepted { at_most_once = accepted.at_most_once ++ message ∷ [] }
accepted_with Q1 id message accepted = record accepted { at_least_once = accepted.at_least_once ++ (id, message) ∷ [] }
accepted_with Q2 id message accepted = record accepted { exactly_once = accepted.exactly_once ++ message ∷ [] }

-- ---- moves

-- A side after its move, and the packets that it sends.
pub record Outcome : Type 0 where
  pub half : Half
  pub out : List Packet

-- a side after its end's reply, with this left in the queue toward it
abbrev pub took : Half → List Packet → Reply → Outcome
took half rest reply = record {
  half = record half {
    end = reply.end;
    coming = kept reply.end.state rest;
    handed = record {
      at_most_once = told Q0 reply.happenings half.handed.at_most_once;
      at_least_once = told Q1 reply.happenings half.handed.at_least_once;
      exactly_once = told Q2 reply.happenings half.handed.exactly_once;
    };
    freed = freed_with half.accepted.at_least_once reply.freed half.freed;
  };
  out = reply.out;
}

-- A packet arrives at the end of a side.
abbrev pub gets : Side → Packet → End → Reply
gets Client packet end = client_gets packet end
gets Server packet end = server_gets packet end

-- the oldest packet of the queue comes (4.6)
abbrev pub arrival : List Packet → Side → Half → Outcome
arrival [] side half = record { half = half; out = [] }
arrival (packet ∷ rest) side half = took half rest (gets side packet half.end)

-- A message is accepted, under this identifier if it has one (2.3.1, 4.3).
abbrev pub publication : ℕ → Message → Half → Outcome
publication id message half = record {
  half = record half { end = (publishes id message half.end).end; accepted = accepted_with message.qos id message half.accepted };
  out = (publishes id message half.end).out;
}

-- The actions of one side.
pub data Action : Type 0 where
  -- Its user publishes a message, under this identifier if it has one.
  Publishes : (id : ℕ) (message : Message) → Action
  -- the oldest packet of the queue toward it arrives
  Arrives : Action
  -- its connection is lost
  Drops : Action
  -- the client leaves
  Leaves : Action
  -- The client sends PINGREQ.
  Pings : Action

-- why the end of a side refuses a message
abbrev pub refusal : Side → ℕ → ℕ → Message → End → Option PublishRefusal
refusal Client limit capacity message end = publish_refusal limit capacity message end
refusal Server limit capacity message end = server_publish_refusal limit capacity message end

-- When it may: a message is not refused, and an identifier that it is given is free. A packet may
-- come at any time, a connection may be lost at any time.
abbrev pub May : ℕ → ℕ → Side → Action → Half → Type 0
May limit capacity side (Publishes id message) half = (refusal side limit capacity message half.end ≡ None) × MayHave (has_identifier message.qos) half.end id
May limit capacity side Arrives half = Unit {0}
May limit capacity side Drops half = Unit {0}
May limit capacity Client Leaves half = leave_refusal half.end ≡ None
May limit capacity Server Leaves half = ⊥
May limit capacity Client Pings half = is_up half.end.state ≡ true
May limit capacity Server Pings half = ⊥

-- The effect of an action.
abbrev pub moved : Side → Action → Half → Outcome
moved side (Publishes id message) half = publication id message half
moved side Arrives half = arrival half.coming side half
moved side Drops half = took half [] (drops half.end)
moved side Leaves half = took half [] (leaves half.end)
moved side Pings half = record { half = half; out = packets.PingReq ∷ [] }
