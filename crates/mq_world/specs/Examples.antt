-- Runs that the machine has.
use Rattle.std.specs.Prelude.{◌≡◌, true, false, Some, None, List, [], ◌∷◌}
use Rattle.mq_topic.specs.declared.qos.Qos.TheVariants.{Q1, Q2}
use Rattle.mq_packet.specs.declared.message.Message.{Message}
use Rattle.mq_end.specs.declared.state.State.TheVariants.{Connected}
use Rattle.mq_end.specs.declared.refusal.PublishRefusal.TheVariants.{NoSession}
use Rattle.mq_world.specs.declared.side.Side.TheVariants.{Client, Server}
use Rattle.mq_world.specs.Half.{Publishes, Arrives, Drops, refusal}
use Rattle.mq_world.specs.Machine.{Machine, Move, By, Opens, after, Run, blank_machine}
use Rattle.mq_world.specs.Settling.{settled}

-- the machine after moves
abbrev pub after_all : Machine → List Move → Machine
after_all machine [] = machine
after_all machine (move ∷ moves) = after_all (after machine move) moves

-- a connection is opened, CONNECT arrives, CONNACK arrives (3.1, 3.2), and these moves follow
abbrev pub handshake : List Move → List Move
handshake moves = Opens ∷ By Server Arrives ∷ By Client Arrives ∷ moves

-- a message of quality of service 1
abbrev pub word_1 : Message
word_1 = record { topic = 116 ∷ []; payload = 120 ∷ []; qos = Q1; retain = false }

-- a message of quality of service 2
abbrev pub word_2 : Message
word_2 = record { topic = 116 ∷ []; payload = 120 ∷ []; qos = Q2; retain = false }

-- A QoS 2 message arrives at the server, and the client drops the connection before PUBREC arrives
-- (4.3.3).
abbrev pub pubrec_lost : List Move
pubrec_lost = handshake (By Client (Publishes 1 word_2) ∷ By Server Arrives ∷ By Client Drops ∷ [])

-- A QoS 1 message arrives at the server, and the client drops the connection before PUBACK arrives
-- (4.3.2).
abbrev pub puback_lost : List Move
puback_lost = handshake (By Client (Publishes 1 word_1) ∷ By Server Arrives ∷ By Client Drops ∷ [])

-- the server takes CONNECT in, and the client drops before CONNACK arrives (3.2)
abbrev pub dropped_inside : List Move
dropped_inside = Opens ∷ By Server Arrives ∷ By Client Drops ∷ []

-- The machine has these runs, with these results.
pub record Examples : Type 0 where
  -- PUBREC lost: delivered once, before and after settling.
  pub pubrec_lost_runs : Run 100 4 (blank_machine None) pubrec_lost (after_all (blank_machine None) pubrec_lost)
  pub pubrec_lost_before : (after_all (blank_machine None) pubrec_lost).server.handed.exactly_once ≡ word_2 ∷ []
  pub pubrec_lost_after : (settled (after_all (blank_machine None) pubrec_lost)).server.handed.exactly_once ≡ word_2 ∷ []
  -- PUBACK lost: delivered twice after settling.
  pub puback_lost_runs : Run 100 4 (blank_machine None) puback_lost (after_all (blank_machine None) puback_lost)
  pub puback_lost_before : (after_all (blank_machine None) puback_lost).server.handed.at_least_once ≡ word_1 ∷ []
  pub puback_lost_after : (settled (after_all (blank_machine None) puback_lost)).server.handed.at_least_once ≡ word_1 ∷ word_1 ∷ []
  -- a drop inside the handshake: the server has a session, the client has none that is established;
  -- it continues all the same
  pub dropped_inside_runs : Run 100 4 (blank_machine None) dropped_inside (after_all (blank_machine None) dropped_inside)
  pub dropped_inside_server : (after_all (blank_machine None) dropped_inside).server.end.known ≡ true
  pub dropped_inside_client : (after_all (blank_machine None) dropped_inside).client.end.known ≡ false
  pub dropped_inside_after : (settled (after_all (blank_machine None) dropped_inside)).client.end.state ≡ Connected
  -- A server's message is refused while the client has no session, and accepted afterwards.
  pub refused_before : refusal Server 100 4 word_2 (blank_machine None).server.end ≡ Some NoSession
  pub accepted_after : Run 100 4 (blank_machine None) (Opens ∷ By Server Arrives ∷ By Server (Publishes 1 word_2) ∷ [])
      (after_all (blank_machine None) (Opens ∷ By Server Arrives ∷ By Server (Publishes 1 word_2) ∷ []))
