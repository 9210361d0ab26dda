-- The calls of a broker to the end of a session: to process a packet, or to answer a request.
use Rattle.std.specs.Prelude.{◌≡◌, None, ℕ, Option, Bool, false, ◌+◌, ◌++◌, option_to_list, List, Result, IsOk, IfOk, OnErr, true, Some}
use Rattle.std.specs.declared.alloc.AllocError.{AllocError}
use Rattle.mq_packet.specs.declared.message.Message.{Message}
use Rattle.mq_packet.specs.declared.publish.Delivery.{Delivery}
use Rattle.mq_packet.specs.declared.packet.Packet.TheVariants as packets
use Rattle.mq_packet.specs.Encoding.{encodings}
use Rattle.mq_end.specs.End.{End, Reply, is_up}
use Rattle.mq_end.specs.Server.{server_gets, subacks, unsubacks, suback_refusal, unsuback_refusal}
use Rattle.mq_end.specs.State.{EndState}
use Rattle.mq_end.specs.Ready.{is_exactly_once, FitsRoom, HasRoom, packets_size}
use Rattle.mq_end.specs.declared.packet_outcome.PacketOutcome.{PacketOutcome}
use Rattle.mq_tables.specs.declared.sessions.call.Call.{Call}
use Rattle.mq_tables.specs.declared.sessions.call.Call.TheVariants.{Takes, Grants, Drops}
use Rattle.mq_tables.specs.declared.sessions.session.BrokerSession.{BrokerSession}
use Rattle.mq_tables.specs.Sessions.{session_at, with_server}

-- the reply of the end: to a packet (3.1 to 3.14), by SUBACK (3.9), by UNSUBACK (3.11)
abbrev pub reply_of : Call → End → Reply
reply_of (Takes now packet) end = server_gets packet end
reply_of (Grants identifier codes) end = subacks identifier codes end
reply_of (Drops identifier) end = unsubacks identifier end

-- the answer is within the size limit (2.2.3)
abbrev pub IsAllowed : Call → EndState → Type 0
IsAllowed (Takes now packet) state = Unit {0}
IsAllowed (Grants identifier codes) state = suback_refusal state.limit.most codes state.end ≡ None
IsAllowed (Drops identifier) state = unsuback_refusal state.limit.most state.end ≡ None

-- the PUBLISH of a message arrives at this time, with this delivery (3.3)
abbrev pub publish_call : ℕ → Message → Option Delivery → Call
publish_call now message delivery = Takes now (packets.Publish (record { message = message; delivery = delivery }))

-- it stores an identifier, of a message of quality of service 2 (4.3.3)
abbrev pub is_storing : Call → Bool
is_storing (Takes now packet) = is_exactly_once packet
is_storing (Grants identifier codes) = false
is_storing (Drops identifier) = false

-- An end made a reply: its packets are queued, and its limits are unchanged.
pub record Replies (reply : Reply) (old new : EndState) : Type 0 where
  pub end : new.end ≡ reply.end
  pub output : new.output ≡ old.output ++ encodings reply.out
  pub capacity : new.capacity ≡ old.capacity
  pub limit : new.limit ≡ old.limit

-- The outcome reports what happened, and why the end closed.
pub record Reports (reply : Reply) (outcome : PacketOutcome) (old new : EndState) : Type 0 where
  pub replies : Replies reply old new
  pub happening : option_to_list outcome.happening ≡ reply.happenings
  pub close : outcome.closed ≡ reply.close

-- An end served a call, or memory ran out and it is unchanged. If the answer fits its room, memory
-- runs out only if an identifier is stored. The room for later messages stays.
pub record Serves (call : Call) (answer : Result PacketOutcome AllocError) (old new : EndState) : Type 0 where
  pub ok : IfOk answer (λ outcome. Reports (reply_of call old.end) outcome old new)
  pub err : OnErr answer (new ≡ old)
  pub within : is_storing call ≡ false → FitsRoom (reply_of call old.end).out old → IsOk answer
  pub kept : (messages : List Message) (more : ℕ) → HasRoom messages (packets_size (reply_of call old.end).out + more) old → HasRoom messages more new

-- the session of a key exists, its end is connected, and the call is allowed
pub record CanServe (key : ℕ) (call : Call) (sessions : List BrokerSession) : Type 0 where
  pub session : BrokerSession
  pub there : session_at key sessions ≡ Some session
  pub up : is_up session.end.end.state ≡ true
  pub allowed : IsAllowed call session.end

-- the end of the session of a key did it, and no other session changed
pub record ServesAt (key : ℕ) (call : Call) (answer : Result PacketOutcome AllocError) (old new : List BrokerSession) : Type 0 where
  pub session : BrokerSession
  pub there : session_at key old ≡ Some session
  pub end : EndState
  pub serves : Serves call answer session.end end
  pub after : new ≡ with_server key end old
