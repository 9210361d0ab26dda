-- The reaction of an open end to received bytes, cut anywhere (4.2, 4.6, 4.8).
use Rattle.std.specs.Prelude.{◌≡◌, ◌⊎◌, ℕ, ◌<◌, List, [], ◌∷◌, ◌++◌, length, Option, Some, None, IsSome, option_to_list, Result, Ok, Err}
use Rattle.mq_packet.specs.declared.message.Message.{Message}
use Rattle.mq_packet.specs.declared.packet.Packet.{Packet}
use Rattle.mq_decode.specs.declared.fault.DecodeFault.{DecodeFault}
use Rattle.mq_decode.specs.Limits.{Bounds}
use Rattle.mq_decode.specs.Grammar.{Stream, Pending, Faulty}
use Rattle.mq_end.specs.declared.publish_outcome.PublishOutcome.{PublishOutcome}
use Rattle.mq_end.specs.declared.publish_outcome.PublishOutcome.TheVariants as handings
use Rattle.mq_end.specs.declared.happening.Happening.{Happening}
use Rattle.mq_end.specs.declared.happening.Happening.TheVariants as happens
use Rattle.mq_end.specs.declared.reason.CloseReason.{CloseReason}
use Rattle.mq_end.specs.declared.packet_outcome.PacketOutcome.{PacketOutcome}
use Rattle.mq_end.specs.declared.role.Role.{Role}
use Rattle.mq_end.specs.declared.role.Role.TheVariants.{Client, Server}
use Rattle.mq_end.specs.declared.progress_builder.ProgressBuilder.{ProgressBuilder}
use Rattle.mq_end.specs.declared.reason.CloseReason.TheVariants as reasons
use Rattle.mq_end.specs.End.{End, Reply, closes, followed, one_by_one}
use Rattle.mq_end.specs.Client.{client_gets}
use Rattle.mq_end.specs.Server.{server_gets}
use Rattle.mq_end.specs.State.{EndState, PutsOut, client_faulted, server_faulted}

-- How it ends. `first` is the reply to the complete packets, `rest` the bytes behind them, `reply`
-- the whole reply, and `held` the bytes that the end then holds.
pub data Ending (limit : Bounds) (faulted : DecodeFault → End → Reply) (first : Reply) (rest : List ℕ) (reply : Reply) (held : List ℕ) : Type 0 where
  -- the rest is an incomplete packet, and is held
  Waits : Pending limit rest → first.close ≡ None → reply ≡ first → held ≡ rest → Ending limit faulted first rest reply held
  -- the end closed at the last of these packets
  Closes : (reason : CloseReason) → first.close ≡ Some reason → reply ≡ first → held ≡ [] → Ending limit faulted first rest reply held
  -- the rest is not a packet (4.8)
  Breaks : (fault : DecodeFault) → Faulty limit rest fault.kind fault.place → first.close ≡ None → reply ≡ followed first (faulted fault first.end) → held ≡ []
      → Ending limit faulted first rest reply held
  -- memory ran out before all was processed
  Starves : 0 < length rest → first.close ≡ None → reply ≡ followed first (closes reasons.Memory first.end) → held ≡ [] → Ending limit faulted first rest reply held

-- The bytes held before and the new ones are whole packets, which come one after another, up to the
-- first at which the end closes, and a rest.
pub record Receives (limit : Bounds) (gets : Packet → End → Reply) (faulted : DecodeFault → End → Reply) (bytes : List ℕ) (end : End) (reply : Reply) (held : List ℕ) : Type 0 where
  pub packets : List Packet
  pub front : List ℕ
  pub rest : List ℕ
  pub stream : Stream limit packets front
  pub parts : bytes ≡ front ++ rest
  pub ending : Ending limit faulted (one_by_one gets packets end) rest reply held

-- A reply as the user of an end sees it: the end after it, its output, its events, the acknowledged
-- identifiers, and the reason if it closed. The reserved room stays.
pub record Shows (reply : Reply) (old new : EndState) (happenings : List Happening) (acknowledged : List ℕ) (closed : Option CloseReason) : Type 0 where
  pub after : new.end ≡ reply.end
  pub out : PutsOut reply.out old.output new.output
  pub room : new.room ≡ old.room
  pub told : happenings ≡ reply.happenings
  pub freed : acknowledged ≡ reply.freed
  pub close : closed ≡ reply.close

-- the client receives bytes
abbrev pub ClientReceives : List ℕ → EndState → EndState → List Happening → List ℕ → Option CloseReason → Type 0
ClientReceives piece old new happenings acknowledged closed = (reply : Reply)
    × Receives old.limit client_gets client_faulted (old.held ++ piece) old.end reply new.held
    × Shows reply old new happenings acknowledged closed

-- the server receives bytes
abbrev pub ServerReceives : List ℕ → EndState → EndState → List Happening → List ℕ → Option CloseReason → Type 0
ServerReceives piece old new happenings acknowledged closed = (reply : Reply)
    × Receives old.limit server_gets server_faulted (old.held ++ piece) old.end reply new.held
    × Shows reply old new happenings acknowledged closed

-- The server's time of the last complete packet after bytes that arrive now; `bytes` is the bytes
-- held before, followed by these. Less than a complete packet changes nothing, and an end that
-- closes keeps its time (3.1.2.10).
pub record HearsAt (now : ℕ) (bytes : List ℕ) (closed : Option CloseReason) (old new : EndState) : Type 0 where
  pub waits : Pending old.limit bytes → new.last_activity ≡ old.last_activity
  pub closes : IsSome closed → new.last_activity ≡ old.last_activity
  pub hears : closed ≡ None → ¬ Pending old.limit bytes → new.last_activity ≡ now

-- The time of last activity of an end of this role after bytes that arrive now; the client's does
-- not depend on received packets (3.1.2.10).
abbrev pub HeardAs : Role → ℕ → List ℕ → Option CloseReason → EndState → EndState → Type 0
HeardAs Client now bytes closed old new = new.last_activity ≡ old.last_activity
HeardAs Server now bytes closed old new = HearsAt now bytes closed old new

-- ---- Packets while an allocation may fail

-- A closed end holds no bytes.
abbrev pub held_after : Option CloseReason → List ℕ → List ℕ
held_after None held = held
held_after (Some reason) held = []

-- A reply without events is made: the end after it, and its packets are sent.
pub record Acts (reply : Reply) (old new : EndState) : Type 0 where
  pub out : PutsOut reply.out old.output new.output
  pub state : new ≡ record old { end = reply.end; output = new.output; held = held_after reply.close old.held }

-- A reply is made: the end after it, its packets are sent, and the outcome has its event.
pub record Gives (reply : Reply) (outcome : PacketOutcome) (old new : EndState) : Type 0 where
  pub out : PutsOut reply.out old.output new.output
  pub state : new ≡ record old { end = reply.end; output = new.output; held = held_after reply.close old.held }
  pub happening : option_to_list outcome.happening ≡ reply.happenings
  pub acknowledged : option_to_list outcome.acknowledged ≡ reply.freed
  pub close : outcome.closed ≡ reply.close

-- A reply is made: the end after it, its packets are sent, and its events come behind the earlier
-- ones.
pub record Makes (reply : Reply) (old new : EndState) (told now : ProgressBuilder) : Type 0 where
  pub out : PutsOut reply.out old.output new.output
  pub state : new ≡ record old { end = reply.end; output = new.output; held = held_after reply.close old.held }
  pub happenings : now.happenings.items ≡ told.happenings.items ++ reply.happenings
  pub acknowledged : now.acknowledged.items ≡ told.acknowledged.items ++ reply.freed

-- nothing happens, since memory ran out
pub record Stays (old new : EndState) (told now : ProgressBuilder) : Type 0 where
  pub state : new ≡ old
  pub happenings : now.happenings.items ≡ told.happenings.items
  pub acknowledged : now.acknowledged.items ≡ told.acknowledged.items

-- The reaction to packets, one after another: to all of them, to those up to one at which the end
-- closes, or to those before one for which an allocation fails.
pub data Taken (gets : Packet → End → Reply) (packets : List Packet) (end : End) (reply : Reply) : Type 0 where
  TakesAll : (one_by_one gets packets end).close ≡ None → reply ≡ one_by_one gets packets end → Taken gets packets end reply
  Closed : (first rest : List Packet) (reason : CloseReason) → packets ≡ first ++ rest → (one_by_one gets first end).close ≡ Some reason → reply ≡ one_by_one gets first end
      → Taken gets packets end reply
  Starved : (first rest : List Packet) (packet : Packet) → packets ≡ first ++ packet ∷ rest → (one_by_one gets first end).close ≡ None
      → reply ≡ followed (one_by_one gets first end) (closes reasons.Memory (one_by_one gets first end).end) → Taken gets packets end reply

-- The reaction of an end of this role to a packet, and to a malformed one.
abbrev pub gets_as : Role → Packet → End → Reply
gets_as Client packet end = client_gets packet end
gets_as Server packet end = server_gets packet end

abbrev pub faulted_as : Role → DecodeFault → End → Reply
faulted_as Client fault end = client_faulted fault end
faulted_as Server fault end = server_faulted fault end

-- The reaction of an end with a connection to received bytes.
pub record Hears (role : Role) (now : ℕ) (piece : List ℕ) (old new : EndState) (told after : ProgressBuilder) (closed : Option CloseReason) : Type 0 where
  pub reply : Reply
  pub receives : Receives old.limit (gets_as role) (faulted_as role) (old.held ++ piece) old.end reply new.held
  pub out : PutsOut reply.out old.output new.output
  pub state : new ≡ record old { end = reply.end; output = new.output; held = new.held; last_activity = new.last_activity }
  pub heard : HeardAs role now (old.held ++ piece) closed old new
  pub happenings : after.happenings.items ≡ told.happenings.items ++ reply.happenings
  pub acknowledged : after.acknowledged.items ≡ told.acknowledged.items ++ reply.freed
  pub close : closed ≡ reply.close

-- The time of a server's last complete packet after one that arrives now, unless the end closed
-- (3.1.2.10).
abbrev pub heard_one : Option CloseReason → ℕ → ℕ → ℕ
heard_one None now last = now
heard_one (Some reason) now last = last

-- The time of last activity of an end of this role after a packet that arrives now; the client's
-- does not depend on it (3.1.2.10).
abbrev pub heard_one_as : Role → Option CloseReason → ℕ → ℕ → ℕ
heard_one_as Client closed now last = last
heard_one_as Server closed now last = heard_one closed now last

-- A whole packet reached an end of this role with a connection: this came of it, or an allocation
-- failed for it and the end closed.
pub record TakesAs (role : Role) (now : ℕ) (packet : Packet) (old new : EndState) (happenings : List Happening) (acknowledged : List ℕ) (closed : Option CloseReason) : Type 0 where
  pub reply : Reply
  pub does : (reply ≡ gets_as role packet old.end) ⊎ (reply ≡ closes reasons.Memory old.end)
  pub shows : Shows reply old new happenings acknowledged closed
  pub state : new ≡ record old { end = reply.end; output = new.output; held = held_after reply.close old.held; last_activity = heard_one_as role reply.close now old.last_activity }

-- it reached the client
abbrev pub ClientTakes : ℕ → Packet → EndState → EndState → List Happening → List ℕ → Option CloseReason → Type 0
ClientTakes now packet old new happenings acknowledged closed = TakesAs Client now packet old new happenings acknowledged closed

-- it reached the server
abbrev pub TakesOne : ℕ → Packet → EndState → EndState → List Happening → List ℕ → Option CloseReason → Type 0
TakesOne now packet old new happenings acknowledged closed = TakesAs Server now packet old new happenings acknowledged closed

-- The reaction of a server end with a connection to a complete packet: its output, its whole new
-- state, and the outcome.
pub record TakesPacket (now : ℕ) (packet : Packet) (outcome : PacketOutcome) (old new : EndState) : Type 0 where
  pub out : PutsOut (server_gets packet old.end).out old.output new.output
  pub state : new ≡ record old {
    end = (server_gets packet old.end).end;
    output = new.output;
    held = held_after (server_gets packet old.end).close old.held;
    last_activity = heard_one (server_gets packet old.end).close now old.last_activity;
  }
  pub happening : option_to_list outcome.happening ≡ (server_gets packet old.end).happenings
  pub acknowledged : option_to_list outcome.acknowledged ≡ (server_gets packet old.end).freed
  pub close : outcome.closed ≡ (server_gets packet old.end).close

-- nothing came of it
abbrev pub no_outcome : PacketOutcome
no_outcome = record { happening = None; acknowledged = None; closed = None }

-- The outcome with the message, for each outcome of a PUBLISH (4.3).
abbrev pub outcome_of : PublishOutcome → Message → PacketOutcome
outcome_of handings.HandedOn message = record { happening = Some (happens.Handed message); acknowledged = None; closed = None }
outcome_of handings.Nothing message = no_outcome
outcome_of (handings.Closed reason) message = record { happening = None; acknowledged = None; closed = Some reason }

-- The same if an allocation may fail.
abbrev pub told_of : {E : Type 0} → Message → Result PublishOutcome E → Result PacketOutcome E
told_of message (Ok handing) = Ok (outcome_of handing message)
told_of message (Err why) = Err why
