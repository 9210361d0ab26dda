-- The effect of each event of a world over bytes: the machine that it carries makes some moves
-- (4.2, 4.4, 4.6).
use Rattle.std.specs.Prelude.{ℕ, ◌≡◌, ◌≢◌, ◌≤◌, true, false, Option, None, Some, List, [], ◌∷◌, ◌++◌, length}
use Rattle.mq_topic.specs.declared.qos.Qos.TheVariants.{Q0, Q1, Q2}
use Rattle.mq_packet.specs.declared.message.Message.{Message}
use Rattle.mq_packet.specs.declared.packet.Packet.{Packet}
use Rattle.mq_packet.specs.declared.packet.Packet.TheVariants as packets
use Rattle.mq_decode.specs.Limits.{Bounds}
use Rattle.mq_decode.specs.declared.fault.DecodeFault.{DecodeFault}
use Rattle.mq_flow.specs.Window.{Spans}
use Rattle.mq_end.specs.declared.happening.Happening.{Happening}
use Rattle.mq_end.specs.declared.reason.CloseReason.{CloseReason}
use Rattle.mq_end.specs.declared.reason.CloseReason.TheVariants as reasons
use Rattle.mq_end.specs.End.{End, Reply, blank_end, is_live, is_up, over, resumed}
use Rattle.mq_end.specs.Both.{publishes, has_identifier}
use Rattle.mq_end.specs.Client.{connects, leaves, leave_refusal}
use Rattle.mq_end.specs.Server.{opens}
use Rattle.mq_end.specs.Laws.{MayHave}
use Rattle.mq_end.specs.State.{EndState, PutsOut, no_bytes, client_faulted, server_faulted}
use Rattle.mq_end.specs.Receiving.{Receives, Shows}
use Rattle.mq_world.specs.declared.side.Side.{Side}
use Rattle.mq_world.specs.declared.side.Side.TheVariants.{Client, Server}
use Rattle.mq_world.specs.Half.{HandedOn, Publishes, Drops, Leaves, Pings, none_accepted, none_handed, gets, refusal, told, freed_with, accepted_with}
use Rattle.mq_world.specs.Machine.{Machine, Move, By, Opens, Restarts, Run, blank_machine, first_packet}
use Rattle.mq_world.specs.Headline.{Headline}
use Rattle.mq_world.specs.Identifiers.{half_of}
use Rattle.mq_world.specs.Carries.{WiredSide, Wired, Carries, Reached, Comes, AreArrivals, seen}

-- ---- the world

-- Ends with room for a new connection's CONNECT carry a machine that a run reaches.
pub record Stands (limit : Bounds) (capacity : ℕ) (world : Wired) (machine : Machine) : Type 0 where
  pub large : 64 ≤ limit.most
  pub carries : Carries limit capacity world machine
  pub reached : Reached limit.most capacity machine

-- These moves lead to a machine that the world carries.
pub record Follows (limit : Bounds) (capacity : ℕ) (start : Machine) (moves : List Move) (world : Wired) : Type 0 where
  pub machine : Machine
  pub run : Run limit.most capacity start moves machine
  pub stands : Stands limit capacity world machine

-- a side of the world
abbrev pub near : Side → Wired → WiredSide
near Client world = world.client
near Server world = world.server

-- the side that it faces
abbrev pub far : Side → Wired → WiredSide
far Client world = world.server
far Server world = world.client

-- the world of a side and of the side that it faces
abbrev pub facing : Side → WiredSide → WiredSide → Wired
facing Client here there = record { client = here; server = there }
facing Server here there = record { client = there; server = here }

-- ---- Changes of a side

-- an end whose output is on the wire, with the room that it had
abbrev pub written : EndState → EndState
written state = record state { output = []; room = no_bytes state.room }

-- its bounds stay
abbrev pub SameBounds : EndState → EndState → Type 0
SameBounds old new = (new.limit ≡ old.limit) × (new.capacity ≡ old.capacity)

-- the end of a program that ended, made anew: it continues with the session that the end without a
-- connection had (3.1.2.4, 4.1)
abbrev pub made_anew : End → End
made_anew end = resumed end.window (over end).known (over end).book (over end).received (over end).last

-- bytes are sent to a side, behind all others (4.6)
abbrev pub with_more : List ℕ → WiredSide → WiredSide
with_more bytes old = record old { wire = old.wire ++ bytes }

-- The connection of a side ends, or a new one begins: bytes in flight to it are lost (4.2).
abbrev pub cut_off : EndState → WiredSide → WiredSide
cut_off new old = record old { state = written new; wire = [] }

-- a side without a session, without a connection and without bytes
abbrev pub blank_side : EndState → WiredSide
blank_side new = record { state = written new; clock = 0; wire = []; accepted = none_accepted; handed = none_handed; freed = [] }

-- It accepted a message, under this identifier if it has one.
abbrev pub accepting : ℕ → Message → EndState → WiredSide → WiredSide
accepting id message new old = record old { state = written new; accepted = accepted_with message.qos id message old.accepted }

-- The delivered messages, with the reported ones.
abbrev pub handed_with : List Happening → HandedOn → HandedOn
handed_with happenings handed = record {
  at_most_once = told Q0 happenings handed.at_most_once;
  at_least_once = told Q1 happenings handed.at_least_once;
  exactly_once = told Q2 happenings handed.exactly_once;
}

-- The wire after the end closed (4.2).
abbrev pub left_on : Option CloseReason → List ℕ → List ℕ
left_on None left = left
left_on (Some reason) left = []

-- it processed bytes, and these were left behind them
abbrev pub hearing : List ℕ → EndState → List Happening → List ℕ → Option CloseReason → WiredSide → WiredSide
hearing left new happenings acknowledged closed old = record old {
  state = written new;
  wire = left_on closed left;
  handed = handed_with happenings old.handed;
  freed = freed_with old.accepted.at_least_once acknowledged old.freed;
}

-- The reaction of a side's end to a malformed packet (4.8).
abbrev pub faulted : Side → DecodeFault → End → Reply
faulted Client fault end = client_faulted fault end
faulted Server fault end = server_faulted fault end

-- the end of a side receives bytes
abbrev pub ReceivesAt : Side → List ℕ → EndState → EndState → List Happening → List ℕ → Option CloseReason → Type 0
ReceivesAt side piece old new happenings acknowledged closed = (reply : Reply)
    × Receives old.limit (gets side) (faulted side) (old.held ++ piece) old.end reply new.held
    × Shows reply old new happenings acknowledged closed

-- Bytes arrived at a side: they complete the first packets of the queue toward it, and the machine
-- makes one arrival for each.
pub record Delivers (limit : Bounds) (capacity : ℕ) (side : Side) (machine : Machine) (bytes : List ℕ) (closed : Option CloseReason) (world : Wired) : Type 0 where
  pub packets : List Packet
  pub moves : List Move
  pub comes : Comes limit bytes closed packets
  pub later : List Packet
  pub first : (half_of side machine).coming ≡ packets ++ later
  pub arrivals : AreArrivals side (length packets) closed moves
  -- a window that is not less than the capacity closes no end
  pub fits : Spans (half_of side machine).end.window capacity → closed ≢ Some reasons.Window
  pub follows : Follows limit capacity machine moves world

-- Two sides that look the same; their bytes count only if there is a connection.
pub record Alike (one other : WiredSide) : Type 0 where
  pub end : other.state.end ≡ one.state.end
  pub bytes : is_live one.state.end.state ≡ true → other.state.held ++ other.wire ≡ one.state.held ++ one.wire
  pub output : other.state.output ≡ one.state.output
  pub reserved : other.state.room.bytes ≡ one.state.room.bytes
  pub bounds : SameBounds one.state other.state
  pub accepted : other.accepted ≡ one.accepted
  pub handed : other.handed ≡ one.handed
  pub freed : other.freed ≡ one.freed

-- ---- the events

-- The bytes of a world, cut anywhere, are a run of the machine.
pub record OverBytes : Type 0 where
  -- a new world
  pub blank : (limit : Bounds) (capacity : ℕ) (window : Option ℕ) (client server : EndState) → 64 ≤ limit.most
      → client.end ≡ blank_end window → client.limit ≡ limit → client.capacity ≡ capacity
      → server.end ≡ blank_end window → server.limit ≡ limit → server.capacity ≡ capacity
      → Stands limit capacity (record { client = blank_side client; server = blank_side server }) (blank_machine window)
  -- worlds whose sides are alike
  pub alike : (limit : Bounds) (capacity : ℕ) (world other : Wired) (machine : Machine) → Stands limit capacity world machine
      → Alike world.client other.client → Alike world.server other.server → Stands limit capacity other machine
  -- Bytes in flight to a side without a connection make no difference.
  pub unheard : (limit : Bounds) (capacity : ℕ) (side : Side) (world : Wired) (machine : Machine) (left : List ℕ) → Stands limit capacity world machine
      → is_live (near side world).state.end.state ≡ false
      → Stands limit capacity (facing side (record (near side world) { wire = left }) (far side world)) machine
  -- Bytes arrive at a side with a connection.
  pub deliver : (limit : Bounds) (capacity : ℕ) (side : Side) (world : Wired) (machine : Machine) (piece left : List ℕ) (new : EndState)
      (happenings : List Happening) (acknowledged : List ℕ) (closed : Option CloseReason)
      → Stands limit capacity world machine → is_live (near side world).state.end.state ≡ true → (near side world).wire ≡ piece ++ left
      → ReceivesAt side piece (near side world).state new happenings acknowledged closed → SameBounds (near side world).state new
      → Delivers limit capacity side machine ((near side world).state.held ++ piece) closed
      (facing side (hearing left new happenings acknowledged closed (near side world)) (with_more new.output (far side world)))
  -- The user of a side publishes a message, under this identifier if it has one.
  pub publish : (limit : Bounds) (capacity : ℕ) (side : Side) (world : Wired) (machine : Machine) (id : ℕ) (message : Message) (new : EndState)
      → Stands limit capacity world machine → refusal side limit.most capacity message (near side world).state.end ≡ None
      → MayHave (has_identifier message.qos) (near side world).state.end id
      → new.end ≡ (publishes id message (near side world).state.end).end
      → PutsOut (publishes id message (near side world).state.end).out (near side world).state.output new.output
      → new.held ≡ (near side world).state.held → SameBounds (near side world).state new
      → Follows limit capacity machine (By side (Publishes id message) ∷ []) (facing side (accepting id message new (near side world)) (with_more new.output (far side world)))
  -- the connection of a side is lost
  pub drop : (limit : Bounds) (capacity : ℕ) (side : Side) (world : Wired) (machine : Machine) (new : EndState) → Stands limit capacity world machine
      → new.end ≡ over (near side world).state.end → SameBounds (near side world).state new
      → Follows limit capacity machine (By side Drops ∷ []) (facing side (cut_off new (near side world)) (far side world))
  -- and that of both
  pub drop_both : (limit : Bounds) (capacity : ℕ) (world : Wired) (machine : Machine) (client server : EndState) → Stands limit capacity world machine
      → client.end ≡ over world.client.state.end → SameBounds world.client.state client
      → server.end ≡ over world.server.state.end → SameBounds world.server.state server
      → Follows limit capacity machine (By Client Drops ∷ By Server Drops ∷ []) (record { client = cut_off client world.client; server = cut_off server world.server })
  -- the client's program ends, and continues with its session
  pub restart : (limit : Bounds) (capacity : ℕ) (world : Wired) (machine : Machine) (new : EndState) → Stands limit capacity world machine
      → new.end ≡ made_anew world.client.state.end → SameBounds world.client.state new
      → Follows limit capacity machine (Restarts ∷ []) (record { client = cut_off new world.client; server = world.server })
  -- a new connection is opened
  pub opened : (limit : Bounds) (capacity : ℕ) (world : Wired) (machine : Machine) (client server : EndState) → Stands limit capacity world machine
      → client.end ≡ (connects first_packet world.client.state.end).end → PutsOut (packets.Connect first_packet ∷ []) [] client.output → client.held ≡ []
      → SameBounds world.client.state client
      → server.end ≡ (opens world.server.state.end).end → server.held ≡ [] → SameBounds world.server.state server
      → Follows limit capacity machine (Opens ∷ []) (record { client = cut_off client world.client; server = with_more client.output (cut_off server world.server) })
  -- the client leaves
  pub leave : (limit : Bounds) (capacity : ℕ) (world : Wired) (machine : Machine) (new : EndState)
      → Stands limit capacity world machine → leave_refusal world.client.state.end ≡ None
      → new.end ≡ (leaves world.client.state.end).end → PutsOut (packets.Disconnect ∷ []) world.client.state.output new.output → SameBounds world.client.state new
      → Follows limit capacity machine (By Client Leaves ∷ []) (record { client = cut_off new world.client; server = with_more new.output world.server })
  -- The client sends PINGREQ.
  pub ping : (limit : Bounds) (capacity : ℕ) (world : Wired) (machine : Machine) (new : EndState)
      → Stands limit capacity world machine → is_up world.client.state.end.state ≡ true
      → new.end ≡ world.client.state.end → PutsOut (packets.PingReq ∷ []) world.client.state.output new.output → new.held ≡ world.client.state.held
      → SameBounds world.client.state new
      → Follows limit capacity machine (By Client Pings ∷ []) (record { client = record world.client { state = written new }; server = with_more new.output world.server })
  -- The promise of every run (4.3).
  pub headline : (limit : Bounds) (capacity : ℕ) (world : Wired) (machine : Machine) → Stands limit capacity world machine → Headline (seen world)
