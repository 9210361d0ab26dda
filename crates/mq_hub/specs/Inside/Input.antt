-- The bytes of a connection, packet by packet (4.2).
use Rattle.std.specs.Prelude.{ℕ, List, ◌≡◌, ◌≤◌, ◌++◌, length, take, [], Bool, true, false}
use Rattle.mq_packet.specs.declared.packet.Packet.{Packet}
use Rattle.mq_decode.specs.Limits.{Bounds}
use Rattle.mq_decode.specs.Grammar.{ReadsWithin, Pending}
use Rattle.mq_route.specs.declared.conn.Conn.{Conn}
use Rattle.mq_route.specs.Hub.{HubState, with_connection}
use Rattle.mq_route.specs.declared.act.Act.{Act}
use Rattle.mq_route.specs.Work.{Work}
use Rattle.mq_route.specs.Step.{OnBytes}
use Rattle.mq_route.specs.StepSome.{IsSparing}
use Rattle.mq_route.specs.Arrives.{Growth, on_packet}
use Rattle.mq_tables.specs.Connections.{holds, touched_at}
use Rattle.mq_hub.specs.declared.input.decoder.Next.{Next}
use Rattle.mq_hub.specs.declared.input.decoder.Next.TheVariants.{Packet as Arrived, Waits, Closed}
use Rattle.mq_hub.specs.Inside.Refinement.{Refines}

-- a broker whose connection holds these bytes of an incomplete packet
abbrev pub with_held : Conn → List ℕ → HubState → HubState
with_held conn bytes hub = record hub { connections = with_connection (holds bytes) conn hub.connections }

-- a broker with the time of a packet of a connection set to now (3.1.2.10)
abbrev pub with_touched : Conn → HubState → HubState
with_touched conn hub = record hub { connections = with_connection (touched_at hub.clock) conn hub.connections }

-- These bytes on a connection lead to this broker and these acts. A packet with bytes after it
-- leaves the number of acts below the limit.
pub record HandlesBytes (limits : Bounds) (conn : Conn) (most : ℕ) (bytes : List ℕ) (work : Work) (new : HubState) (says : List Act) : Type 0 where
  pub after : Work
  pub comes : OnBytes limits conn bytes work after
  pub sparing : IsSparing most limits conn bytes work after comes
  pub hub : after.hub ≡ new
  pub did : after.did ≡ says

-- If a step has led to the broker `old` and the acts `said`, then with these bytes it leads to
-- `new` and `says`.
abbrev pub RefinesBytes : Bounds → Conn → ℕ → List ℕ → HubState → List Act → HubState → List Act → Type 0
RefinesBytes limits conn most bytes old said new says = (work : Work) → work.hub ≡ old → work.did ≡ said → HandlesBytes limits conn most bytes work new says

-- a packet arrived, whose bytes are those that were held and the front of these
pub record HandlesPacket (limits : Bounds) (conn : Conn) (held rest : List ℕ) (used : ℕ)
    (old : HubState) (said : List Act) (new : HubState) (says : List Act) : Type 0 where
  pub packet : Packet
  pub growth : Growth
  pub within : used ≤ length rest
  pub reads : ReadsWithin limits packet (held ++ take used rest)
  pub goes : Refines (on_packet conn packet growth) old said new says

-- The result of decoding at the front of the held bytes and these: the packet's effect, or nothing,
-- or a closed connection. `left` is held afterwards.
abbrev pub IsNext : Bounds → Conn → List ℕ → List ℕ → HubState → List Act → Next → HubState → List Act → List ℕ → Type 0
IsNext limits conn held rest old said (Arrived used) new says left = HandlesPacket limits conn held rest used old said new says × (left ≡ [])
IsNext limits conn held rest old said Waits new says left = Pending limits (held ++ rest) × (new ≡ old) × (says ≡ said) × (left ≡ held ++ rest)
IsNext limits conn held rest old said Closed new says left = (most : ℕ) → RefinesBytes limits conn most (held ++ rest) old said new says

-- decoding can go on: the connection was not closed
abbrev pub goes_on : Next → Bool
goes_on (Arrived used) = true
goes_on Waits = true
goes_on Closed = false
