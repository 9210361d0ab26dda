-- HubStepSome: a step that stops early in a piece of bytes.
use Rattle.std.specs.Prelude.{◌≡◌, ◌⊎◌, ℕ, ◌<◌, ◌≤◌, List, [], ◌++◌, length, take}
use Rattle.mq_decode.specs.Limits.{Bounds}
use Rattle.mq_route.specs.declared.conn.Conn.{Conn}
use Rattle.mq_route.specs.declared.event.HubEvent.TheVariants.{Bytes}
use Rattle.mq_route.specs.declared.reply.HubReply.{HubReply}
use Rattle.mq_route.specs.Hub.{HubState, held_on}
use Rattle.mq_route.specs.Work.{Work, begin}
use Rattle.mq_route.specs.Arrives.{on_packet}
use Rattle.mq_route.specs.Step.{holding, OnBytes, Arrives, Waits, Breaks, Starves, LetsGo, HubStep}

-- a packet with bytes after it leaves the number of acts below the limit
abbrev pub IsSparing : ℕ → (limits : Bounds) (conn : Conn) (bytes : List ℕ) (start stop : Work) → OnBytes limits conn bytes start stop → Type 0
IsSparing most limits conn bytes start stop (Arrives packet first rest growth work last on reads more) =
    ((rest ≡ []) ⊎ (length (on_packet conn packet growth work).did < most))
    × IsSparing most limits conn rest (on_packet conn packet growth work) last more
IsSparing most limits conn bytes start stop (Waits rest work on pending) = Unit {0}
IsSparing most limits conn bytes start stop (Breaks rest fault fits work on faulty) = Unit {0}
IsSparing most limits conn bytes start stop (Starves rest fits work on some) = Unit {0}
IsSparing most limits conn bytes start stop (LetsGo rest work closed) = Unit {0}

-- Of a piece that arrives, the step takes the first `taken` bytes: those up to the packet that
-- reaches the limit on acts, or all of them. A packet is never divided, so the last one may exceed
-- the limit.
pub record HubStepSome (hub : HubState) (conn : Conn) (piece : List ℕ) (most : ℕ) (reply : HubReply) (taken : ℕ) (later_hub : HubState) : Type 0 where
  pub within : taken ≤ length piece
  -- the step of an event with exactly these bytes
  pub step : HubStep hub (Bytes conn (take taken piece)) reply later_hub
  -- it stops at the first packet that reaches the limit
  pub sparing : IsSparing most hub.config.limits conn (held_on conn hub.connections ++ take taken piece) (holding conn [] (begin hub)) step.work step.does.0
  -- and not before it
  pub enough : (taken ≡ length piece) ⊎ (most ≤ length reply.acts)
