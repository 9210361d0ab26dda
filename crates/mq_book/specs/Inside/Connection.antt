-- A connection: its events, and the bytes that it reads and writes (4.2). Only proofs cite these
-- definitions.
use Rattle.std.specs.Prelude.{◌≡◌, ℕ, List, [], ◌∷◌, map, Option, Some}
use Rattle.std.specs.List.{flat_map}
use Rattle.std.specs.Io.KnownBytes.{Appends, Consumes}
use Rattle.mq_route.specs.declared.conn.Conn.{Conn}
use Rattle.mq_route.specs.declared.event.HubEvent.{HubEvent}
use Rattle.mq_route.specs.declared.reply.HubReply.{HubReply}
use Rattle.mq_book.specs.Connection.{Made, Chain, Turn, turns_events, handed, Outside}

-- Turns were made. The steps have the events of these turns. The bytes that came are those of the
-- turns, and all bytes that the steps handed out were written.
pub record Turns {X : Type 0} (steps_to : X → HubEvent → HubReply → X → Type 0) (conn : Conn)
    (last : Option ℕ) (turns : List Turn) (old new : X) (before after : Outside) : Type 0 where
  pub made : List Made
  pub chain : Chain steps_to old made new
  pub events : map (λ m. m.event) made ≡ turns_events conn last turns
  pub times : Appends before.reported after.reported (map (λ t. t.time) turns)
  pub comes : Consumes before.coming after.coming (flat_map (λ t. t.piece) turns)
  pub goes : Appends before.written after.written (flat_map handed made)

-- One turn was made. The broker then knows its time.
abbrev pub Turned : {X : Type 0} → (X → HubEvent → HubReply → X → Type 0) → Conn → Option ℕ
    → Option ℕ → X → X → Outside → Outside → Type 0
Turned steps_to conn last told old new before after =
    (turn : Turn) × (told ≡ Some turn.time) × Turns steps_to conn last (turn ∷ []) old new before after
