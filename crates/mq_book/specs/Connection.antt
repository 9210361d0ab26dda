-- A connection: its events, and the bytes that it reads and writes (4.2).
use Rattle.std.specs.Prelude.{◌≡◌, ℕ, ◌+◌, ◌^◌, ◌≤◌, ◌⊎◌, Bool, true, false, if◌then◌else◌, nat_eq, List, [], ◌∷◌, ◌++◌, map, Option, Some, None, length}
use Rattle.std.specs.List.{flat_map}
use Rattle.std.specs.Io.KnownBytes.{Appends, Consumes}
use Rattle.mq_route.specs.declared.conn.Conn.{Conn}
use Rattle.mq_route.specs.declared.event.HubEvent.{HubEvent}
use Rattle.mq_route.specs.declared.event.HubEvent.TheVariants.{Opened, Bytes, Ended, Tick, Collect}
use Rattle.mq_route.specs.declared.reply.HubReply.{HubReply}

-- A step: its event, and the broker's reply.
pub record Made : Type 0 where
  pub event : HubEvent
  pub reply : HubReply

-- These steps lead from the old state to the new one, one after another. `steps_to` defines a step.
abbrev pub Chain : {X : Type 0} → (X → HubEvent → HubReply → X → Type 0) → X → List Made → X → Type 0
Chain steps_to old [] new = new ≡ old
Chain {X} steps_to old (step ∷ rest) new = (between : X) × steps_to old step.event step.reply between × Chain steps_to between rest new

-- A turn of a connection: the bytes that were read, and the time that the clock then reported.
pub record Turn : Type 0 where
  pub piece : List ℕ
  pub time : ℕ

-- the last time that the broker knows is this one
abbrev pub is_known : Option ℕ → ℕ → Bool
is_known None time = false
is_known (Some last) time = nat_eq last time

-- a time, unless the broker knows it already
abbrev pub tick_events : Option ℕ → ℕ → List HubEvent
tick_events last time = if is_known last time then [] else (Tick time ∷ [])

-- bytes, if there are some
abbrev pub bytes_events : Conn → List ℕ → List HubEvent
bytes_events conn [] = []
bytes_events conn (byte ∷ rest) = Bytes conn (byte ∷ rest) ∷ []

-- the events of a turn, if the broker knows the time `last`
abbrev pub turn_events : Conn → Option ℕ → Turn → List HubEvent
turn_events conn last turn =
    tick_events last turn.time ++ (bytes_events conn turn.piece ++ Collect conn ∷ [])

-- the events of turns
abbrev pub turns_events : Conn → Option ℕ → List Turn → List HubEvent
turns_events conn last [] = []
turns_events conn last (turn ∷ turns) =
    turn_events conn last turn ++ turns_events conn (Some turn.time) turns

-- the bytes that a step hands out to be written
abbrev pub handed_by : HubEvent → HubReply → List ℕ
handed_by (Opened conn) reply = []
handed_by (Bytes conn piece) reply = []
handed_by (Ended conn) reply = []
handed_by (Tick time) reply = []
handed_by (Collect conn) reply = reply.output

abbrev pub handed : Made → List ℕ
handed made = handed_by made.event made.reply

-- The stream and the clock of a connection, as far as they are known.
pub record Outside : Type 0 where
  pub coming : Option (List ℕ)
  pub written : Option (List ℕ)
  pub closed : Bool
  pub reported : Option (List ℕ)

abbrev pub outside : Option (List ℕ) → Option (List ℕ) → Bool → Option (List ℕ) → Outside
outside coming written closed reported =
    record { coming = coming; written = written; closed = closed; reported = reported }

-- the broker closed the connection with the last of these steps
abbrev pub IsClosedBy : List Made → Type 0
IsClosedBy made =
    (before : List Made) × (last : Made) × (made ≡ before ++ last ∷ []) × (last.reply.alive ≡ false)

-- these bytes were sent, and what the last step handed out was not sent to its end
abbrev pub IsCut : List Made → List ℕ → Type 0
IsCut made sent =
    (before : List Made) × (last : Made) × (unsent : List ℕ) × (made ≡ before ++ last ∷ [])
    × (flat_map handed made ≡ sent ++ unsent) × (length unsent ≤ length (handed last))

-- Why a connection ends after this number of turns. Either all bytes were sent, and the broker
-- closed the connection or the stream is closed; or a write failed. (No count goes past 2^64.)
abbrev pub Finishes : Bool → ℕ → List Made → List ℕ → Type 0
Finishes closed count made sent =
    ((sent ≡ flat_map handed made)
    × (IsClosedBy made ⊎ ((closed ≡ true) ⊎ (2 ^ 64 ≤ count + 1))))
    ⊎ ((closed ≡ true) × IsCut made sent)

-- Turns were made, and the last one is the end of the connection.
pub record Ends {X : Type 0} (steps_to : X → HubEvent → HubReply → X → Type 0) (conn : Conn)
    (last : Option ℕ) (old new : X) (before after : Outside) : Type 0 where
  pub turns : List Turn
  pub made : List Made
  pub chain : Chain steps_to old made new
  pub events : map (λ m. m.event) made ≡ turns_events conn last turns
  pub times : Appends before.reported after.reported (map (λ t. t.time) turns)
  pub comes : Consumes before.coming after.coming (flat_map (λ t. t.piece) turns)
  pub sent : List ℕ
  pub goes : Appends before.written after.written sent
  pub finishes : Finishes after.closed (length turns) made sent

-- Turns were made until a step was refused, in the last turn.
pub record Stops {X : Type 0} (steps_to : X → HubEvent → HubReply → X → Type 0) (conn : Conn)
    (last : Option ℕ) (old new : X) (before after : Outside) : Type 0 where
  pub turns : List Turn
  pub made : List Made
  pub rest : List HubEvent
  pub chain : Chain steps_to old made new
  pub events : map (λ m. m.event) made ++ rest ≡ turns_events conn last turns
  pub times : Appends before.reported after.reported (map (λ t. t.time) turns)
  pub comes : Consumes before.coming after.coming (flat_map (λ t. t.piece) turns)
  pub goes : Appends before.written after.written (flat_map handed made)

-- A connection was opened, served in turns, and ended.
pub record Closes {X : Type 0} (steps_to : X → HubEvent → HubReply → X → Type 0) (conn : Conn)
    (old new : X) (before after : Outside) : Type 0 where
  pub turns : List Turn
  pub made : List Made
  pub reply : HubReply
  pub chain : Chain steps_to old (made ++ record { event = Ended conn; reply = reply } ∷ []) new
  pub events : map (λ m. m.event) made ≡ Opened conn ∷ turns_events conn None turns
  pub times : Appends before.reported after.reported (map (λ t. t.time) turns)
  pub comes : Consumes before.coming after.coming (flat_map (λ t. t.piece) turns)
  pub sent : List ℕ
  pub goes : Appends before.written after.written sent
  pub finishes : Finishes after.closed (length turns) made sent

-- A step of a connection was refused: `rest` are the events for which no step was made. All bytes
-- that the steps handed out were written, unless the stream is closed.
pub record Breaks {X : Type 0} (steps_to : X → HubEvent → HubReply → X → Type 0) (conn : Conn)
    (old new : X) (before after : Outside) : Type 0 where
  pub turns : List Turn
  pub made : List Made
  pub rest : List HubEvent
  pub chain : Chain steps_to old made new
  pub events : map (λ m. m.event) made ++ rest
      ≡ Opened conn ∷ (turns_events conn None turns ++ Ended conn ∷ [])
  pub times : Appends before.reported after.reported (map (λ t. t.time) turns)
  pub comes : Consumes before.coming after.coming (flat_map (λ t. t.piece) turns)
  pub sent : List ℕ
  pub unsent : List ℕ
  pub cut : flat_map handed made ≡ sent ++ unsent
  pub whole : (unsent ≡ []) ⊎ (after.closed ≡ true)
  pub goes : Appends before.written after.written sent

-- These events made steps, which handed out no bytes.
pub record Makes {X : Type 0} (steps_to : X → HubEvent → HubReply → X → Type 0)
    (events : List HubEvent) (old new : X) : Type 0 where
  pub made : List Made
  pub chain : Chain steps_to old made new
  pub are : map (λ m. m.event) made ≡ events
  pub hands : flat_map handed made ≡ []

-- Output was collected and written. The connection continues if all of it was written and the
-- broker keeps the connection open; otherwise the broker closed it, or the stream is closed.
pub record Collects {X : Type 0} (steps_to : X → HubEvent → HubReply → X → Type 0) (conn : Conn)
    (goes_on closed : Bool) (old new : X) (before after : Option (List ℕ)) : Type 0 where
  pub reply : HubReply
  pub collects : steps_to old (Collect conn) reply new
  pub sent : List ℕ
  pub unsent : List ℕ
  pub parts : reply.output ≡ sent ++ unsent
  pub goes : Appends before after sent
  pub on : goes_on ≡ true → (unsent ≡ []) × (reply.alive ≡ true)
  pub off : goes_on ≡ false → ((unsent ≡ []) × (reply.alive ≡ false)) ⊎ (closed ≡ true)
