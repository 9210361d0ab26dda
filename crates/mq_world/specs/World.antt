-- A world: two ends over bytes, the answer to each event, and its effect.
use Rattle.std.specs.Prelude.{ℕ, ◌≡◌, ◌≢◌, ◌↔◌, Bool, true, false, not, ◌&&◌, Option, None, Some, Ok, Err, List, [], ◌∷◌, ◌++◌, length, take, drop}
use Rattle.std.specs.Prelude.{nat_lt, All, IsTrue}
use Rattle.mq_packet.specs.declared.message.Message.{Message}
use Rattle.mq_packet.specs.declared.packet.Packet.TheVariants as packets
use Rattle.mq_decode.specs.Limits.{Bounds}
use Rattle.mq_end.specs.declared.reason.CloseReason.{CloseReason}
use Rattle.mq_end.specs.declared.reason.CloseReason.TheVariants as reasons
use Rattle.mq_flow.specs.Sender.{IsFirstFree}
use Rattle.mq_end.specs.declared.refusal.PublishRefusal.{PublishRefusal}
use Rattle.mq_end.specs.declared.refusal.PublishRefusal.TheVariants as refusals
use Rattle.mq_end.specs.End.{End, is_live}
use Rattle.mq_end.specs.State.{EndState, PutsOut}
use Rattle.mq_end.specs.Both.{answered_identifier, has_identifier, publishes}
use Rattle.mq_end.specs.Client.{leave_refusal, leaves}
use Rattle.mq_end.specs.KeepAlive.{pings}
use Rattle.mq_world.specs.declared.side.Side.{Side}
use Rattle.mq_world.specs.declared.side.Side.TheVariants.{Client, Server}
use Rattle.mq_world.specs.declared.event.Event.{Event}
use Rattle.mq_world.specs.declared.event.Event.TheVariants as events
use Rattle.mq_world.specs.declared.answer.Answer.{Answer}
use Rattle.mq_world.specs.declared.answer.Answer.TheVariants as answers
use Rattle.mq_world.specs.declared.answer.DeliveredBytes.{DeliveredBytes}
use Rattle.mq_world.specs.declared.answer.Opening.{Opening}
use Rattle.mq_world.specs.declared.answer.Settling.{Settling}
use Rattle.mq_world.specs.Half.{Publishes, Drops, Leaves, refusal, freed_with}
use Rattle.mq_world.specs.Machine.{Machine, Move, By, Opens, Restarts, blank_machine, first_packet}
use Rattle.mq_world.specs.Carries.{Wired, IsSpanned}
use Rattle.mq_world.specs.OverBytes.{Stands, Follows, Delivers, ReceivesAt, SameBounds, near, far, facing, with_more, hearing, handed_with, left_on}
use Rattle.mq_world.specs.SettlesOver.{HoldsNothing}
use Rattle.mq_world.specs.Time.{SameTime, SameTimes, HearsIn, BeginsNow, later, time_closes, time_moves, time_moment, time_out}

-- A world as contracts see it: its sides, the limits on packets (2.2.3), the maximum number of
-- identifiers in use at a side (2.3.1), the receive window of both sides, whether an allocation
-- failed, and the answers to the events so far, the oldest first.
pub record WorldState : Type 0 where
  pub wired : Wired
  pub limit : Bounds
  pub capacity : ℕ
  pub window : Option ℕ
  pub failed : Bool
  pub answers : List Answer

-- A new world: no session, no connection, no byte in flight, no message accepted or delivered.
pub record IsNew (limit : Bounds) (capacity : ℕ) (window : Option ℕ) (world : Wired) : Type 0 where
  pub stands : Stands limit capacity world (blank_machine window)
  pub client_clock : world.client.clock ≡ 0
  pub server_clock : world.server.clock ≡ 0
  pub to_client : world.client.wire ≡ []
  pub to_server : world.server.wire ≡ []

-- whatever machine a world carries, these moves of it lead to one that another world carries
abbrev pub Moves : Bounds → ℕ → Wired → List Move → Wired → Type 0
Moves limit capacity old moves new = (machine : Machine) → Stands limit capacity old machine → Follows limit capacity machine moves new

-- ---- The effect of an event

-- A message is accepted, under the first free identifier after the one assigned last if it has one
-- (2.3.1, 4.3). Its PUBLISH is sent if the side is connected; nothing else changes on either wire.
pub record IsAccepted (limit : Bounds) (capacity : ℕ) (side : Side) (message : Message) (answer : Option ℕ) (old new : Wired) : Type 0 where
  pub id : ℕ
  pub answered : answer ≡ answered_identifier message.qos id
  pub first : has_identifier message.qos ≡ true → IsFirstFree (near side old).state.end.last (near side old).state.end.book id
  pub wire : (near side new).wire ≡ (near side old).wire
  pub out : PutsOut (publishes id message (near side old).state.end).out (far side old).wire (far side new).wire
  pub times : SameTimes old new
  pub moves : Moves limit capacity old (By side (Publishes id message) ∷ []) new

-- The first reason to refuse a message, or that an allocation failed.
abbrev pub reason_or_memory : Option PublishRefusal → PublishRefusal
reason_or_memory None = refusals.Memory
reason_or_memory (Some why) = why

-- It is refused, and nothing changes.
pub record IsRefused (limit : Bounds) (capacity : ℕ) (side : Side) (message : Message) (why : PublishRefusal) (old new : Wired) : Type 0 where
  pub reason : why ≡ reason_or_memory (refusal side limit.most capacity message (near side old).state.end)
  pub same : new ≡ old

-- The end of a side that has a connection receives the bytes: the world after it.
pub record Hears (side : Side) (left : List ℕ) (delivery : DeliveredBytes) (old new : Wired) : Type 0 where
  pub state : EndState
  pub receives : ReceivesAt side delivery.bytes (near side old).state state delivery.progress.happenings delivery.progress.acknowledged delivery.progress.closed
  pub bounds : SameBounds (near side old).state state
  pub world : new ≡ facing side (hearing left state delivery.progress.happenings delivery.progress.acknowledged delivery.progress.closed (near side old))
      (with_more state.output (far side old))
  -- If a packet is complete, this is the server's time of last activity (3.1.2.10).
  pub heard : HearsIn side ((near side old).state.held ++ delivery.bytes) delivery.progress.closed (near side old) (near side new)

-- The end of a side without a connection lets the bytes go.
pub record Ignores (side : Side) (left : List ℕ) (delivery : DeliveredBytes) (old new : Wired) : Type 0 where
  pub happenings : delivery.progress.happenings ≡ []
  pub acknowledged : delivery.progress.acknowledged ≡ []
  pub closed : delivery.progress.closed ≡ None
  pub world : new ≡ facing side (record (near side old) { wire = left }) (far side old)

-- Some bytes arrive at a side, or all bytes in flight to it if there are fewer (4.2, 4.6).
pub record IsDelivered (limit : Bounds) (capacity : ℕ) (side : Side) (count : ℕ) (delivery : DeliveredBytes) (old new : Wired) : Type 0 where
  pub to : delivery.side ≡ side
  pub bytes : delivery.bytes ≡ take count (near side old).wire
  -- they are no longer in flight, and an end that closes leaves nothing there
  pub left : (near side new).wire ≡ left_on delivery.progress.closed (drop count (near side old).wire)
  -- Reported messages are delivered, and acknowledged ones freed.
  pub handed : (near side new).handed ≡ handed_with delivery.progress.happenings (near side old).handed
  pub freed : (near side new).freed ≡ freed_with (near side old).accepted.at_least_once delivery.progress.acknowledged (near side old).freed
  pub lost : delivery.lost ≡ (not (is_live (near side old).state.end.state) && nat_lt 0 (length delivery.bytes))
  -- with a connection, just the packets whose last byte is among them arrive
  pub arrive : is_live (near side old).state.end.state ≡ true → (machine : Machine) → Stands limit capacity old machine
      → Delivers limit capacity side machine ((near side old).state.held ++ delivery.bytes) delivery.progress.closed new
  pub hears : is_live (near side old).state.end.state ≡ true → Hears side (drop count (near side old).wire) delivery old new
  pub ignores : is_live (near side old).state.end.state ≡ false → Ignores side (drop count (near side old).wire) delivery old new

-- The connection of a side is lost, with the bytes in flight to it (4.2). The other side is
-- unchanged, and so are the bytes in flight to it.
pub record IsLost (limit : Bounds) (capacity : ℕ) (side : Side) (was_open : Bool) (old new : Wired) : Type 0 where
  pub said : was_open ≡ is_live (near side old).state.end.state
  pub wire : (near side new).wire ≡ []
  pub other : far side new ≡ far side old
  pub times : SameTimes old new
  pub moves : Moves limit capacity old (By side Drops ∷ []) new

-- The client's program ends, and continues with its session as saved and loaded (3.1.2.4, 4.1). Its
-- connection and the bytes in flight to it are lost; no time passes, and the server is unchanged.
pub record IsRestarted (limit : Bounds) (capacity : ℕ) (was_open : Bool) (old new : Wired) : Type 0 where
  pub said : was_open ≡ is_live old.client.state.end.state
  pub wire : new.client.wire ≡ []
  pub server : new.server ≡ old.server
  pub clock : new.client.clock ≡ old.client.clock
  pub moves : Moves limit capacity old (Restarts ∷ []) new

-- An allocation for that failed, and the end whose connection is lost stays.
pub record IsNotRestarted (limit : Bounds) (capacity : ℕ) (was_open : Bool) (why : PublishRefusal) (old new : Wired) : Type 0 where
  pub reason : why ≡ refusals.Memory
  pub lost : IsLost limit capacity Client was_open old new

-- A connection is opened (3.1), and earlier ones are lost: just the encoding of its CONNECT is in
-- flight. If an allocation for CONNECT fails, both ends are closed.
pub record IsOpened (limit : Bounds) (capacity : ℕ) (opening : Opening) (old new : Wired) : Type 0 where
  pub client_dropped : opening.client_dropped ≡ is_live old.client.state.end.state
  pub server_dropped : opening.server_dropped ≡ is_live old.server.state.end.state
  pub to_client : new.client.wire ≡ []
  pub out : opening.refused ≡ false → PutsOut (packets.Connect first_packet ∷ []) [] new.server.wire
  pub begins : opening.refused ≡ false → BeginsNow old new
  pub opens : opening.refused ≡ false → Moves limit capacity old (Opens ∷ []) new
  pub refused : opening.refused ≡ true → (new.server.wire ≡ []) × SameTimes old new × Moves limit capacity old (By Client Drops ∷ By Server Drops ∷ []) new

-- The client disconnects: DISCONNECT is sent, and bytes in flight to the client are lost (3.14,
-- 4.2).
pub record IsLeft (limit : Bounds) (capacity : ℕ) (old new : Wired) : Type 0 where
  pub allowed : leave_refusal old.client.state.end ≡ None
  pub wire : new.client.wire ≡ []
  pub out : PutsOut (leaves old.client.state.end).out old.server.wire new.server.wire
  pub times : SameTimes old new
  pub moves : Moves limit capacity old (By Client Leaves ∷ []) new

-- It can't leave, and nothing changes.
pub record IsNotLeft (why : PublishRefusal) (old new : Wired) : Type 0 where
  pub reason : why ≡ reason_or_memory (leave_refusal old.client.state.end)
  pub same : new ≡ old

-- The clock of a side advances, followed by the `tick` of its end: it closes, sends PINGREQ, or
-- does nothing (3.1.2.10).
pub record IsTold (limit : Bounds) (capacity : ℕ) (side : Side) (more : ℕ) (closed : Option CloseReason) (old new : Wired) : Type 0 where
  pub clock : (near side new).clock ≡ later (near side old).clock more
  pub closes : closed ≡ time_closes side (later (near side old).clock more) (near side old).state
  pub last_activity : (near side new).state.last_activity ≡ time_moment side (later (near side old).clock more) (near side old).state
  pub other : SameTime (far side old) (far side new)
  pub left : (near side new).wire ≡ left_on closed (near side old).wire
  pub out : PutsOut (time_out side (later (near side old).clock more) (near side old).state) (far side old).wire (far side new).wire
  pub moves : Moves limit capacity old (time_moves side (later (near side old).clock more) (near side old).state) new

-- The clock of the client advances, but an allocation for the PINGREQ that is due fails (3.12).
pub record IsNotTold (side : Side) (more : ℕ) (why : PublishRefusal) (old new : Wired) : Type 0 where
  pub client : side ≡ Client
  pub reason : why ≡ refusals.Memory
  pub due : pings old.client.state.last_activity (later old.client.clock more) old.client.state.end ≡ true
  pub world : new ≡ record old { client = record old.client { clock = later old.client.clock more } }

-- The effect of an event, by its answer.
abbrev pub Does : Bounds → ℕ → Event → Answer → Wired → Wired → Type 0
Does limit capacity (events.Publish side message) (answers.Published at (Ok id)) old new = (at ≡ side) × IsAccepted limit capacity side message id old new
Does limit capacity (events.Publish side message) (answers.Published at (Err why)) old new = (at ≡ side) × IsRefused limit capacity side message why old new
Does limit capacity (events.Deliver side count) (answers.Delivered delivery) old new = IsDelivered limit capacity side count delivery old new
Does limit capacity (events.Drop side) (answers.Dropped at was_open) old new = (at ≡ side) × IsLost limit capacity side was_open old new
Does limit capacity events.Restart (answers.Restarted was_open (Ok done)) old new = IsRestarted limit capacity was_open old new
Does limit capacity events.Restart (answers.Restarted was_open (Err why)) old new = IsNotRestarted limit capacity was_open why old new
Does limit capacity events.Leave (answers.Left (Ok done)) old new = IsLeft limit capacity old new
Does limit capacity events.Leave (answers.Left (Err why)) old new = IsNotLeft why old new
Does limit capacity events.Open (answers.Opened opening) old new = IsOpened limit capacity opening old new
Does limit capacity (events.Tick side more) (answers.Ticked at (Ok closed)) old new = (at ≡ side) × IsTold limit capacity side more closed old new
Does limit capacity (events.Tick side more) (answers.Ticked at (Err why)) old new = (at ≡ side) × IsNotTold side more why old new
Does limit capacity event answer old new = ⊥

-- Events one after another, each with its answer.
abbrev pub Leads : Bounds → ℕ → List Event → List Answer → Wired → Wired → Type 0
Leads limit capacity [] [] old new = new ≡ old
Leads limit capacity (event ∷ next_events) (answer ∷ rest) old new = (mid : Wired) × Does limit capacity event answer old mid × Leads limit capacity next_events rest mid new
Leads limit capacity [] (answer ∷ rest) old new = ⊥
Leads limit capacity (event ∷ next_events) [] old new = ⊥

-- ---- settling

-- All bytes that are in flight to each of these sides come, one side after another.
abbrev pub InTurn : Bounds → ℕ → List Side → List DeliveredBytes → Wired → Wired → Type 0
InTurn limit capacity [] [] old new = new ≡ old
InTurn limit capacity (side ∷ sides) (delivery ∷ rest) old new =
    (mid : Wired) × IsDelivered limit capacity side (length (near side old).wire) delivery old mid × InTurn limit capacity sides rest mid new
InTurn limit capacity [] (delivery ∷ rest) old new = ⊥
InTurn limit capacity (side ∷ sides) [] old new = ⊥

-- an exchange: toward the server, then toward the client; and three of them
abbrev pub exchanges : List Side
exchanges = Server ∷ Client ∷ Server ∷ Client ∷ Server ∷ Client ∷ []

-- nothing of an end's own waits for the other end: it holds no message, and no identifier is
-- released (4.3)
abbrev pub IsIdle : End → Type 0
IsIdle end = (end.book.entries ≡ []) × (end.book.released ≡ [])

-- Memory did not run out while a world settled: not for CONNECT, and no end closed for lack of it.
abbrev pub MetNoWant : Answer → Type 0
MetNoWant (answers.Settled settling) = (settling.opening.refused ≡ false) × All (λ delivery. delivery.progress.closed ≢ Some reasons.Memory) settling.deliveries
MetNoWant answer = ⊥

-- no end closed since a message did not fit its window
abbrev pub IsNeverFull : Answer → Type 0
IsNeverFull (answers.Delivered delivery) = delivery.progress.closed ≢ Some reasons.Window
IsNeverFull (answers.Ticked side (Ok closed)) = closed ≢ Some reasons.Window
IsNeverFull (answers.Settled settling) = All (λ delivery. delivery.progress.closed ≢ Some reasons.Window) settling.deliveries
IsNeverFull answer = Unit {0}

-- A connection is opened, and three exchanges follow (4.4).
pub record IsSettled (limit : Bounds) (capacity : ℕ) (settling : Settling) (old new : Wired) : Type 0 where
  -- the worlds after the opening and after the second exchange
  pub between : Wired
  pub second : Wired
  pub opened : IsOpened limit capacity settling.opening old between
  pub exchanged_twice : InTurn limit capacity (take 4 exchanges) (take 4 settling.deliveries) between second
  pub exchanged_again : InTurn limit capacity (drop 4 exchanges) (drop 4 settling.deliveries) second new
  -- Two exchanges are enough for the messages; the third completes released identifiers, if the
  -- capacity is at most the window.
  pub second_left : IsSpanned capacity old → MetNoWant (answers.Settled settling) → HoldsNothing second
  -- A server without a session has no pending output.
  pub idle : IsTrue settling.idle ↔ (IsIdle new.client.state.end × (new.server.state.end.known ≡ true → IsIdle new.server.state.end))

-- The effect of settling, by its answer.
abbrev pub Settles : Bounds → ℕ → Answer → Wired → Wired → Type 0
Settles limit capacity (answers.Settled settling) old new = IsSettled limit capacity settling old new
Settles limit capacity answer old new = ⊥
