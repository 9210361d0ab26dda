-- The course of a client end at a stream: its calls in order, the bytes that it received and sent,
-- the times that its clock reported, and the sessions that were saved before bytes were sent (3.1
-- to 3.14, 4.1, 4.2).
use Rattle.std.specs.Prelude.{◌≡◌, ◌⊎◌, ◌≤◌, ℕ, Bool, true, false, List, [], ◌∷◌, ◌++◌, Option, None, Result, Ok, Err, option_to_list}
use Rattle.std.specs.List.{flat_map}
use Rattle.std.specs.Io.KnownBytes.{Appends, Consumes}
use Rattle.mq_packet.specs.declared.message.Message.{Message}
use Rattle.mq_packet.specs.declared.packet.Request.{Request}
use Rattle.mq_packet.specs.declared.packet.Packet.TheVariants as packets
use Rattle.mq_end.specs.declared.happening.Happening.{Happening}
use Rattle.mq_end.specs.declared.reason.CloseReason.{CloseReason}
use Rattle.mq_end.specs.End.{End, is_live, over}
use Rattle.mq_end.specs.Client.{connects, subscribes, unsubscribes, leaves}
use Rattle.mq_end.specs.State.{PutsOut, no_bytes}
use Rattle.mq_end.specs.Publishing.{Accepts, ClientState, connect_of}
use Rattle.mq_end.specs.Receiving.{Acts, ClientReceives}
use Rattle.mq_end.specs.Requests.{Requests, Ticks}
use Rattle.mq_client.specs.declared.error.ClientError.{ClientError}
use Rattle.mq_client.specs.Keeping.{Holds, saved_of}

-- The state of the connection itself. `closed` is false if the stream is known to be open.
-- `quiet` counts the reads without a byte since the last one with bytes: after `limit` of them the
-- connection counts as lost.
pub record Line : Type 0 where
  pub closed : Bool
  pub quiet : ℕ
  pub limit : ℕ

-- A client end at a stream. The bytes that are to come, the bytes that were sent, the session that
-- is saved and the times that the clock reported are there if they are known.
pub record Moment : Type 0 where
  pub client : ClientState
  pub coming : Option (List ℕ)
  pub written : Option (List ℕ)
  pub kept : Option (List ℕ)
  pub times : Option (List ℕ)
  pub line : Line

-- a request of the user: a connection, with clean session or not (3.1), a publication (3.3), a
-- subscription (3.8) or the end of one (3.10)
pub data Ask : Type 0 where
  Opening : Bool → Ask
  Publication : Message → Ask
  Subscription : List Request → Ask
  Unsubscription : List (List ℕ) → Ask

-- ---- steps

pub data Step : Type 0 where
  -- a connection begins at this time, with clean session or not (3.1)
  Connect : ℕ → Bool → Step
  -- The clock of the client is set to this time (3.1.2.10), and then the client receives bytes. The
  -- happenings follow, and the reason for which it closes, if it does.
  Hear : ℕ → List ℕ → List Happening → Option CloseReason → Step
  -- a message is published (3.3)
  Publish : Message → Step
  -- a subscription is requested (3.8)
  Subscribe : List Request → Step
  -- the end of subscriptions with these filters is requested (3.10)
  Unsubscribe : List (List ℕ) → Step
  -- the clock of the client is set to this time (3.1.2.10)
  Tick : ℕ → Step
  -- the clock reports this time, and memory runs out before it is used
  Starve : ℕ → Step
  -- the client leaves (3.14)
  Leave : Step
  -- the saved form of the session is saved, and then bytes from the front of the output are sent
  Write : List ℕ → List ℕ → Step
  -- the connection is lost (4.2)
  Lose : Step

pub record Connects (now : ℕ) (clean : Bool) (old new : ClientState) : Type 0 where
  pub end : new.link.end ≡ (connects (connect_of old.config clean) old.link.end).end
  pub out : PutsOut (packets.Connect (connect_of old.config clean) ∷ []) [] new.link.output
  pub held : new.link.held ≡ []
  pub moment : new.link.last_activity ≡ now

pub record Hears (bytes : List ℕ) (told : List Happening) (closed : Option CloseReason) (old new : ClientState) : Type 0 where
  pub acknowledged : List ℕ
  pub live : is_live old.link.end.state ≡ true → ClientReceives bytes old.link new.link told acknowledged closed
  pub shut : is_live old.link.end.state ≡ false → (new ≡ old) × (told ≡ []) × (closed ≡ None)

pub record Publishes (message : Message) (old new : ClientState) : Type 0 where
  pub answer : Option ℕ
  pub accepts : Accepts answer message old.link new.link

pub record Subscribes (requests : List Request) (old new : ClientState) : Type 0 where
  pub id : ℕ
  pub asks : Requests id (subscribes id requests old.link.end) old.link new.link

pub record Unsubscribes (filters : List (List ℕ)) (old new : ClientState) : Type 0 where
  pub id : ℕ
  pub asks : Requests id (unsubscribes id filters old.link.end) old.link new.link

pub record Writes (form bytes : List ℕ) (old new : ClientState) : Type 0 where
  pub saved : form ≡ saved_of old
  pub rest : List ℕ
  pub parts : old.link.output ≡ bytes ++ rest
  pub left : new.link ≡ record old.link { output = rest; room = no_bytes old.link.room }

pub record Loses (old new : ClientState) : Type 0 where
  pub end : new.link.end ≡ over old.link.end
  pub output : new.link.output ≡ []
  pub held : new.link.held ≡ []

-- what a step does to the end
abbrev pub Does : Step → ClientState → ClientState → Type 0
Does (Connect now clean) old new = Connects now clean old new
Does (Hear now bytes told closed) old new = (between : ClientState) × Ticks now old.link between.link × Hears bytes told closed between new
Does (Publish message) old new = Publishes message old new
Does (Subscribe requests) old new = Subscribes requests old new
Does (Unsubscribe filters) old new = Unsubscribes filters old new
Does (Tick now) old new = Ticks now old.link new.link
Does (Starve now) old new = new ≡ old
Does Leave old new = Acts (leaves old.link.end) old.link new.link
Does (Write form bytes) old new = Writes form bytes old new
Does Lose old new = Loses old new

-- steps in order
abbrev pub Runs : ClientState → List Step → ClientState → Type 0
Runs old [] new = new ≡ old
Runs old (step ∷ rest) new = (between : ClientState) × Does step old between × Runs between rest new

-- ---- the results of steps

-- the bytes that were received
abbrev pub heard : Step → List ℕ
heard (Hear now bytes told closed) = bytes
heard step = []

-- the bytes that were sent
abbrev pub sent : Step → List ℕ
sent (Write form bytes) = bytes
sent step = []

-- the forms that were saved before bytes were sent
abbrev pub forms : Step → List (List ℕ)
forms (Write form bytes) = form ∷ []
forms step = []

-- the times that the clock reported
abbrev pub readings : Step → List ℕ
readings (Connect now clean) = now ∷ []
readings (Hear now bytes told closed) = now ∷ []
readings (Tick now) = now ∷ []
readings (Starve now) = now ∷ []
readings step = []

-- the requests of the user
abbrev pub asked : Step → List Ask
asked (Connect now clean) = Opening clean ∷ []
asked (Publish message) = Publication message ∷ []
asked (Subscribe requests) = Subscription requests ∷ []
asked (Unsubscribe filters) = Unsubscription filters ∷ []
asked step = []

-- the happenings
abbrev pub told : Step → List Happening
told (Hear now bytes happenings closed) = happenings
told step = []

-- why the end closed
abbrev pub closed : Step → List CloseReason
closed (Hear now bytes happenings why) = option_to_list why
closed step = []

-- Between two states the end ran through steps, with these requests, happenings and reasons to
-- close. It received the bytes that came over the stream. The bytes that were sent are its output,
-- and before each write the session of that state was saved. Its clock was set to each time that
-- the clock reported, in order.
pub record Went (earlier later : Moment) (asks : List Ask) (happenings : List Happening) (reasons : List CloseReason) : Type 0 where
  pub steps : List Step
  pub runs : Runs earlier.client steps later.client
  pub comes : Consumes earlier.coming later.coming (flat_map heard steps)
  pub goes : Appends earlier.written later.written (flat_map sent steps)
  pub holds : Holds earlier.kept later.kept (flat_map forms steps)
  pub clock : Appends earlier.times later.times (flat_map readings steps)
  pub asks_are : asks ≡ flat_map asked steps
  pub happenings_are : happenings ≡ flat_map told steps
  pub reasons_are : reasons ≡ flat_map closed steps
  pub limit : later.line.limit ≡ earlier.line.limit

-- only a front of these requests was made
pub record WentFirst (earlier later : Moment) (all : List Ask) (happenings : List Happening) (reasons : List CloseReason) : Type 0 where
  pub asks : List Ask
  pub rest : List Ask
  pub parts : all ≡ asks ++ rest
  pub went : Went earlier later asks happenings reasons

-- The clock of the client is set to a time that the clock reports, and nothing is sent or received.
pub record Ticked (now : ℕ) (earlier later : Moment) : Type 0 where
  pub ticks : Ticks now earlier.client.link later.client.link
  pub coming : later.coming ≡ earlier.coming
  pub written : later.written ≡ earlier.written
  pub kept : later.kept ≡ earlier.kept
  pub clock : Appends earlier.times later.times (now ∷ [])
  pub line : later.line ≡ earlier.line

-- The connection may be lost: too many reads in a row brought nothing, or the stream ended or
-- failed.
abbrev pub MayBeLost : Moment → Moment → Type 0
MayBeLost earlier later = (earlier.line.limit ≤ earlier.line.quiet) ⊎ (later.line.closed ≡ true)

-- The client leaves: after the pending output, DISCONNECT is sent last (3.14).
pub record Leaves (earlier later : Moment) : Type 0 where
  pub last : List ℕ
  pub disconnects : PutsOut (packets.Disconnect ∷ []) earlier.client.link.output last
  pub goes : Appends earlier.written later.written last

-- everything that it published is acknowledged (4.3.2, 4.3.3)
abbrev pub IsIdle : End → Type 0
IsIdle end = (end.book.entries ≡ []) × (end.book.released ≡ [])

-- a message counts as published exactly if the result is `Ok true`
abbrev pub asked_by : Result Bool ClientError → Message → List Ask
asked_by (Ok true) message = Publication message ∷ []
asked_by (Ok false) message = []
asked_by (Err error) message = []
