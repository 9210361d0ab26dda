-- The end of a round: which connections have pending output, and which must be ended (4.6).
use Rattle.std.specs.Prelude.{◌≡◌, ◌⊎◌, ℕ, ◌+◌, ◌<◌, ◌≤◌, ◌==◌, ◌||◌, Bool, true, false, not, List, [], ◌++◌, length, Option, Some, None, IfSome, is_some}
use Rattle.std.specs.List.{count_by, list_any}
use Rattle.mq_route.specs.declared.act.Act.{Act}
use Rattle.mq_route.specs.declared.act.Act.TheVariants as acts
use Rattle.mq_route.specs.declared.event.HubEvent.TheVariants.{Bytes, Collect}
use Rattle.mq_route.specs.declared.reply.HubReply.{HubReply}
use Rattle.mq_route.specs.Begun.{MayBegin}
use Rattle.mq_route.specs.Hub.{HubState, is_for, stage_of, waiting_on}
use Rattle.mq_route.specs.Routed.{seen}
use Rattle.mq_route.specs.Runs.{Episode, Follows}
use Rattle.mq_route.specs.Step.{HubStep}
use Rattle.mq_loop.specs.declared.broker.SnapshotNote.{SnapshotNote}
use Rattle.mq_loop.specs.declared.connection.Flushed.{Flushed}
use Rattle.mq_loop.specs.declared.connection.Flushed.TheVariants.{All, Blocked, Failed}
use Rattle.mq_loop.specs.declared.served.Given.{Given}
use Rattle.mq_loop.specs.declared.served.Given.TheVariants.{Written, Full, Finished}
use Rattle.mq_loop.specs.declared.served.Heard.{Heard}
use Rattle.mq_loop.specs.declared.served.Heard.TheVariants.{Step, Nothing, Over}
use Rattle.mq_loop.specs.Accounts.{Line, ServedState, line_at, name_at, served_state, without_notes}
use Rattle.mq_loop.specs.Calls.{Ages, Call, age_at}
use Rattle.mq_loop.specs.Places.{is_in}

-- ---- brokers

-- The broker was reached by steps from one with which a run may begin: a new one, or one that was
-- restored after a restart (3.1.2.4).
pub record IsReached (hub : HubState) : Type 0 where
  pub begun : HubState
  pub may_begin : MayBegin begun
  pub before : List Episode
  pub follows : Follows begun before hub

-- ---- output

-- The output that is kept for a connection, whether its socket takes no byte now, and whether the
-- connection must be ended: nothing more comes from its socket, it failed, or bytes are lost.
pub record Output : Type 0 where
  pub kept : List ℕ
  pub full : Bool
  pub finished : Bool

-- the output of the connection at a place
abbrev pub output_of : Option Line → Option Output
output_of None = None
output_of (Some line) = Some record { kept = line.kept; full = line.full; finished = line.broken || line.finished }

abbrev pub output_at : ℕ → List (Option Line) → Option Output
output_at place lines = output_of (line_at place lines)

-- A connection with these pending bytes at the broker need not be ended, and they are at most the
-- limit. Nothing is pending, at the broker or here, unless its socket takes no byte.
abbrev pub IsWritten : ℕ → List ℕ → Output → Type 0
IsWritten most waiting output =
    (output.finished ≡ false)
    × (length waiting ≤ most)
    × ((output.full ≡ true) ⊎ ((waiting ≡ []) × (output.kept ≡ [])))

-- the pending bytes at the broker of the connection at a place
abbrev pub waiting_at : ℕ → ServedState → List ℕ
waiting_at place served = waiting_on (name_at place) served.hub.connections

-- the same for the connection at a place, if there is one
abbrev pub IsWrittenAt : ℕ → ℕ → ServedState → Type 0
IsWrittenAt most place served = IfSome (output_at place served.lines) (IsWritten most (waiting_at place served))

-- ---- calls on a broker and its connections

-- A call that changes no place.
pub record IsSame (old new : ServedState) : Type 0 where
  pub base : new.base ≡ old.base
  pub places : length new.lines ≡ length old.lines

-- the output that is kept for the connection at a place
abbrev pub kept_of : Option Line → List ℕ
kept_of None = []
kept_of (Some line) = line.kept

abbrev pub kept_at : ℕ → List (Option Line) → List ℕ
kept_at place lines = kept_of (line_at place lines)

-- the number of bytes that are pending for the connection at a place, here and at the broker
abbrev pub pending_at : ℕ → ServedState → ℕ
pending_at place served = length (kept_at place served.lines) + length (waiting_at place served)

-- bytes of the connection wait for a step, or it must be ended
abbrev pub has_unread : Option Line → Bool
has_unread None = false
has_unread (Some line) = (line.broken || line.finished) || not (length line.unread == 0)

-- the output of each connection is as before; or that of each but one
abbrev pub OutputStays : List (Option Line) → List (Option Line) → Type 0
OutputStays old new = (place : ℕ) → output_at place new ≡ output_at place old

abbrev pub OthersStay : ℕ → List (Option Line) → List (Option Line) → Type 0
OthersStay place old new = (other : ℕ) → ¬ other ≡ place → output_at other new ≡ output_at other old

-- a read: the broker made a step with bytes of the connection, or it made none
abbrev pub Hears : ℕ → HubState → HubState → Heard → Type 0
Hears place old new (Step count reply) = (bytes : List ℕ) × HubStep old (Bytes (name_at place) bytes) reply new
Hears place old new Nothing = new ≡ old
Hears place old new Over = new ≡ old

-- only a read that returns nothing leaves the output of its connection as it is for certain
abbrev pub HearsNothing : List (Option Line) → List (Option Line) → Heard → Type 0
HearsNothing old new (Step count reply) = Unit {0}
HearsNothing old new Nothing = OutputStays old new
HearsNothing old new Over = Unit {0}

-- kept output was written: all of it, or as much as the socket takes, or the socket failed
abbrev pub IsFlushed : Flushed → Output → Output → Type 0
IsFlushed All old new = (new.kept ≡ []) × (new.finished ≡ old.finished)
IsFlushed Blocked old new = (new.full ≡ true) × (new.finished ≡ old.finished)
IsFlushed Failed old new = Unit {0}

-- the outputs of a connection before and after a call
abbrev pub AtOutputs : Option Output → Option Output → (Output → Output → Type 0) → Type 0
AtOutputs None None P = Unit {0}
AtOutputs None (Some new) P = ⊥
AtOutputs (Some old) None P = ⊥
AtOutputs (Some old) (Some new) P = P old new

-- the connection need not be ended, and its socket takes no byte
abbrev pub IsFull : Output → Type 0
IsFull output = (output.finished ≡ false) × (output.full ≡ true)

-- Output was given to the socket of the connection at a place, if there is one. If it was
-- collected, nothing is pending at the broker.
abbrev pub IsGiven : Given → ℕ → ServedState → Type 0
IsGiven (Written count) place served = IsWrittenAt 0 place served
IsGiven Full place served = IfSome (output_at place served.lines) IsFull
IsGiven Finished place served = Unit {0}

-- a collect: the broker made its step, or it made none, because output is kept
abbrev pub Collects : ℕ → HubState → HubState → Option Output → Option Bool → Type 0
Collects place old new output (Some alive) = (reply : HubReply) × HubStep old (Collect (name_at place)) reply new
Collects place old new output None = (new ≡ old) × IfSome output (λ o. ¬ o.kept ≡ [])

-- at most a collect
abbrev pub MayCollect : ℕ → HubState → HubState → Type 0
MayCollect place old new = (new ≡ old) ⊎ ((reply : HubReply) × HubStep old (Collect (name_at place)) reply new)

-- ---- notes

-- the act is a copy that is placed for a client
unfoldable pub is_copy_for : ℕ → Act → Bool
is_copy_for client (acts.Placed other message) = other == client
is_copy_for client (acts.Missed other message) = false
is_copy_for client (acts.Took publisher message) = false
is_copy_for client (acts.Will publisher message) = false
is_copy_for client (acts.Subscribed other topic_filter qos) = false
is_copy_for client (acts.Unsubscribed other topic_filter) = false
is_copy_for client (acts.Up conn other present) = false
is_copy_for client (acts.Closed conn why) = false
is_copy_for client (acts.Removed other) = false
is_copy_for client (acts.WillDropped other) = false

-- The notes of a loop: the place of each client that is connected, the places that may have output
-- at the broker, and those that must be ended.

-- a client that is connected at a place by the acts of a broker is noted there, or the place must
-- be ended
abbrev pub AreNotedAt : ℕ → List Act → (ℕ → Option ℕ) → List Bool → Type 0
AreNotedAt place log place_of over =
    (client : ℕ) → (seen client log).up ≡ Some (name_at place) → (place_of client ≡ Some place) ⊎ (is_in place over ≡ true)

-- each place of the first set is in the second
abbrev pub AllIn : List Bool → List Bool → Type 0
AllIn old new = (place : ℕ) → is_in place old ≡ true → is_in place new ≡ true

-- The notes after further acts.
pub record IsNoted (log : List Act) (place_of : ℕ → Option ℕ) (marked over : List Bool) (later_place_of : ℕ → Option ℕ) (later_marked later_over : List Bool) : Type 0 where
  pub marked_places : length later_marked ≡ length marked
  pub over_places : length later_over ≡ length over
  pub marked_stay : AllIn marked later_marked
  pub over_stay : AllIn over later_over
  -- a client stays noted at its place, unless the place is marked
  pub stays : (client place : ℕ) → place < length marked → place_of client ≡ Some place
      → (later_place_of client ≡ Some place) ⊎ (is_in place later_marked ≡ true)
  -- the place of a client for which a copy is placed is marked
  pub marks : (client place : ℕ) → place < length marked → place_of client ≡ Some place
      → list_any (is_copy_for client) log ≡ true → is_in place later_marked ≡ true
  pub noted : (place : ℕ) → place < length over → (before : List Act) → AreNotedAt place before place_of over
      → AreNotedAt place (before ++ log) later_place_of later_over

-- ---- watched connections

-- a connection exists at the place
abbrev pub exists_at : ℕ → List (Option Line) → Bool
exists_at place lines = is_some (output_at place lines)

-- The notes miss nothing: a client that is connected at a place is noted there, and a place with
-- pending output that its socket may take, or that exceeds the limit, is marked; or the place must
-- be ended.
pub record IsWatched (most : ℕ) (served : ServedState) (place_of : ℕ → Option ℕ) (marked over : List Bool) : Type 0 where
  pub reached : IsReached served.base
  pub marked_places : length served.lines ≤ length marked
  pub over_places : length served.lines ≤ length over
  pub noted : (client place : ℕ) → exists_at place served.lines ≡ true
      → is_for client (stage_of (name_at place) served.hub.connections) ≡ true → (place_of client ≡ Some place) ⊎ (is_in place over ≡ true)
  pub written : (place : ℕ) → IsWrittenAt most place served ⊎ ((is_in place marked ≡ true) ⊎ (is_in place over ≡ true))

-- the number of connections
abbrev pub connections_in : List (Option Line) → ℕ
connections_in lines = count_by is_some lines

-- The notes miss nothing, and the count is the number of connections.
pub record IsCounted (most : ℕ) (served : ServedState) (place_of : ℕ → Option ℕ) (marked over : List Bool) (count : ℕ) : Type 0 where
  pub watched : IsWatched most served place_of marked over
  pub counted : count ≡ connections_in served.lines

-- A broker and the connections that it serves, with notes, for contracts: the limit on the pending
-- bytes of a connection whose socket takes none, the places that may have output at the broker,
-- those that must be ended, and whether the broker refused to end one of them in this round,
-- because an allocation failed.
pub record WatchedState : Type 0 where
  pub served : ServedState
  pub most_owed : ℕ
  pub marked : List Bool
  pub over : List Bool
  pub failed : Bool

abbrev pub watched_state : ServedState → ℕ → List Bool → List Bool → Bool → WatchedState
watched_state served most_owed marked over failed =
    record { served = served; most_owed = most_owed; marked = marked; over = over; failed = failed }

-- no place is in the set
abbrev pub IsEmpty : List Bool → Type 0
IsEmpty flags = (place : ℕ) → is_in place flags ≡ false

-- the connection at a place must be ended, and an allocation for its end failed
abbrev pub IsLeft : ℕ → WatchedState → Type 0
IsLeft place watched = (is_in place watched.over ≡ true) × (watched.failed ≡ true)

-- Each connection has nothing pending that its socket would take, and none is left that must be
-- ended, unless an allocation failed.
abbrev pub IsSettled : WatchedState → Type 0
IsSettled watched = (place : ℕ) → IsWrittenAt watched.most_owed place watched.served ⊎ IsLeft place watched

-- No connection is owed more than the limit: at most this number of bytes is pending at the broker
-- for each one that exists. Others are ended, unless an allocation failed.
abbrev pub AreBounded : WatchedState → Type 0
AreBounded watched =
    (place : ℕ) → exists_at place watched.served.lines ≡ true
    → (length (waiting_at place watched.served) ≤ watched.most_owed) ⊎ IsLeft place watched

-- ---- loops

-- A loop, for contracts: its broker and connections, with notes; whether a commit failed, after
-- which the loop does nothing any more; the ages of the connections; and its observer.
pub record LoopState (O : Type 0) : Type 0 where
  pub watched : WatchedState
  pub stopped : Bool
  pub ages : Ages
  pub observer : O

-- a loop with this limit that has made no round yet
abbrev pub new_loop : {O : Type 0} → HubState → Bool → Option (List Call) → List SnapshotNote → ℕ → O → LoopState O
new_loop hub committed calls notes most_owed observer = record {
  watched = watched_state (served_state hub hub [] committed calls notes) most_owed [] [] false;
  stopped = false;
  ages = record { opened = 0; at_places = [] };
  observer = observer;
}

-- the ages of all connections are as before
abbrev pub AgesStay : {O : Type 0} → LoopState O → LoopState O → Type 0
AgesStay old new =
    (new.ages.opened ≡ old.ages.opened) × ((place : ℕ) → age_at place new.ages ≡ age_at place old.ages)

-- A connection was opened at a place: it is the newest, and the others are unchanged.
pub record IsOpened {O : Type 0} (place : ℕ) (old new : LoopState O) : Type 0 where
  pub exists : exists_at place new.watched.served.lines ≡ true
  pub opened : new.ages.opened ≡ old.ages.opened + 1
  pub newest : age_at place new.ages ≡ new.ages.opened
  pub others : (other : ℕ) → ¬ other ≡ place → age_at other new.ages ≡ age_at other old.ages

-- the same loop without notes
abbrev pub loop_without_notes : {O : Type 0} → LoopState O → LoopState O
loop_without_notes old = record old { watched = record old.watched { served = without_notes old.watched.served } }
