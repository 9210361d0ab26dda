-- The calls of a durable broker, and the promise over a run of them.
use Rattle.std.specs.Prelude.{◌≡◌, ℕ, List, [], ◌∷◌, ◌++◌}
use Rattle.mq_route.specs.declared.conn.Conn.{Conn}
use Rattle.mq_route.specs.declared.event.HubEvent.{HubEvent}
use Rattle.mq_durable.specs.Recorded.{events_of, HoldsAllOrNone}
use Rattle.mq_durable.specs.State.{DurableState}

-- a call that returned `Ok`
pub data DurableCall : Type 0 where
  Stepped : (event : HubEvent) → DurableCall
  Committed : DurableCall
  Collected : (conn : Conn) → DurableCall
  Continued : DurableCall

-- The changes of a call. An arrived event is pending, and a commit moves the pending events into
-- the file. Output is collected, and another file is begun, only while no event is pending. The
-- broker is then the base of the new file.
abbrev pub MakesCall : {D : Type 0} → (D → List ℕ) → DurableCall → DurableState D → DurableState D → Type 0
MakesCall seen (Stepped event) old new =
    (new.disk ≡ old.disk) × (new.pending ≡ old.pending ++ event ∷ [])
MakesCall seen Committed old new =
    (events_of (seen new.disk) ≡ events_of (seen old.disk) ++ old.pending) × (new.pending ≡ [])
MakesCall seen (Collected conn) old new =
    (old.pending ≡ []) × (new.disk ≡ old.disk) × (new.pending ≡ [])
MakesCall seen Continued old new =
    (old.pending ≡ []) × (new.base ≡ old.hub) × (events_of (seen new.disk) ≡ []) × (new.pending ≡ [])

-- calls, one after another
abbrev pub MakesCalls : {D : Type 0} → (D → List ℕ) → DurableState D → List DurableCall → DurableState D → Type 0
MakesCalls seen old [] new = new ≡ old
MakesCalls {D} seen old (call ∷ calls) new =
    (next : DurableState D) × MakesCall seen call old next × MakesCalls seen next calls new

-- the events that came since the file was begun, after the earlier ones
abbrev pub came : List HubEvent → List DurableCall → List HubEvent
came before [] = before
came before (Stepped event ∷ calls) = came (before ++ event ∷ []) calls
came before (Committed ∷ calls) = came before calls
came before (Collected conn ∷ calls) = came before calls
came before (Continued ∷ calls) = came [] calls

-- the events among them that came before output was last collected; `last` if none is
abbrev pub shown : List HubEvent → List HubEvent → List DurableCall → List HubEvent
shown before last [] = last
shown before last (Stepped event ∷ calls) = shown (before ++ event ∷ []) last calls
shown before last (Committed ∷ calls) = shown before last calls
shown before last (Collected conn ∷ calls) = shown before before calls
shown before last (Continued ∷ calls) = shown [] [] calls

-- the first list is a prefix of the second
abbrev pub IsPrefix : List HubEvent → List HubEvent → Type 0
IsPrefix front all = (rest : List HubEvent) × (all ≡ front ++ rest)

pub record DurableLaws {D : Type 0} (seen : D → List ℕ) : Type 0 where
  -- After any calls, and at any time of a further commit, a crash leaves a prefix of the events
  -- that came since the file was begun. It has each of them that came before output was last
  -- collected.
  pub promise : (old new : DurableState D) (calls : List DurableCall) (file : List ℕ)
      → MakesCalls seen old calls new → HoldsAllOrNone (events_of (seen new.disk)) new.pending file
      → IsPrefix (shown (events_of (seen old.disk) ++ old.pending) (events_of (seen old.disk)) calls) (events_of file)
      × IsPrefix (events_of file) (came (events_of (seen old.disk) ++ old.pending) calls)
