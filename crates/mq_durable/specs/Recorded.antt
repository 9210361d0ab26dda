-- The events that are recorded in an entry, and in the file of a journal.
use Rattle.std.specs.Prelude.{◌≡◌, ◌≢◌, ◌⊎◌, ℕ, List, [], ◌∷◌, ◌++◌, drop, Result, Ok, Err}
use Rattle.std.specs.List.{flat_map, AllByRecursion}
use Rattle.mq_route.specs.declared.event.HubEvent.{HubEvent}
use Rattle.mq_record.specs.declared.fault.RecordFault.{RecordFault}
use Rattle.mq_record.specs.Reading.{read_event, IsEntry}
use Rattle.mq_log.specs.Blocks.{entries, gate, rest}

-- the event that was read, and those behind it
abbrev pub first_and_more : Result (HubEvent × ℕ) RecordFault → (ℕ → List HubEvent) → List HubEvent
first_and_more (Ok found) more = found.0 ∷ more found.1
first_and_more (Err fault) more = []

-- the events in front of the bytes; the first list bounds the recursion
abbrev pub events_within : List ℕ → List ℕ → List HubEvent
events_within [] bytes = []
events_within (_ ∷ bound) bytes =
    first_and_more (read_event bytes) (λ size. events_within bound (drop size bytes))

-- the events of an entry
unfoldable pub events_in : List ℕ → List HubEvent
events_in entry = events_within entry entry

-- the events of a file, in order
unfoldable pub events_of : List ℕ → List HubEvent
events_of file = flat_map events_in (entries file)

-- each entry of a file is the encodings of its events, and nothing else
abbrev pub IsReadable : List ℕ → Type 0
IsReadable file = AllByRecursion (λ entry. IsEntry (events_in entry) entry) (entries file)

-- A crash left the events that were recorded before, or these and the pending ones. It left no
-- entry that cannot be read, and no open gate behind the entries.
pub record HoldsAllOrNone (before pending : List HubEvent) (file : List ℕ) : Type 0 where
  pub holds : (events_of file ≡ before) ⊎ (events_of file ≡ before ++ pending)
  pub readable : IsReadable file
  pub no_damage : gate (rest file) ≢ 1

-- each content that a crash may leave has P
abbrev pub AfterCrash : (List ℕ → Type 0) → (List ℕ → Type 0) → Type 0
AfterCrash may_leave P = (file : List ℕ) → may_leave file → P file
