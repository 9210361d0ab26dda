-- The events that are recorded in an entry, and in the file of a journal. Only proofs cite these
-- definitions.
use Rattle.std.specs.Prelude.{ℕ, List, Vec}
use Rattle.std.specs.declared.alloc.Global.{Global}
use Rattle.std.specs.List.{flat_map, AllByRecursion}
use Rattle.mq_route.specs.declared.event.HubEvent.{HubEvent}
use Rattle.mq_record.specs.Reading.{IsEntry}
use Rattle.mq_durable.specs.Recorded.{events_in}

-- the events of several entries, in order
unfoldable pub events_in_all : List (Vec ℕ Global) → List HubEvent
events_in_all all = flat_map (λ v. events_in v.items) all

-- each of these entries is the encodings of its events, and nothing else
abbrev pub AreReadable : List (Vec ℕ Global) → Type 0
AreReadable all = AllByRecursion (λ v. IsEntry (events_in v.items) v.items) all
