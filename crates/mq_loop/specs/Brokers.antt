-- Events of a broker, and its notes.
use Rattle.std.specs.Prelude.{◌≡◌, Bool, true, false, List, length, take}
use Rattle.mq_loop.specs.declared.broker.SnapshotNote.{SnapshotNote}
use Rattle.mq_route.specs.declared.event.HubEvent.{HubEvent}
use Rattle.mq_route.specs.declared.event.HubEvent.TheVariants.{Opened, Bytes, Ended, Tick, Collect}

-- The event changes more than the pending output of a connection: all events but `Collect`.
abbrev pub is_input : HubEvent → Bool
is_input (Opened conn) = true
is_input (Bytes conn piece) = true
is_input (Ended conn) = true
is_input (Tick now) = true
is_input (Collect conn) = false

-- the second list is the first one, followed by others
abbrev pub Continues : List SnapshotNote → List SnapshotNote → Type 0
Continues old new = take (length old) new ≡ old
