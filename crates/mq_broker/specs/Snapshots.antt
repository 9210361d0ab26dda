-- Snapshots that a broker writes while it runs, and their lines in the log.
use Rattle.std.specs.Prelude.{◌≡◌, ◌⊎◌, ℕ, List, [], ◌∷◌, ◌++◌, length}
use Rattle.mq_route.specs.Hub.{HubState}
use Rattle.mq_loop.specs.declared.broker.SnapshotNote.{SnapshotNote}
use Rattle.mq_store.specs.declared.data_folder.DataFolder.{DataFolder}
use Rattle.mq_store.specs.Continued.{HasNext, next_snapshot}

-- the note has the number of bytes of this snapshot, and the number of sessions of the broker
abbrev pub IsAbout : List ℕ → HubState → SnapshotNote → Type 0
IsAbout snapshot hub note = (note.bytes ≡ length snapshot) × (note.sessions ≡ length hub.sessions)

-- The folder continues in its next journal, and there is one more note, about the snapshot.
abbrev pub IsNoted : DataFolder → HubState → DataFolder → List SnapshotNote → List SnapshotNote → Type 0
IsNoted folder hub next old new =
    HasNext folder hub next
    × ((note : SnapshotNote) × ((new ≡ old ++ note ∷ []) × IsAbout (next_snapshot folder hub) hub note))

-- A snapshot is noted if the folder continues in its next journal. Otherwise the folder and the
-- notes are as before.
abbrev pub NotesNext : DataFolder → HubState → DataFolder → List SnapshotNote → List SnapshotNote → Type 0
NotesNext folder hub next old new =
    IsNoted folder hub next old new ⊎ ((next ≡ folder) × (new ≡ old))
