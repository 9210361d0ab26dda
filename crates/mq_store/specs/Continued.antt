-- The files of a folder, by name, and a folder that continues in another journal.
use Rattle.std.specs.Prelude.{ℕ, ◌+◌, ◌<◌, ◌≤◌, List, ◌++◌, Some, codes, decimal, string_bytes}
use Rattle.mq_durable.specs.State.{DurableState}
use Rattle.mq_file.specs.declared.journal_file.JournalFile.{JournalFile}
use Rattle.mq_file.specs.History.{file_size}
use Rattle.mq_file.specs.FolderHistory.{FolderCall, files_after}
use Rattle.mq_file.specs.Named.{IsEitherPair, IsSwitched, Throughout}
use Rattle.mq_route.specs.Hub.{HubState}
use Rattle.mq_store.specs.declared.data_folder.DataFolder.{DataFolder}
use Rattle.mq_store.specs.SnapshotFile.{saved_file}

-- the names of the files in the folder of this name
abbrev pub snapshot_path : List ℕ → List ℕ
snapshot_path path = path ++ codes "/snapshot"

abbrev pub journal_path : List ℕ → ℕ → List ℕ
journal_path path nth = path ++ (codes "/journal." ++ decimal nth)

-- The file `snapshot` has these bytes, the journal of the second number is empty, and that of the
-- first one is removed.
abbrev pub IsContinued : (path bytes : List ℕ) (first second : ℕ) → List FolderCall → List FolderCall → Type 0
IsContinued path bytes first second old new =
    IsSwitched (snapshot_path path) bytes (journal_path path first) (journal_path path second)
    (files_after old).now (files_after new).now

-- A crash at any time leaves the old file with the journal of the first number, both unchanged, or
-- the file with these bytes with the journal of the second one, which is empty. The writes of an
-- open journal are in its own record, and not in that of the folder.
abbrev pub MayContinue : (path bytes : List ℕ) (first second : ℕ) → List FolderCall → List FolderCall → Type 0
MayContinue path bytes first second old new =
    Throughout (IsEitherPair (snapshot_path path) bytes (journal_path path first) (journal_path path second))
    (Some (files_after old)) (Some (files_after new))

-- the file `snapshot` of a broker that continues in the next journal of a folder
abbrev pub next_snapshot : DataFolder → HubState → List ℕ
next_snapshot folder hub = saved_file (folder.nth + 1) folder.config.items hub

-- The journal has an event, and has reached its size.
abbrev pub IsFull : DataFolder → DurableState JournalFile → Type 0
IsFull folder durable =
    (1 < file_size durable.disk) × (folder.options.journal_size ≤ file_size durable.disk)

-- The folder continues in its next journal, and the file `snapshot` has the broker.
abbrev pub HasNext : DataFolder → HubState → DataFolder → Type 0
HasNext old hub new =
    IsContinued (string_bytes old.path) (next_snapshot old hub) old.nth (old.nth + 1) old.folder new.folder

-- A crash at any time leaves the old files or the next ones.
abbrev pub MayHaveNext : DataFolder → HubState → DataFolder → Type 0
MayHaveNext old hub new =
    MayContinue (string_bytes old.path) (next_snapshot old hub) old.nth (old.nth + 1) old.folder new.folder
