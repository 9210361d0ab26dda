-- The whole programs, over connections that are made for them.
use Rattle.std.specs.Prelude.{◌≡◌, ◌⊎◌, ℕ, Bool, true, false, List, [], ◌++◌, Option}
use Rattle.mq_end.specs.Publishing.{ClientState}
use Rattle.mq_end.specs.declared.reason.CloseReason.TheVariants.{SessionLost}
use Rattle.mq_client.specs.declared.error.ClientError.{ClientError}
use Rattle.mq_client.specs.declared.error.ClientError.TheVariants.{Closed}
use Rattle.mq_client.specs.declared.client.LoadFailure.{LoadFailure}
use Rattle.mq_client.specs.declared.collector.CollectGoal.{CollectGoal}
use Rattle.mq_client.specs.declared.publisher.Publications.{Publications}
use Rattle.mq_client.specs.Course.{Moment}
use Rattle.mq_client.specs.Disk.{Contains, FileState, IsMissing, history_of, stands_of}
use Rattle.mq_client.specs.Halts.{halt_status, unloaded_status}
use Rattle.mq_client.specs.Keeping.{marked_form}
use Rattle.mq_client.specs.Printed.{halt_line, resumed_line, unloaded_line}
use Rattle.mq_client.specs.Program.{GoesOn, IsNewClient}
use Rattle.mq_client.specs.Publishing.{IsPublishDone, IsResumeDone, Published, resumed_of}
use Rattle.mq_client.specs.Collecting.{IsCollectDone}

-- the program ended before there was a connection
abbrev pub HaltsBefore : ℕ → List ℕ → Type 0
HaltsBefore status text = (halt : ClientError) × (status ≡ halt_status halt) × (text ≡ halt_line halt)

-- `publish` by a new client with this identifier, over a clean session
abbrev pub IsTextsDone : List ℕ → Publications → ℕ → List ℕ → Type 0
IsTextsDone id publications status text =
    ((earlier : Moment) × (later : Moment) × IsNewClient id earlier.client × IsPublishDone earlier later true publications status text)
    ⊎ HaltsBefore status text

-- `collect` by a new client with this identifier
abbrev pub IsMessagesDone : List ℕ → Bool → CollectGoal → ℕ → List ℕ → Type 0
IsMessagesDone id clean goal status text =
    ((earlier : Moment) × (later : Moment) × IsNewClient id earlier.client × IsCollectDone earlier later clean goal status text)
    ⊎ HaltsBefore status text

-- a connection with a clean session discarded the session that the server had of this client
-- (3.1.2.4)
abbrev pub IsDiscarded : List ℕ → Type 0
IsDiscarded id =
    (earlier : Moment) × (later : Moment) × (publications : Publications) × IsNewClient id earlier.client
    × (publications.texts.now ≡ []) × Published earlier later true publications

-- There is no session to continue with: it is forgotten, or there is no file of this name.
abbrev pub IsAbsent : Option (List ℕ → List FileState) → List ℕ → Bool → Type 0
IsAbsent files name forgotten = (forgotten ≡ true) ⊎ IsMissing files name

-- The client has the session whose saved form is in the file of this name. The file says whether
-- the server lost the session.
abbrev pub IsLoadedOf : Option (List ℕ → List FileState) → List ℕ → List ℕ → Bool → ClientState → Type 0
IsLoadedOf files name id lost client = (form : List ℕ) × Contains files name (marked_form lost form) × GoesOn id form client

-- A client with this identifier. If there is no session to continue with, it is new, and the
-- server's session was discarded. Otherwise it has the session in the file.
abbrev pub IsClientOf : Option (List ℕ → List FileState) → List ℕ → Bool → List ℕ → Bool → ClientState → Type 0
IsClientOf files name forgotten id lost client =
    (IsAbsent files name forgotten × IsNewClient id client × IsDiscarded id × (lost ≡ false))
    ⊎ IsLoadedOf files name id lost client

-- An earlier run found out that the server lost the session of this client.
abbrev pub IsLostDone : ClientState → ℕ → List ℕ → Type 0
IsLostDone client status text =
    (status ≡ 1) × (text ≡ resumed_line (resumed_of client.link.end) ++ halt_line (Closed SessionLost))

-- the session was not loaded
abbrev pub IsUnloaded : ℕ → List ℕ → Type 0
IsUnloaded status text = (why : LoadFailure) × (status ≡ unloaded_status why) × (text ≡ unloaded_line why)

-- `publish` by a client with this identifier, over the session in the file of this name, or over a
-- new one. If the file says that the server lost the session, that is reported.
abbrev pub IsSessionDone : Option (List ℕ → List FileState) → List ℕ → Bool → List ℕ → Publications → ℕ → List ℕ → Type 0
IsSessionDone files name forgotten id publications status text =
    ((earlier : Moment) × (later : Moment) × IsClientOf files name forgotten id false earlier.client
    × (earlier.kept ≡ stands_of (history_of files name)) × IsResumeDone earlier later publications status text)
    ⊎ (HaltsBefore status text ⊎ (IsUnloaded status text
    ⊎ ((client : ClientState) × IsClientOf files name forgotten id true client × IsLostDone client status text)))
