-- A folder as the record of the calls on its files, of this process and of earlier ones.
use Rattle.std.specs.Prelude.{◌≡◌, ℕ, ◌==◌, List, [], ◌∷◌, ◌++◌, None, Some, bytes_eq, slice_index, if◌then◌else◌}
use Rattle.mq_file.specs.Named.{Content, Files, Outcomes, present}

-- A call on a folder: a write of a whole file that succeeded, or that failed; a file that took
-- another name; a removal; a sync of the names; and any other call that failed. `left` has the
-- contents that a crash may leave under the name during a write, and after one that failed.
pub data FolderCall : Type 0 where
  WroteFile : (name bytes : List ℕ) → (left : List Content) → FolderCall
  Stumbled : (name : List ℕ) → (left : List Content) → FolderCall
  Moved : (from to : List ℕ) → FolderCall
  Gone : (name : List ℕ) → FolderCall
  SyncedNames : FolderCall
  Failed : FolderCall

-- the call that a number, a name and bytes describe
abbrev pub folder_call : List ℕ → List ℕ → List ℕ → List Content → FolderCall
folder_call numbers name bytes left =
    if slice_index numbers 0 == 0 then WroteFile name bytes left
    else (if slice_index numbers 0 == 1 then Stumbled name left
    else (if slice_index numbers 0 == 2 then Moved name bytes
    else (if slice_index numbers 0 == 3 then Gone name
    else (if slice_index numbers 0 == 4 then SyncedNames else Failed))))

-- The record has one more call. Its last part is not known.
abbrev pub IsNoted : List ℕ → List ℕ → List ℕ → List FolderCall → List FolderCall → Type 0
IsNoted numbers name bytes old new =
    (left : List Content) × (new ≡ folder_call numbers name bytes left ∷ old)

-- other outcomes under one name
abbrev pub with_name : List ℕ → List Content → Outcomes → Outcomes
with_name name contents old other = if bytes_eq name other then contents else old other

-- the outcomes after a call
abbrev pub outcomes_after : FolderCall → Outcomes → Outcomes
outcomes_after (WroteFile name bytes left) old =
    with_name name (old name ++ Some bytes ∷ []) old
outcomes_after (Stumbled name left) old = with_name name left old
outcomes_after (Moved from to) old =
    with_name to (old to ++ present (old from) ∷ [])
    (with_name from (old from ++ None ∷ []) old)
outcomes_after (Gone name) old = with_name name (old name ++ None ∷ []) old
outcomes_after SyncedNames old = λ name. present (old name) ∷ []
outcomes_after Failed old = old

-- the outcomes until the end of a call, the latest first
abbrev pub outcomes_until : FolderCall → Outcomes → List Outcomes
outcomes_until (WroteFile name bytes left) old = with_name name left old ∷ old ∷ []
outcomes_until (Stumbled name left) old = old ∷ []
outcomes_until (Moved from to) old = old ∷ []
outcomes_until (Gone name) old = old ∷ []
outcomes_until SyncedNames old = old ∷ []
outcomes_until Failed old = old ∷ []

-- the files after calls on a folder that had none, the newest call first
abbrev pub files_after : List FolderCall → Files
files_after [] = record { now = λ name. None ∷ []; before = [] }
files_after (call ∷ earlier) = record {
  now = outcomes_after call (files_after earlier).now;
  before = outcomes_until call (files_after earlier).now ++ (files_after earlier).before;
}
