-- Named files, and what a crash may leave of them.
use Rattle.std.specs.Prelude.{◌≡◌, ◌⊎◌, ⊤, ℕ, Bool, true, false, List, [], ◌∷◌, ◌++◌, Option, Some, None}

-- A file as a crash leaves it: none, or some bytes. The flag says whether the bytes are on the disk
-- for certain.
abbrev pub FileState : Type 0
FileState = Option (Bool × List ℕ)

-- bytes that a crash may still change
abbrev pub volatile : List ℕ → FileState
volatile bytes = Some (false, bytes)

-- bytes that a crash leaves as they are
abbrev pub durable : List ℕ → FileState
durable bytes = Some (true, bytes)

-- the file after a sync
abbrev pub synced : FileState → FileState
synced None = None
synced (Some entry) = durable entry.1

abbrev pub newest : FileState → List FileState → FileState
newest entry [] = entry
newest entry (newer ∷ rest) = newest newer rest

-- the present entry of a file with this history; a file without a history is missing
abbrev pub present : List FileState → FileState
present [] = None
present (entry ∷ rest) = newest entry rest

-- the other files have the history that they had
abbrev pub OthersStay : List ℕ → (List ℕ → List FileState) → (List ℕ → List FileState) → Type 0
OthersStay name before after = (other : List ℕ) → (other ≡ name → ⊥) → after other ≡ before other

-- at most this file changed
abbrev pub Touched : List ℕ → Option (List ℕ → List FileState) → Option (List ℕ → List FileState) → Type 0
Touched name None new = new ≡ None
Touched name (Some before) None = ⊥
Touched name (Some before) (Some after) = OthersStay name before after

-- the file has these bytes, which a crash may still change
abbrev pub Wrote : List ℕ → List ℕ → Option (List ℕ → List FileState) → Option (List ℕ → List FileState) → Type 0
Wrote name bytes None new = new ≡ None
Wrote name bytes (Some before) None = ⊥
Wrote name bytes (Some before) (Some after) = OthersStay name before after × (present (after name) ≡ volatile bytes)

-- the bytes of the file are on the disk
abbrev pub Synced : List ℕ → Option (List ℕ → List FileState) → Option (List ℕ → List FileState) → Type 0
Synced name None new = new ≡ None
Synced name (Some before) None = ⊥
Synced name (Some before) (Some after) = OthersStay name before after × (present (after name) ≡ synced (present (before name)))

-- one file took the place of another, in one step
abbrev pub Moved : List ℕ → List ℕ → Option (List ℕ → List FileState) → Option (List ℕ → List FileState) → Type 0
Moved from to None new = new ≡ None
Moved from to (Some before) None = ⊥
Moved from to (Some before) (Some after) = after to ≡ before to ++ present (before from) ∷ []

-- the file has the history that it had
abbrev pub Stays : List ℕ → Option (List ℕ → List FileState) → Option (List ℕ → List FileState) → Type 0
Stays name None new = new ≡ None
Stays name (Some before) None = ⊥
Stays name (Some before) (Some after) = after name ≡ before name

-- there is no such file
abbrev pub IsMissing : Option (List ℕ → List FileState) → List ℕ → Type 0
IsMissing None name = ⊤
IsMissing (Some files) name = present (files name) ≡ None

-- the file has these bytes
abbrev pub Contains : Option (List ℕ → List FileState) → List ℕ → List ℕ → Type 0
Contains None name bytes = ⊤
Contains (Some files) name bytes = (is_durable : Bool) × (present (files name) ≡ Some (is_durable, bytes))

-- ---- one file

-- the history of one file, if it is known
abbrev pub history_of : Option (List ℕ → List FileState) → List ℕ → Option (List FileState)
history_of None name = None
history_of (Some files) name = Some (files name)

-- the bytes that are on the disk for certain
abbrev pub bytes_of : FileState → Option (List ℕ)
bytes_of None = None
bytes_of (Some (true, bytes)) = Some bytes
bytes_of (Some (false, bytes)) = None

-- the bytes of the file that are on the disk for certain, if this is known
abbrev pub stands_of : Option (List FileState) → Option (List ℕ)
stands_of None = None
stands_of (Some entries) = bytes_of (present entries)

-- These bytes are on the disk. They were so before, or the history of the file grew by them alone:
-- a crash at any time leaves the earlier file or these bytes.
abbrev pub Replaced : Option (List FileState) → Option (List FileState) → List ℕ → Type 0
Replaced None new form = new ≡ None
Replaced (Some before) None form = ⊥
Replaced (Some before) (Some after) form = (present after ≡ durable form) × ((after ≡ before) ⊎ (after ≡ before ++ durable form ∷ []))

-- the history of the file is unchanged
abbrev pub Unchanged : Option (List FileState) → Option (List FileState) → Type 0
Unchanged None new = new ≡ None
Unchanged (Some before) None = ⊥
Unchanged (Some before) (Some after) = after ≡ before

-- these bytes are on the disk, as far as it is known
abbrev pub IsLast : Option (List FileState) → List ℕ → Type 0
IsLast None form = ⊤
IsLast (Some entries) form = present entries ≡ durable form
