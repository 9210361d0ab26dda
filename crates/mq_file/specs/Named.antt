-- Files by name, and what a crash may leave of them.
use Rattle.std.specs.Prelude.{◌≡◌, ◌⊎◌, ℕ, List, [], ◌∷◌, ◌++◌, Option, Some, None}
use Rattle.std.specs.List.{AllByRecursion}

-- no file, or one with these bytes
abbrev pub Content : Type 0
Content = Option (List ℕ)

-- What a crash may leave under each name. The last content is the present one. Earlier ones are
-- those of names that are not durable yet.
abbrev pub Outcomes : Type 0
Outcomes = List ℕ → List Content

abbrev pub newest : Content → List Content → Content
newest content [] = content
newest content (later ∷ rest) = newest later rest

-- the present content; a name without outcomes has no file
abbrev pub present : List Content → Content
present [] = None
present (content ∷ rest) = newest content rest

-- a crash may leave this content
abbrev pub MayBe : Content → List Content → Type 0
MayBe left [] = left ≡ None
MayBe left (content ∷ []) = left ≡ content
MayBe left (content ∷ next ∷ rest) = (left ≡ content) ⊎ MayBe left (next ∷ rest)

-- a folder: the outcomes of a crash now, and those at earlier times, the latest first
pub record Files : Type 0 where
  pub now : Outcomes
  pub before : List Outcomes

-- ---- a call

-- Before and after calls the outcomes are known, and related so; or they are unknown.
abbrev pub Leads : (Outcomes → Outcomes → Type 0) → Option Files → Option Files → Type 0
Leads So None new = new ≡ None
Leads So (Some old) None = ⊥
Leads So (Some old) (Some new) = So old.now new.now

-- the same for one call, during which a crash has the outcomes from before or after it
abbrev pub Related : (Outcomes → Outcomes → Type 0) → Option Files → Option Files → Type 0
Related So None new = new ≡ None
Related So (Some old) None = ⊥
Related So (Some old) (Some new) = So old.now new.now × (new.before ≡ old.now ∷ old.before)

-- at most this name changed
abbrev pub OthersStay : List ℕ → Outcomes → Outcomes → Type 0
OthersStay name old new = (other : List ℕ) → ¬ other ≡ name → new other ≡ old other

-- the file of this name was written anew, and no other changed
abbrev pub Wrote : List ℕ → List ℕ → Outcomes → Outcomes → Type 0
Wrote name bytes old new = OthersStay name old new × (present (new name) ≡ Some bytes)

-- a write, during which a crash may leave anything under the name
abbrev pub Writes : List ℕ → List ℕ → Option Files → Option Files → Type 0
Writes name bytes None new = new ≡ None
Writes name bytes (Some old) None = ⊥
Writes name bytes (Some old) (Some new) =
    Wrote name bytes old.now new.now
    × ((during : Outcomes) × OthersStay name old.now during × (new.before ≡ during ∷ old.now ∷ old.before))

-- one file took the place of another, its name is not durable yet, and no other changed
abbrev pub Renamed : List ℕ → List ℕ → Outcomes → Outcomes → Type 0
Renamed from to old new =
    (new to ≡ old to ++ present (old from) ∷ [])
    × ((other : List ℕ) → ¬ other ≡ from → ¬ other ≡ to → new other ≡ old other)

-- the file was removed, which is not durable yet, and no other changed
abbrev pub Removed : List ℕ → Outcomes → Outcomes → Type 0
Removed name old new = OthersStay name old new × (new name ≡ old name ++ None ∷ [])

-- no name changed
abbrev pub Unchanged : Outcomes → Outcomes → Type 0
Unchanged old new = (name : List ℕ) → new name ≡ old name

-- a crash leaves each name as it is
abbrev pub Synced : Outcomes → Outcomes → Type 0
Synced old new = (name : List ℕ) → new name ≡ present (old name) ∷ []

-- ---- several calls

-- At each time from the old folder to the new one, P relates the old outcomes to those of a crash
-- at that time.
abbrev pub Throughout : (Outcomes → Outcomes → Type 0) → Option Files → Option Files → Type 0
Throughout P None new = new ≡ None
Throughout P (Some old) None = ⊥
Throughout P (Some old) (Some new) =
    P old.now old.now × P old.now new.now
    × ((times : List Outcomes) × (new.before ≡ times ++ old.before) × AllByRecursion (P old.now) times)

-- a crash leaves these bytes under the name
abbrev pub IsReplaced : List ℕ → List ℕ → Outcomes → Outcomes → Type 0
IsReplaced name bytes old new = new name ≡ Some bytes ∷ []

-- A crash leaves the old file or the one with these bytes under this name. `next` is the name of a
-- file that is being written. Each other file is as before.
pub record IsOldOrNew (next name bytes : List ℕ) (old new : Outcomes) : Type 0 where
  pub file : (left : Content) → MayBe left (new name) → MayBe left (old name) ⊎ (left ≡ Some bytes)
  pub others : (other : List ℕ) → ¬ other ≡ name → ¬ other ≡ next → (left : Content) → MayBe left (new other) → MayBe left (old other)

-- The names of a file that is replaced, of the file that takes its place, and of two journals.
pub record AreApart (next name first second : List ℕ) : Type 0 where
  pub next_name : ¬ name ≡ next
  pub next_first : ¬ first ≡ next
  pub next_second : ¬ second ≡ next
  pub name_first : ¬ first ≡ name
  pub name_second : ¬ second ≡ name
  pub first_second : ¬ first ≡ second

-- A crash leaves a file as it was before with the first journal as it was before, or the file with
-- these bytes with an empty second journal.
abbrev pub IsEitherPair : (name bytes first second : List ℕ) → Outcomes → Outcomes → Type 0
IsEitherPair name bytes first second old new =
    (file journal other : Content) → MayBe file (new name) → MayBe journal (new first) → MayBe other (new second)
    → (MayBe file (old name) × MayBe journal (old first)) ⊎ ((file ≡ Some bytes) × (other ≡ Some []))

-- the file has these bytes, the first journal is removed, and the second one is empty
pub record IsSwitched (name bytes first second : List ℕ) (old new : Outcomes) : Type 0 where
  pub file : (left : Content) → MayBe left (new name) → left ≡ Some bytes
  pub journal : (left : Content) → MayBe left (new second) → left ≡ Some []
  pub removed : present (new first) ≡ None
