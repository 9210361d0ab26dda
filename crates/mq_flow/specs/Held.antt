-- The sender's table, which finds the entry of an identifier in constant time (2.3.1, 4.3.2,
-- 4.3.3).
use Rattle.std.specs.Prelude.{ℕ, ◌+◌, ◌≤◌, ◌≡◌, Bool, false, if◌then◌else◌, List, [], ◌∷◌, length, nat_eq, Option, Some, None}
use Rattle.std.specs.List.{flat_map, AllByRecursion}
use Rattle.std.specs.Map.{keys_of}
use Rattle.mq_flow.specs.Sender.{SenderBook, times}
use Rattle.mq_flow.specs.declared.claim.Claimed.{Claimed}
use Rattle.mq_flow.specs.declared.entry.SenderEntry.{SenderEntry}
use Rattle.mq_flow.specs.declared.table.Held.{Held}
use Rattle.mq_flow.specs.declared.table.Held.TheVariants.{Waiting, Released}

-- The message, unless it is acknowledged.
abbrev pub message_in : Held → List SenderEntry
message_in (Waiting entry) = entry ∷ []
message_in (Released id) = []

-- The identifier, if it is released.
abbrev pub release_in : Held → List ℕ
release_in (Waiting entry) = []
release_in (Released id) = id ∷ []

-- the messages that are not acknowledged, in the table's order
abbrev pub messages : List (ℕ × Held) → List SenderEntry
messages = flat_map (λ pair. message_in pair.1)

-- the released identifiers, in the table's order
abbrev pub releases : List (ℕ × Held) → List ℕ
releases = flat_map (λ pair. release_in pair.1)

-- the book of a table and of claimed identifiers
abbrev pub book_of : List (ℕ × Held) → List Claimed → SenderBook
book_of pairs requests = record { entries = messages pairs; released = releases pairs; claimed = requests }

-- The identifier of an entry.
abbrev pub id_in : Held → ℕ
id_in (Waiting entry) = entry.id
id_in (Released id) = id

-- Each entry is stored under its identifier.
abbrev pub AreUnder : List (ℕ × Held) → Type 0
AreUnder = AllByRecursion (λ pair. id_in pair.1 ≡ pair.0)

-- ---- places, some of which are empty

-- The entries of a table in order, and the number of entries that it can add without allocation.
pub record Kept : Type 0 where
  pub pairs : List (ℕ × Held)
  pub spare : ℕ

-- the pair in a place
abbrev pub pair_in : Option Held → List (ℕ × Held)
pair_in (Some held) = (id_in held, held) ∷ []
pair_in None = []

-- the pairs in places, in their order
abbrev pub pairs_in : List (Option Held) → List (ℕ × Held)
pairs_in = flat_map pair_in

-- whether an identifier's pair is in a place
abbrev pub is_under : ℕ → Option Held → Bool
is_under id (Some held) = nat_eq (id_in held) id
is_under id None = false

-- the first, or else the second
abbrev pub later : Option ℕ → Option ℕ → Option ℕ
later (Some place) other = Some place
later None other = other

-- The slot of an identifier; slots are numbered from `at`.
abbrev pub place_from : ℕ → ℕ → List (Option Held) → Option ℕ
place_from at id [] = None
place_from at id (slot ∷ slots) = later (place_from (at + 1) id slots) (if is_under id slot then Some at else None)

-- Each identifier is in at most one slot, a look-up returns it, and `count` slots are not empty.
pub record IsPlaced (slots : List (Option Held)) (place : ℕ → Option ℕ) (count : ℕ) : Type 0 where
  pub at : (id : ℕ) → place id ≡ place_from 0 id slots
  pub once : (id : ℕ) → times id (keys_of (pairs_in slots)) ≤ 1
  pub many : count ≡ length (pairs_in slots)
