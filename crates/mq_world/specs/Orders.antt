-- Relations between two lists.
use Rattle.std.specs.Prelude.{ℕ, ◌+◌, ◌≡◌, ◌≤◌, max, Bool, false, ◌||◌, ◌==◌, if◌then◌else◌, ◌⊎◌, Some, List, [], ◌∷◌, ◌++◌, map, slice_get}
use Rattle.mq_packet.specs.declared.message.Message.{Message}

-- The list begins with this front.
abbrev pub Beginning : List Message → List Message → Type 0
Beginning front list = (rest : List Message) × (list ≡ front ++ rest)

-- The first list is the second without some items; the others are in the same order.
abbrev pub Part : List Message → List Message → Type 0
Part [] more = Unit {0}
Part (item ∷ items) [] = ⊥
Part (item ∷ items) (other ∷ more) = ((item ≡ other) × Part items more) ⊎ Part (item ∷ items) more

-- each place is one of the first that were reached before, or the next one, which is then reached
-- too; `next` is their number
abbrev pub WalkFrom : ℕ → List ℕ → Type 0
WalkFrom next [] = Unit {0}
WalkFrom next (place ∷ rest) = (place ≤ next) × WalkFrom (max next (place + 1)) rest

-- the places are first reached one after another, 0, 1, 2 and so on; one that was reached may come
-- again at any time
abbrev pub Walk : List ℕ → Type 0
Walk places = WalkFrom 0 places

-- The items are those of the list at these places, one by one.
abbrev pub IsAt : List Message → List Message → List ℕ → Type 0
IsAt [] list [] = Unit {0}
IsAt [] list (place ∷ places) = ⊥
IsAt (item ∷ items) list [] = ⊥
IsAt (item ∷ items) list (place ∷ places) = (slice_get list place ≡ Some item) × IsAt items list places

-- a place is among these
abbrev pub In : ℕ → List ℕ → Type 0
In place [] = ⊥
In place (other ∷ rest) = (other ≡ place) ⊎ In place rest

-- all of the first places are among the second
abbrev pub AllIn : List ℕ → List ℕ → Type 0
AllIn [] places = Unit {0}
AllIn (place ∷ rest) places = In place places × AllIn rest places

-- the test whether a place is among these
abbrev pub is_among : ℕ → List ℕ → Bool
is_among place [] = false
is_among place (other ∷ rest) = other == place || is_among place rest

-- the items whose places, counted from a first one, are not among these
abbrev pub others_from : ℕ → List ℕ → List (ℕ × Message) → List (ℕ × Message)
others_from place places [] = []
others_from place places (item ∷ rest) = if is_among place places then others_from (place + 1) places rest else item ∷ others_from (place + 1) places rest

-- the items whose places are not among these
abbrev pub others : List ℕ → List (ℕ × Message) → List (ℕ × Message)
others places xs = others_from 0 places xs

-- the messages of pairs
abbrev pub messages : List (ℕ × Message) → List Message
messages pairs = map (λ pair. pair.1) pairs

-- each item of a list is so
abbrev pub Each : {A : Type 0} → (A → Type 0) → List A → Type 0
Each P [] = Unit {0}
Each P (item ∷ rest) = P item × Each P rest
