-- Lists that store a single item without allocation.
use Rattle.std.specs.Prelude.{ℕ, Bool, true, false, if◌then◌else◌, ◌==◌, ◌-◌, List}

-- the items, and how many more there is room for without more memory
pub record Gathering (T : Type 0) : Type 0 where
  pub items : List T
  pub room : ℕ

-- The number of items that can be added, if one is stored alone or `count` in a vector of this
-- capacity.
abbrev pub room_of : Bool → ℕ → ℕ → ℕ
room_of true count capacity = 0
room_of false count capacity = if count == 0 then 1 else capacity - count
