-- The table of retained messages (3.3.1.3).
use Rattle.std.specs.Prelude.{ℕ, List, ◌≡◌, ◌||◌, true, not, Option, Some, None}
use Rattle.std.specs.List.{AllByRecursion, IsDistinct}
use Rattle.std.specs.Map.{keys_of}
use Rattle.std.specs.Str.{bytes_eq}
use Rattle.mq_packet.specs.declared.message.Message.{Message}
use Rattle.mq_route.specs.Copies.{is_hidden_name}

-- The retained messages in the order in which their topic names got a message, and for how many
-- more there is room.
pub record RetainedTable : Type 0 where
  pub messages : List Message
  pub room : ℕ

-- The invariant of the table: each message is stored under its topic name, and names are distinct.
pub record AreKept (entries : List (List ℕ × Message)) : Type 0 where
  pub named : AllByRecursion (λ entry. entry.0 ≡ entry.1.topic) entries
  pub once : IsDistinct bytes_eq (keys_of entries)

-- the entry to retain for a message: none if RETAIN is not set or the name begins with `$` (4.7.2)
abbrev pub IsKeptOf : Message → Option (List ℕ × Message) → Type 0
IsKeptOf message None = (not message.retain || is_hidden_name message.topic) ≡ true
IsKeptOf message (Some named) = (named.0 ≡ message.topic) × (named.1 ≡ message)
