-- The rows of a diagram, and the record that they show.
use Rattle.std.specs.Prelude.{◌≡◌, ℕ, ◌≤◌, Bool, true, false, if◌then◌else◌, List, [], ◌∷◌, All}
use Rattle.std.specs.List.{flat_map, sum_by}
use Rattle.mq_world.specs.declared.side.Side.{Side}
use Rattle.mq_world.specs.declared.side.Side.TheVariants.{Client, Server}
use Rattle.mq_picture.specs.declared.entry.RecordEntry.{RecordEntry}
use Rattle.mq_picture.specs.declared.entry.RecordEntry.TheVariants as entries
use Rattle.mq_picture.specs.declared.entry.Note.{Note}
use Rattle.mq_picture.specs.declared.rows.Fate.{Fate}
use Rattle.mq_picture.specs.declared.rows.Fate.TheVariants as fates
use Rattle.mq_picture.specs.declared.rows.Row.{Row}
use Rattle.mq_picture.specs.declared.rows.Row.TheVariants as drawn
use Rattle.mq_picture.specs.declared.summary.Summary.{Summary}

abbrev pub same_side : Side → Side → Bool
same_side Client Client = true
same_side Server Server = true
same_side Client Server = false
same_side Server Client = false

-- ---- Packets

-- The packets that are sent to a side, in order.
abbrev pub sent_by : Side → RecordEntry → List Summary
sent_by side (entries.Sent to packet) = if same_side to side then packet ∷ [] else []
sent_by side entry = []

abbrev pub sent_to : Side → List RecordEntry → List Summary
sent_to side history = flat_map (sent_by side) history

-- The packets of the arrows to a side, from the top.
abbrev pub drawn_by : Side → Row → List Summary
drawn_by side (drawn.Arrow arrow) = if same_side arrow.to side then arrow.packet ∷ [] else []
drawn_by side (drawn.Note at note) = []

abbrev pub drawn_to : Side → List Row → List Summary
drawn_to side rows = flat_map (drawn_by side) rows

-- ---- Bytes

-- The number of bytes that arrive at a side.
abbrev pub brought_by : Side → RecordEntry → ℕ
brought_by side (entries.Arrived to count lost) = if same_side to side then count else 0
brought_by side entry = 0

abbrev pub brought_to : Side → List RecordEntry → ℕ
brought_to side history = sum_by (brought_by side) history

-- The number of bytes that arrived, by the arrows to a side.
abbrev pub shown_bytes : Side → Row → ℕ
shown_bytes side (drawn.Arrow arrow) = if same_side arrow.to side then arrow.arrived else 0
shown_bytes side (drawn.Note at note) = 0

abbrev pub shown_to : Side → List Row → ℕ
shown_to side rows = sum_by (shown_bytes side) rows

-- ---- Notes

abbrev pub noted_by : RecordEntry → List (Side × Note)
noted_by (entries.Noted side note) = (side, note) ∷ []
noted_by entry = []

abbrev pub shown_by : Row → List (Side × Note)
shown_by (drawn.Arrow arrow) = []
shown_by (drawn.Note side note) = (side, note) ∷ []

-- ---- Diagrams

-- the arrow reaches the other side
abbrev pub reaches : Fate → Bool
reaches fates.Arrived = true
reaches fates.Discarded = true
reaches fates.Cut = false
reaches fates.InFlight = false

-- An arrow reaches the other side only if all bytes of its packet arrived.
abbrev pub IsFair : Row → Type 0
IsFair (drawn.Arrow arrow) = reaches arrow.fate ≡ true → arrow.packet.size ≤ arrow.arrived
IsFair (drawn.Note side note) = Unit {0}

-- The diagram of a record: each packet is one arrow, and each event of a side one note, in order.
-- No arrow shows bytes that did not arrive.
pub record Draws (history : List RecordEntry) (rows : List Row) : Type 0 where
  pub to_client : drawn_to Client rows ≡ sent_to Client history
  pub to_server : drawn_to Server rows ≡ sent_to Server history
  pub notes : flat_map shown_by rows ≡ flat_map noted_by history
  pub fair : All IsFair rows
  pub at_client : shown_to Client rows ≤ brought_to Client history
  pub at_server : shown_to Server rows ≤ brought_to Server history
