-- The change of a diagram by the arrows to one side.
use Rattle.std.specs.Prelude.{◌≡◌, ℕ, ◌+◌, ◌≤◌, List, [], ◌∷◌, ◌++◌, All, map}
use Rattle.std.specs.List.{flat_map}
use Rattle.mq_world.specs.declared.side.Side.{Side}
use Rattle.mq_world.specs.declared.side.Side.TheVariants.{Client, Server}
use Rattle.mq_picture.specs.declared.entry.RecordEntry.{RecordEntry}
use Rattle.mq_picture.specs.declared.rows.Chart.{Chart}
use Rattle.mq_picture.specs.declared.rows.Flying.{Flying}
use Rattle.mq_picture.specs.declared.rows.Lane.{Lane}
use Rattle.mq_picture.specs.declared.rows.Row.{Row}
use Rattle.mq_picture.specs.declared.summary.Summary.{Summary}
use Rattle.mq_picture.specs.Rows.{IsFair, brought_to, drawn_to, noted_by, sent_to, shown_by, shown_to}

abbrev pub other : Side → Side
other Client = Server
other Server = Client

-- the packets that wait for their arrows
abbrev pub waiting : Lane → List Summary
waiting lane = map (λ flying. flying.packet) lane.packets.items

-- the size of the first packet, if there is one, is at most this number
abbrev pub FirstFits : List Flying → ℕ → Type 0
FirstFits [] count = Unit {0}
FirstFits (first ∷ flying) count = first.packet.size ≤ count

-- Packets that waited became arrows to their side, in order, when `count` more bytes had arrived.
pub record Ends (count : ℕ) (before after : Lane) (old new : List Row) : Type 0 where
  pub to : after.to ≡ before.to
  pub packets : drawn_to before.to new ++ waiting after ≡ drawn_to before.to old ++ waiting before
  pub bytes : shown_to before.to new + after.arrived ≤ shown_to before.to old + before.arrived + count
  pub others : drawn_to (other before.to) new ≡ drawn_to (other before.to) old
  pub other_bytes : shown_to (other before.to) new ≡ shown_to (other before.to) old
  pub notes : flat_map shown_by new ≡ flat_map shown_by old
  pub fair : All IsFair old → All IsFair new

-- An incomplete diagram of a record: each packet is an arrow, or waits for it.
pub record IsChart (history : List RecordEntry) (chart : Chart) : Type 0 where
  pub client : chart.to_client.to ≡ Client
  pub server : chart.to_server.to ≡ Server
  pub to_client : drawn_to Client chart.rows.items ++ waiting chart.to_client ≡ sent_to Client history
  pub to_server : drawn_to Server chart.rows.items ++ waiting chart.to_server ≡ sent_to Server history
  pub notes : flat_map shown_by chart.rows.items ≡ flat_map noted_by history
  pub fair : All IsFair chart.rows.items
  pub at_client : shown_to Client chart.rows.items + chart.to_client.arrived ≤ brought_to Client history
  pub at_server : shown_to Server chart.rows.items + chart.to_server.arrived ≤ brought_to Server history

-- the waiting packets of a side, after all packets to this side became arrows
abbrev pub left_at : Side → Side → List Summary → List Summary
left_at Client Client packets = []
left_at Server Server packets = []
left_at Client Server packets = packets
left_at Server Client packets = packets
