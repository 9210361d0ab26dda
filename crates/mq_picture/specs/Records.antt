-- The record of a schedule.
use Rattle.std.specs.Prelude.{◌≡◌, ⊤, ℕ, Bool, true, false, Option, None, Some, Result, Ok, Err, List, [], ◌∷◌, ◌++◌, length}
use Rattle.std.specs.List.{flat_map}
use Rattle.std.specs.Int.NonZero.{non_zero_u16_get}
use Rattle.mq_end.specs.declared.happening.Happening.{Happening}
use Rattle.mq_end.specs.declared.happening.Happening.TheVariants.{Up, Handed, Subscribe, Unsubscribe, SubAck, UnsubAck, Pong}
use Rattle.mq_end.specs.declared.reason.CloseReason.{CloseReason}
use Rattle.mq_end.specs.declared.reason.CloseReason.TheVariants as closes
use Rattle.mq_end.specs.declared.refusal.PublishRefusal.{PublishRefusal}
use Rattle.mq_end.specs.declared.refusal.PublishRefusal.TheVariants as refusals
use Rattle.mq_world.specs.declared.side.Side.{Side}
use Rattle.mq_world.specs.declared.side.Side.TheVariants.{Client, Server}
use Rattle.mq_world.specs.declared.answer.Answer.{Answer}
use Rattle.mq_world.specs.declared.answer.Answer.TheVariants as answers
use Rattle.mq_world.specs.declared.answer.DeliveredBytes.{DeliveredBytes}
use Rattle.mq_world.specs.declared.answer.Opening.{Opening}
use Rattle.mq_world.specs.declared.answer.Settling.{Settling}
use Rattle.mq_world.specs.Carries.{Wired}
use Rattle.mq_schedule.specs.Schedule.{number_of}
use Rattle.mq_schedule.specs.declared.schedule.Schedule.{Schedule}
use Rattle.mq_replay.specs.Replay.{Comes}
use Rattle.mq_picture.specs.declared.entry.RecordEntry.{RecordEntry}
use Rattle.mq_picture.specs.declared.entry.RecordEntry.TheVariants.{Sent, Arrived, Cleared, Noted}
use Rattle.mq_picture.specs.declared.entry.Note.TheVariants as notes

-- All entries except those for packets that are sent.
abbrev pub unsent_by : RecordEntry → List RecordEntry
unsent_by (Sent to packet) = []
unsent_by (Arrived to count lost) = Arrived to count lost ∷ []
unsent_by (Cleared to) = Cleared to ∷ []
unsent_by (Noted side note) = Noted side note ∷ []

abbrev pub unsent : List RecordEntry → List RecordEntry
unsent history = flat_map unsent_by history

-- ---- The entries of an answer, except those for packets that are sent

abbrev pub published_entries : Side → Result (Option ℕ) PublishRefusal → List RecordEntry
published_entries side (Ok id) = Noted side (notes.Accepted id) ∷ []
published_entries side (Err why) = Noted side (notes.Refused why) ∷ []

-- An event of an end. No event of a world makes an end subscribe.
abbrev pub happening_entries : Side → Happening → List RecordEntry
happening_entries side (Up present) = Noted side (notes.Up present) ∷ []
happening_entries side (Handed message) = Noted side (notes.Delivered message) ∷ []
happening_entries side (Subscribe id requests) = []
happening_entries side (Unsubscribe id filters) = []
happening_entries side (SubAck id given) = []
happening_entries side (UnsubAck id) = []
happening_entries side Pong = Noted side notes.Pong ∷ []

-- A side that closes its connection discards the bytes in flight to it.
abbrev pub closed_entries : Side → Option CloseReason → List RecordEntry
closed_entries side None = []
closed_entries side (Some why) = Cleared side ∷ Noted side (notes.Closed why) ∷ []

abbrev pub delivery_entries : DeliveredBytes → List RecordEntry
delivery_entries delivery =
    Arrived delivery.side (length delivery.bytes) delivery.lost
    ∷ (flat_map (happening_entries delivery.side) delivery.progress.happenings
    ++ closed_entries delivery.side delivery.progress.closed)

-- The bytes in flight to a side are lost, and its connection if it was open.
abbrev pub dropped_entries : Side → Bool → List RecordEntry
dropped_entries side false = Cleared side ∷ []
dropped_entries side true = Cleared side ∷ Noted side notes.Dropped ∷ []

-- an allocation for CONNECT failed, or not
abbrev pub refused_entries : Bool → List RecordEntry
refused_entries false = []
refused_entries true = Noted Client (notes.Refused refusals.Memory) ∷ []

abbrev pub opening_entries : Opening → List RecordEntry
opening_entries opening =
    dropped_entries Client opening.client_dropped
    ++ (dropped_entries Server opening.server_dropped ++ refused_entries opening.refused)

abbrev pub anew_entries : Result ⊤ PublishRefusal → List RecordEntry
anew_entries (Ok done) = Noted Client notes.Restarted ∷ []
anew_entries (Err why) = Noted Client (notes.Refused why) ∷ []

abbrev pub left_entries : Result ⊤ PublishRefusal → List RecordEntry
left_entries (Ok done) = closed_entries Client (Some closes.Left)
left_entries (Err why) = Noted Client (notes.Refused why) ∷ []

abbrev pub ticked_entries : Side → Result (Option CloseReason) PublishRefusal → List RecordEntry
ticked_entries side (Ok closed) = closed_entries side closed
ticked_entries side (Err why) = Noted side (notes.Refused why) ∷ []

abbrev pub settling_entries : Settling → List RecordEntry
settling_entries settling = opening_entries settling.opening ++ flat_map delivery_entries settling.deliveries

abbrev pub answer_entries : Answer → List RecordEntry
answer_entries (answers.Published side outcome) = published_entries side outcome
answer_entries (answers.Delivered delivery) = delivery_entries delivery
answer_entries (answers.Dropped side was_open) = dropped_entries side was_open
answer_entries (answers.Restarted was_open outcome) = dropped_entries Client was_open ++ anew_entries outcome
answer_entries (answers.Left outcome) = left_entries outcome
answer_entries (answers.Opened opening) = opening_entries opening
answer_entries (answers.Ticked side outcome) = ticked_entries side outcome
answer_entries (answers.Settled settling) = settling_entries settling

-- ---- A record

-- The record of a schedule has the entries of its replay, and packets that were sent.
pub record IsRecord (schedule : Schedule) (history : List RecordEntry) : Type 0 where
  pub answers : List Answer
  pub end : Wired
  pub comes : Comes schedule.limits (non_zero_u16_get schedule.capacity) (number_of schedule.window) schedule.steps.items answers end
  pub entries : unsent history ≡ flat_map answer_entries answers
