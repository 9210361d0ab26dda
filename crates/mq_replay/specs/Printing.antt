-- The output for the answers of a world, line by line.
use Rattle.std.specs.Prelude.{⊤, ℕ, Bool, true, false, Option, None, Some, Result, Ok, Err, List, [], ◌++◌, codes, decimal}
use Rattle.std.specs.List.{flat_map}
use Rattle.mq_topic.specs.Qos.{qos_number}
use Rattle.mq_packet.specs.declared.message.Message.{Message}
use Rattle.mq_end.specs.declared.happening.Happening.{Happening}
use Rattle.mq_end.specs.declared.happening.Happening.TheVariants.{Up, Handed, Subscribe, Unsubscribe, SubAck, UnsubAck, Pong}
use Rattle.mq_end.specs.declared.reason.CloseReason.{CloseReason}
use Rattle.mq_end.specs.declared.refusal.PublishRefusal.{PublishRefusal}
use Rattle.mq_end.specs.declared.reason.CloseReason.TheVariants as closes
use Rattle.mq_end.specs.Codes.{close_code, refusal_code}
use Rattle.mq_world.specs.declared.side.Side.{Side}
use Rattle.mq_world.specs.declared.side.Side.TheVariants.{Client, Server}
use Rattle.mq_world.specs.declared.answer.Answer.{Answer}
use Rattle.mq_world.specs.declared.answer.Answer.TheVariants as answers
use Rattle.mq_world.specs.declared.answer.DeliveredBytes.{DeliveredBytes}
use Rattle.mq_world.specs.declared.answer.Opening.{Opening}
use Rattle.mq_world.specs.declared.answer.Settling.{Settling}
use Rattle.mq_packet.specs.Lines.{escaped, truth}
use Rattle.mq_schedule.specs.Schedule.{bytes_word, side_word}

-- ---- One line each: the side, and the result

abbrev pub line_of : Side → List ℕ → List ℕ
line_of side text = side_word side ++ (codes " " ++ (text ++ codes "\n"))

-- An identifier, or `-` for a message without one.
abbrev pub id_word : Option ℕ → List ℕ
id_word None = codes "-"
id_word (Some id) = decimal id

abbrev pub published_line : Side → Result (Option ℕ) PublishRefusal → List ℕ
published_line side (Ok id) = line_of side (codes "accepted " ++ id_word id)
published_line side (Err why) = line_of side (codes "refused " ++ refusal_code why)

-- A delivered message: its QoS, topic and payload.
abbrev pub handed_text : Message → List ℕ
handed_text message = codes "got " ++ (decimal (qos_number message.qos) ++ (codes " " ++ (escaped message.topic ++ (codes " " ++ bytes_word message.payload))))

-- An event of an end. No event of a world makes an end subscribe.
abbrev pub happening_line : Side → Happening → List ℕ
happening_line side (Up present) = line_of side (codes "up " ++ truth present)
happening_line side (Handed message) = line_of side (handed_text message)
happening_line side (Subscribe id requests) = []
happening_line side (Unsubscribe id filters) = []
happening_line side (SubAck id given) = []
happening_line side (UnsubAck id) = []
happening_line side Pong = line_of side (codes "pong")

abbrev pub closed_line : Side → Option CloseReason → List ℕ
closed_line side None = []
closed_line side (Some why) = line_of side (codes "closed " ++ close_code why)

abbrev pub dropped_line : Side → Bool → List ℕ
dropped_line side false = []
dropped_line side true = line_of side (codes "dropped")

-- the client continues after its program ended, or memory ran out for that
abbrev pub anew_line : Result ⊤ PublishRefusal → List ℕ
anew_line (Ok done) = line_of Client (codes "restarted")
anew_line (Err why) = line_of Client (codes "refused " ++ refusal_code why)

abbrev pub restarted_lines : Bool → Result ⊤ PublishRefusal → List ℕ
restarted_lines was_open outcome = dropped_line Client was_open ++ anew_line outcome

-- the client left, or it could not
abbrev pub left_line : Result ⊤ PublishRefusal → List ℕ
left_line (Ok done) = closed_line Client (Some closes.Left)
left_line (Err why) = line_of Client (codes "refused " ++ refusal_code why)

-- The `tick` of a side: the reason if it closed, or that an allocation failed.
abbrev pub ticked_line : Side → Result (Option CloseReason) PublishRefusal → List ℕ
ticked_line side (Ok closed) = closed_line side closed
ticked_line side (Err why) = line_of side (codes "refused " ++ refusal_code why)

-- ---- deliveries, openings, settling

abbrev pub lost_line : Bool → List ℕ
lost_line false = []
lost_line true = codes "lost\n"

abbrev pub bytes_line : Side → List ℕ → List ℕ
bytes_line side bytes = codes "to " ++ line_of side (bytes_word bytes)

-- The bytes, whether they were lost, and their effect.
abbrev pub delivery_lines : DeliveredBytes → List ℕ
delivery_lines delivery =
    bytes_line delivery.side delivery.bytes
    ++ (lost_line delivery.lost ++ (flat_map (happening_line delivery.side) delivery.progress.happenings ++ closed_line delivery.side delivery.progress.closed))

abbrev pub refused_line : Bool → List ℕ
refused_line false = []
refused_line true = line_of Client (codes "refused P5")

-- the connections that are lost, and whether the new one was refused
abbrev pub opening_lines : Opening → List ℕ
opening_lines opening = dropped_line Client opening.client_dropped ++ (dropped_line Server opening.server_dropped ++ refused_line opening.refused)

abbrev pub idle_line : Bool → List ℕ
idle_line true = codes "idle yes\n"
idle_line false = codes "idle no\n"

abbrev pub settling_lines : Settling → List ℕ
settling_lines settling = opening_lines settling.opening ++ (flat_map delivery_lines settling.deliveries ++ idle_line settling.idle)

-- ---- All answers

abbrev pub answer_lines : Answer → List ℕ
answer_lines (answers.Published side outcome) = published_line side outcome
answer_lines (answers.Delivered delivery) = delivery_lines delivery
answer_lines (answers.Dropped side was_open) = dropped_line side was_open
answer_lines (answers.Restarted was_open outcome) = restarted_lines was_open outcome
answer_lines (answers.Left outcome) = left_line outcome
answer_lines (answers.Opened opening) = opening_lines opening
answer_lines (answers.Ticked side outcome) = ticked_line side outcome
answer_lines (answers.Settled settling) = settling_lines settling
