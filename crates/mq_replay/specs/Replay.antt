-- The result of a schedule, and its output.
use Rattle.std.specs.Prelude.{ℕ, ◌≡◌, if◌then◌else◌, Option, List, [], ◌∷◌, ◌++◌, length, codes, decimal}
use Rattle.std.specs.List.{flat_map}
use Rattle.std.specs.Int.NonZero.{non_zero_u16_get}
use Rattle.mq_topic.specs.declared.qos.Qos.{Qos}
use Rattle.mq_topic.specs.declared.qos.Qos.TheVariants.{Q1, Q2}
use Rattle.mq_topic.specs.Qos.{qos_number}
use Rattle.mq_flow.specs.Sender.{held}
use Rattle.mq_decode.specs.Limits.{Bounds}
use Rattle.mq_world.specs.declared.side.Side.{Side}
use Rattle.mq_world.specs.declared.side.Side.TheVariants.{Client, Server}
use Rattle.mq_world.specs.declared.answer.Answer.{Answer}
use Rattle.mq_world.specs.Carries.{Wired}
use Rattle.mq_world.specs.OverBytes.{near}
use Rattle.mq_world.specs.Listed.{accepted_count, handed_count}
use Rattle.mq_world.specs.World.{Does, IsNew, Settles}
use Rattle.mq_schedule.specs.declared.schedule.Step.{Step}
use Rattle.mq_schedule.specs.declared.schedule.Step.TheVariants.{Event, Settle}
use Rattle.mq_schedule.specs.declared.schedule.Schedule.{Schedule}
use Rattle.mq_schedule.specs.Schedule.{number_of, side_word}
use Rattle.mq_replay.specs.Printing.{answer_lines}

-- ---- The result of the steps

-- The effect of a step, by its answer.
abbrev pub StepDoes : Bounds → ℕ → Step → Answer → Wired → Wired → Type 0
StepDoes limit capacity (Event event) answer old new = Does limit capacity event answer old new
StepDoes limit capacity Settle answer old new = Settles limit capacity answer old new

-- Steps one after another, each with its answer.
abbrev pub StepsLead : Bounds → ℕ → List Step → List Answer → Wired → Wired → Type 0
StepsLead limit capacity [] [] old new = new ≡ old
StepsLead limit capacity (step ∷ steps) (answer ∷ rest) old new = (mid : Wired) × StepDoes limit capacity step answer old mid × StepsLead limit capacity steps rest mid new
StepsLead limit capacity [] (answer ∷ rest) old new = ⊥
StepsLead limit capacity (step ∷ steps) [] old new = ⊥

-- from a new world
pub record Comes (limit : Bounds) (capacity : ℕ) (window : Option ℕ) (steps : List Step) (answers : List Answer) (end : Wired) : Type 0 where
  pub start : Wired
  pub new : IsNew limit capacity window start
  pub leads : StepsLead limit capacity steps answers start end

-- ---- The last lines: for each direction and QoS, the number of messages that were accepted,
-- ---- delivered and are stored

-- The number of messages that the sender of a side stores, 0 without a session.
abbrev pub held_count : Qos → Side → Wired → ℕ
held_count qos Client world = length (held qos world.client.state.end.book.entries)
held_count qos Server world = if world.server.state.end.known then length (held qos world.server.state.end.book.entries) else 0

abbrev pub total_line : Side → Side → Qos → Wired → List ℕ
total_line from to qos world = side_word from ++ (codes ">" ++ (side_word to ++ (codes " qos" ++ (decimal (qos_number qos) ++ (codes " accepted "
    ++ (decimal (accepted_count qos (near from world).accepted) ++ (codes " handed " ++ (decimal (handed_count qos (near to world).handed) ++ (codes " held " ++ (decimal (held_count qos from world) ++ codes "\n"))))))))))

abbrev pub last_lines : Wired → List ℕ
last_lines world = total_line Client Server Q1 world ++ (total_line Client Server Q2 world ++ (total_line Server Client Q1 world ++ total_line Server Client Q2 world))

-- ---- a replay

-- The output of a schedule: the answers of its steps, and the last lines.
pub record IsReplay (schedule : Schedule) (text : List ℕ) : Type 0 where
  pub answers : List Answer
  pub end : Wired
  pub comes : Comes schedule.limits (non_zero_u16_get schedule.capacity) (number_of schedule.window) schedule.steps.items answers end
  pub text_is : text ≡ flat_map answer_lines answers ++ last_lines end

-- The output if an allocation fails: the answers of its first steps.
pub record IsCutReplay (schedule : Schedule) (text : List ℕ) : Type 0 where
  pub done : List Step
  pub left : List Step
  pub steps : schedule.steps.items ≡ done ++ left
  pub answers : List Answer
  pub end : Wired
  pub comes : Comes schedule.limits (non_zero_u16_get schedule.capacity) (number_of schedule.window) done answers end
  pub text_is : text ≡ flat_map answer_lines answers
