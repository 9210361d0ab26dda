-- What `collect` does.
use Rattle.std.specs.Prelude.{◌≡◌, ◌⊎◌, ⊤, ℕ, ◌≤◌, ◌<◌, ◌-◌, Bool, true, false, List, [], ◌∷◌, ◌++◌, length, Option, Result, Err}
use Rattle.std.specs.List.{flat_map}
use Rattle.std.specs.Io.KnownBytes.{Appends, Keeps as Silent}
use Rattle.mq_flow.specs.Receiver.{none_received}
use Rattle.mq_packet.specs.declared.message.Message.{Message}
use Rattle.mq_packet.specs.declared.packet.Request.{Request}
use Rattle.mq_packet.specs.declared.packet.SubAckCode.{SubAckCode}
use Rattle.mq_packet.specs.declared.packet.SubAckCode.TheVariants.{Granted, Failure}
use Rattle.mq_end.specs.declared.happening.Happening.{Happening}
use Rattle.mq_end.specs.declared.happening.Happening.TheVariants as happens
use Rattle.mq_end.specs.declared.reason.CloseReason.{CloseReason}
use Rattle.mq_end.specs.End.{is_up}
use Rattle.mq_end.specs.Publishing.{ClientState}
use Rattle.mq_client.specs.declared.error.ClientError.{ClientError}
use Rattle.mq_client.specs.declared.error.ClientError.TheVariants.{Memory}
use Rattle.mq_client.specs.declared.collector.CollectGoal.{CollectGoal}
use Rattle.mq_client.specs.Course.{Ask, Leaves, Moment, Opening, Subscription, Went}
use Rattle.mq_client.specs.Halts.{Closes, halt_status}
use Rattle.mq_client.specs.Printed.{halt_line, subscribed_line, told_line}

-- the subscription that is requested (3.8.3)
abbrev pub request_of : CollectGoal → Request
request_of goal = record { filter = goal.filter.now; qos = goal.qos }

-- one connection, with clean session or not (3.1), and then the subscription
abbrev pub collects : Bool → CollectGoal → List Ask
collects clean goal = Opening clean ∷ Subscription (request_of goal ∷ []) ∷ []

-- the first code grants the subscription (3.9.3)
abbrev pub grants : List SubAckCode → Bool
grants [] = false
grants (Granted qos ∷ codes) = true
grants (Failure ∷ codes) = false

-- the server answered the subscription, and granted it or not
pub record IsAnswered (granted : Bool) (told : List Happening) : Type 0 where
  pub before : List Happening
  pub id : ℕ
  pub given : List SubAckCode
  pub after : List Happening
  pub parts : told ≡ before ++ happens.SubAck id given ∷ after
  pub answers : granted ≡ grants given

-- the message that is delivered to the application
abbrev pub handed : Happening → List Message
handed (happens.Up present) = []
handed (happens.Handed message) = message ∷ []
handed (happens.Subscribe id requests) = []
handed (happens.Unsubscribe id filters) = []
handed (happens.SubAck id given) = []
handed (happens.UnsubAck id) = []
handed happens.Pong = []

-- No happening is missing, and the result reports why the end closed. Only if memory ran out, the
-- happenings of the last read may be missing.
abbrev pub Misses : Result ⊤ ClientError → List Happening → List CloseReason → Type 0
Misses (Err Memory) rest reasons = ⊤
Misses result rest reasons = (rest ≡ []) × Closes result reasons

-- These requests were made, and the happenings were appended to a list.
pub record Keeps (earlier later : Moment) (asks : List Ask) (old new : List Happening) (result : Result ⊤ ClientError) : Type 0 where
  pub told : List Happening
  pub rest : List Happening
  pub reasons : List CloseReason
  pub went : Went earlier later asks (told ++ rest) reasons
  pub kept : new ≡ old ++ told
  pub misses : Misses result rest reasons

-- The program stopped early: only a front of these requests was made.
pub record KeepsFirst (earlier later : Moment) (all : List Ask) (old new : List Happening) (result : Result ⊤ ClientError) : Type 0 where
  pub asks : List Ask
  pub rest : List Ask
  pub parts : all ≡ asks ++ rest
  pub keeps : Keeps earlier later asks old new result

-- No delivered message is acknowledged: since the first one was delivered, nothing was sent.
pub record Unacknowledged (earlier later : Moment) : Type 0 where
  pub last : Moment
  pub asks : List Ask
  pub more : List Ask
  pub told : List Happening
  pub rest : List Happening
  pub reasons : List CloseReason
  pub before : Went earlier last asks told []
  pub none : flat_map handed told ≡ []
  pub after : Went last later more rest reasons
  pub silent : Silent last.written later.written

-- The output failed. Every message until `last` is printed after a first line, and nothing was sent
-- since. So a message that may not be printed is not acknowledged (4.3.2, 4.3.3).
pub record Unprinted (earlier later : Moment) (line : List ℕ) (old new : Option (List ℕ)) : Type 0 where
  pub last : Moment
  pub asks : List Ask
  pub more : List Ask
  pub told : List Happening
  pub rest : List Happening
  pub closed : List CloseReason
  pub reasons : List CloseReason
  pub before : Went earlier last asks told closed
  pub after : Went last later more rest reasons
  pub silent : Silent last.written later.written
  pub front : List ℕ
  pub printed : Appends old new (line ++ (flat_map told_line told ++ front))

-- what a writer has grew by some bytes
abbrev pub Grows : Option (List ℕ) → Option (List ℕ) → Type 0
Grows old new = (text : List ℕ) × Appends old new text

-- more is needed: messages, the release of one (4.3.3), or the connection
abbrev pub IsNeeded : ClientState → ℕ → ℕ → Type 0
IsNeeded client delivered count =
    (delivered < count) ⊎ ((client.link.end.received ≡ none_received → ⊥) ⊎ (is_up client.link.end.state ≡ false))

-- Nothing was read, or the last read was needed: before it, there was a reason to continue.
pub record IsJust (earlier : Moment) (told : List Happening) (count : ℕ) : Type 0 where
  pub last : Moment
  pub before : List Happening
  pub after : List Happening
  pub parts : told ≡ before ++ after
  pub went : Went earlier last [] before []
  pub needed : (after ≡ []) ⊎ IsNeeded last.client (length (flat_map handed before)) count

-- A connection began, and the subscription was requested once and granted. At least `count`
-- messages were delivered, and each read was needed for that. All messages are released. Then the
-- client left. `subscribed` is printed, and then each message.
pub record Collected (earlier later : Moment) (clean : Bool) (goal : CollectGoal) (text : List ℕ) : Type 0 where
  pub granted : Moment
  pub last : Moment
  pub first : List Happening
  pub more : List Happening
  pub begun : Went earlier granted (collects clean goal) first []
  pub went : Went granted last [] more []
  pub answered : IsAnswered true first
  pub enough : goal.count ≤ length (flat_map handed (first ++ more))
  pub just : IsJust granted more (goal.count - length (flat_map handed first))
  pub released : last.client.link.end.received ≡ none_received
  pub leaves : Leaves last later
  pub lines : text ≡ subscribed_line ++ flat_map told_line (first ++ more)

-- `subscribed` is printed if the subscription was granted, and otherwise nothing
abbrev pub IsFirstLine : List ℕ → List Happening → Type 0
IsFirstLine line told = (line ≡ []) ⊎ ((line ≡ subscribed_line) × IsAnswered true told)

-- The program stopped early. Each message that was delivered is printed, in order, and then why the
-- program stopped. Only if memory ran out, the messages of the last read may be missing.
pub record CollectHalts (earlier later : Moment) (clean : Bool) (goal : CollectGoal) (halt : ClientError) (text : List ℕ) : Type 0 where
  pub asks : List Ask
  pub told : List Happening
  pub rest : List Happening
  pub reasons : List CloseReason
  pub went : Went earlier later asks (told ++ rest) reasons
  pub others : List Ask
  pub asked : collects clean goal ≡ asks ++ others
  pub misses : Misses (Err halt) rest reasons
  pub line : List ℕ
  pub first : IsFirstLine line told
  pub lines : text ≡ line ++ (flat_map told_line told ++ halt_line halt)

-- the status and the lines of `collect`
abbrev pub IsCollectDone : Moment → Moment → Bool → CollectGoal → ℕ → List ℕ → Type 0
IsCollectDone earlier later clean goal status text =
    (Collected earlier later clean goal text × (status ≡ 0))
    ⊎ ((halt : ClientError) × CollectHalts earlier later clean goal halt text × (status ≡ halt_status halt))
