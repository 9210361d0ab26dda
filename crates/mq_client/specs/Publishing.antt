-- What `publish` does.
use Rattle.std.specs.Prelude.{◌≡◌, ◌⊎◌, ℕ, Bool, true, false, ◌+◌, List, [], ◌∷◌, length, ◌++◌, map}
use Rattle.mq_packet.specs.declared.message.Message.{Message}
use Rattle.mq_end.specs.declared.happening.Happening.{Happening}
use Rattle.mq_end.specs.declared.reason.CloseReason.{CloseReason}
use Rattle.mq_end.specs.End.{End, is_up}
use Rattle.mq_client.specs.declared.error.ClientError.{ClientError}
use Rattle.mq_client.specs.declared.publisher.Publications.{Publications}
use Rattle.mq_client.specs.Course.{Ask, IsIdle, Leaves, Moment, Opening, Publication, Went, WentFirst}
use Rattle.mq_client.specs.Halts.{Reports, halt_status}
use Rattle.mq_client.specs.Printed.{halt_line, published_line, resumed_line}

-- the message of a text
abbrev pub text_message : Publications → List ℕ → Message
text_message publications text = record { topic = publications.topic.now; payload = text; qos = publications.qos; retain = publications.retain }

-- the messages of all texts, in their order
abbrev pub asks_of : Publications → List Ask
asks_of publications = map (λ text. Publication (text_message publications text.now)) publications.texts.now

-- one connection, with clean session or not (3.1), and then the messages
abbrev pub publishes : Bool → Publications → List Ask
publishes clean publications = Opening clean ∷ asks_of publications

-- All these requests were made, in order, and no other. Everything is acknowledged, and the end is
-- connected.
pub record AskedAll (earlier later : Moment) (all : List Ask) : Type 0 where
  pub told : List Happening
  pub went : Went earlier later all told []
  pub up : is_up later.client.link.end.state ≡ true
  pub idle : IsIdle later.client.link.end

-- A connection began, and all texts were published and acknowledged. Then the client left.
pub record Published (earlier later : Moment) (clean : Bool) (publications : Publications) : Type 0 where
  pub last : Moment
  pub asked : AskedAll earlier last (publishes clean publications)
  pub leaves : Leaves last later

-- The program stopped early: a front of these requests was made, in order, and no other. The error
-- reports why.
abbrev pub PublishHalts : Moment → Moment → List Ask → ClientError → Type 0
PublishHalts earlier later all halt =
    (told : List Happening) × (reasons : List CloseReason) × WentFirst earlier later all told reasons × Reports halt reasons

-- the status and the line of `publish`
abbrev pub IsPublishDone : Moment → Moment → Bool → Publications → ℕ → List ℕ → Type 0
IsPublishDone earlier later clean publications status text =
    (Published earlier later clean publications × (status ≡ 0) × (text ≡ published_line (length publications.texts.now)))
    ⊎ ((halt : ClientError) × PublishHalts earlier later (publishes clean publications) halt × (status ≡ halt_status halt) × (text ≡ halt_line halt))

-- the number of messages of a session that are not acknowledged, or released and not completed
-- (4.3.2, 4.3.3)
abbrev pub resumed_of : End → ℕ
resumed_of end = length end.book.entries + length end.book.released

-- the status and the lines of a `publish` that continues with a session
abbrev pub IsResumeDone : Moment → Moment → Publications → ℕ → List ℕ → Type 0
IsResumeDone earlier later publications status text =
    (rest : List ℕ) × (text ≡ resumed_line (resumed_of earlier.client.link.end) ++ rest) × IsPublishDone earlier later false publications status rest
