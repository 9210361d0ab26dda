-- The run of a publisher, over one connection after another. Only proofs cite these definitions.
use Rattle.std.specs.Prelude.{◌≡◌, ⊤, ℕ, Bool, true, List, [], ◌++◌, map, Option, Result, Ok, Err, option_to_list}
use Rattle.mq_packet.specs.declared.message.Message.{Message}
use Rattle.mq_client.specs.Course.{Moment, Publication, Went}
use Rattle.mq_pubsub.specs.Giving.{Gives}
use Rattle.mq_pubsub_runs.specs.declared.stop.Stop.{Stop}
use Rattle.mq_pubsub_runs.specs.declared.stop.Stop.TheVariants.{Connection, Application}
use Rattle.mq_pubsub_runs.specs.Posting.{unstored, Progress, PartPosted, Finishes}

-- Messages were taken from a source and published, and the output is not sent yet.
pub record Fills (start end : Moment) (next later : Option Message) (unwritten pending : ℕ) (coming left : Option (List Message)) : Type 0 where
  pub messages : List Message
  pub fresh : List Message
  pub published : Went start end (map Publication messages) [] []
  pub given : Gives coming left fresh
  pub parts : option_to_list next ++ fresh ≡ messages ++ option_to_list later
  pub none_before : pending ≡ 0 → unwritten ≡ 0
  pub none : pending ≡ 0 → unstored messages ≡ []

-- the progress so far, if the work over a connection ended early for this reason
abbrev pub ProgressUntil : Moment → Moment → Option Message → Option Message → ℕ → ℕ → Option (List Message) → Option (List Message) → Stop → Type 0
ProgressUntil start end next later lost missing coming left (Connection error) = Progress start end next later lost missing coming left
ProgressUntil start end next later lost missing coming left (Application error) = PartPosted start end

-- The work over a connection is done, or it ended early.
abbrev pub PublishEnds : Moment → Moment → Option Message → Option Message → ℕ → ℕ → Option (List Message) → Option (List Message) → Result ⊤ Stop → Type 0
PublishEnds start end next later lost missing coming left (Ok done) = Finishes start end next lost coming left
PublishEnds start end next later lost missing coming left (Err stop) = ProgressUntil start end next later lost missing coming left stop

-- If a publisher notes that its source has no message any more, then this is so.
abbrev pub Remembers : Bool → Type 0 → Type 0
Remembers is_ended ended = is_ended ≡ true → ended
