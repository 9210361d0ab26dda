-- The saved form of a session, version 1. Only proofs cite these definitions.
use Rattle.std.specs.Prelude.{ℕ, ◌<◌, ◌≤◌, List}
use Rattle.std.specs.List.{AllByRecursion}
use Rattle.mq_topic.specs.Topic.{IsTopicName}
use Rattle.mq_flow.specs.declared.entry.SenderEntry.{SenderEntry}
use Rattle.mq_flow.specs.Sending.{Sending}
use Rattle.mq_flow.specs.Laws.{IsSound}
use Rattle.mq_flow.specs.Saved.{IsKept}

-- each message has a topic name (4.7)
abbrev pub HaveTopics : List SenderEntry → Type 0
HaveTopics entries = AllByRecursion (λ entry. IsTopicName entry.message.topic) entries

-- The sender's part of this invariant.
pub record IsSenderWithin (limit : ℕ) (sender : Sending) : Type 0 where
  pub sound : IsSound sender.capacity sender.book
  pub able : 0 < sender.capacity
  pub most : sender.capacity ≤ 65535
  pub last : sender.last ≤ 65535
  pub entries : AllByRecursion (IsKept limit) sender.book.entries
