-- The effect of the client programs for their arguments.
use Rattle.std.specs.Prelude.{◌≡◌, ◌⊎◌, ℕ, Bool, List, Option, Some, None, MatchOption, codes}
use Rattle.mq_topic.specs.Fault.{filter_fault, name_fault}
use Rattle.mq_topic.specs.declared.fault.TopicFault.{TopicFault}
use Rattle.mq_cli.specs.declared.jobs.Collect.{Collect}
use Rattle.mq_cli.specs.declared.jobs.Command.{Command}
use Rattle.mq_cli.specs.declared.jobs.Command.TheVariants as commands
use Rattle.mq_cli.specs.declared.jobs.Publish.{Publish}
use Rattle.mq_cli.specs.Printed.{topic_line}
use Rattle.mq_client.specs.declared.collector.CollectGoal.{CollectGoal}
use Rattle.mq_client.specs.declared.publisher.Publications.{Publications}
use Rattle.mq_client.specs.Programs.{IsMessagesDone, IsSessionDone, IsTextsDone}

-- the texts of the arguments, with their topic
pub record AreTextsOf (words : Publish) (publications : Publications) : Type 0 where
  pub topic : publications.topic.now ≡ words.topic.now
  pub qos : publications.qos ≡ words.qos
  pub retain : publications.retain ≡ words.retain
  pub texts : publications.texts.now ≡ words.texts.items

-- the filter of the arguments, with the quality of service and the count
pub record IsGoalOf (words : Collect) (goal : CollectGoal) : Type 0 where
  pub filter : goal.filter.now ≡ words.filter.now
  pub qos : goal.qos ≡ words.qos
  pub count : goal.count ≡ words.count

-- the argument is not a topic name, or no topic filter, and this is its first fault
abbrev pub IsBadTopic : List ℕ → Option TopicFault → ℕ → List ℕ → Type 0
IsBadTopic kind found status text =
    (fault : TopicFault) × (found ≡ Some fault) × (status ≡ 2) × (text ≡ topic_line kind fault)

-- another run uses the session
abbrev pub IsInUse : ℕ → List ℕ → Type 0
IsInUse status text = (status ≡ 1) × (text ≡ codes "session in use\n")

-- the texts are published over the session in this file, unless another run uses it
abbrev pub IsLockedRun : List ℕ → Bool → List ℕ → Publications → ℕ → List ℕ → Type 0
IsLockedRun file forgotten id publications status text = IsSessionDone None file forgotten id publications status text ⊎ IsInUse status text

-- the same over the session in some file, to which a name leads through symbolic links
abbrev pub IsSessionRun : Bool → List ℕ → Publications → ℕ → List ℕ → Type 0
IsSessionRun forgotten id publications status text = (file : List ℕ) × IsLockedRun file forgotten id publications status text

-- The texts are published: over the session in the file that the arguments name, or over a clean
-- session if they name none.
abbrev pub IsPublished : Publish → ℕ → List ℕ → Type 0
IsPublished words status text =
    (publications : Publications) × AreTextsOf words publications × MatchOption words.session (IsTextsDone words.id.now publications status text)
    (λ name. IsSessionRun words.forget words.id.now publications status text)

-- `publish` with these arguments
abbrev pub IsPublishRun : Publish → ℕ → List ℕ → Type 0
IsPublishRun words status text =
    IsPublished words status text ⊎ IsBadTopic (codes "name") (name_fault words.topic.now) status text

-- the messages of the filter are collected, with the clean session flag of the arguments
abbrev pub IsCollected : Collect → ℕ → List ℕ → Type 0
IsCollected words status text =
    (goal : CollectGoal) × IsGoalOf words goal × IsMessagesDone words.id.now words.clean goal status text

-- `collect` with these arguments
abbrev pub IsCollectRun : Collect → ℕ → List ℕ → Type 0
IsCollectRun words status text =
    IsCollected words status text ⊎ IsBadTopic (codes "filter") (filter_fault words.filter.now) status text

-- the client program of the command
abbrev pub IsClientRun : Command → ℕ → List ℕ → Type 0
IsClientRun (commands.Job job) status text = ⊥
IsClientRun (commands.Serve serve) status text = ⊥
IsClientRun (commands.Broker broker) status text = ⊥
IsClientRun (commands.Journal name) status text = ⊥
IsClientRun (commands.Password name) status text = ⊥
IsClientRun (commands.Publish publish) status text = IsPublishRun publish status text
IsClientRun (commands.Collect collect) status text = IsCollectRun collect status text
IsClientRun (commands.Loopback source) status text = ⊥
IsClientRun (commands.Draw draw) status text = ⊥
IsClientRun commands.Completion status text = ⊥
IsClientRun commands.Manual status text = ⊥
