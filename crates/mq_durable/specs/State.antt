-- A durable broker as contracts see it.
use Rattle.std.specs.Prelude.{◌≡◌, ◌≢◌, ◌⊎◌, ℕ, ◌+◌, ◌≤◌, ◌<◌, ◌^◌, List, ◌++◌, length, Some, Result, Ok, Err, if◌then◌else◌}
use Rattle.mq_route.specs.declared.event.HubEvent.{HubEvent}
use Rattle.mq_route.specs.declared.refusal.HubRefusal.{HubRefusal}
use Rattle.mq_route.specs.declared.refusal.HubRefusal.TheVariants as refusals
use Rattle.mq_route.specs.declared.reply.HubReply.{HubReply}
use Rattle.mq_route.specs.Hub.{HubState}
use Rattle.mq_route.specs.Step.{event_refusal}
use Rattle.mq_record.specs.Encoding.{entry_bytes, event_bytes}
use Rattle.mq_record.specs.Reading.{IsEntry}
use Rattle.mq_log.specs.Journal.{IsSettled}
use Rattle.mq_log.specs.declared.journal.Journal.{Journal}
use Rattle.mq_durable.specs.declared.condition.Condition.{Condition}
use Rattle.mq_durable.specs.declared.condition.Condition.TheVariants.{Sound, OutOfMemory, Broken}
use Rattle.mq_durable.specs.declared.fault.CommitError.{CommitError}
use Rattle.mq_durable.specs.declared.fault.CommitError.TheVariants as commits
use Rattle.mq_durable.specs.declared.fault.StepRefusal.{StepRefusal}
use Rattle.mq_durable.specs.declared.fault.StepRefusal.TheVariants as steps
use Rattle.mq_durable.specs.Memory.{reports_memory}
use Rattle.mq_durable.specs.Recorded.{events_in, events_of, IsReadable}
use Rattle.mq_durable.specs.Replaying.{Reaches}

-- A durable broker. base: the broker before the first event of the journal's file. hub: the broker
-- now. pending: the events that are not in the file yet. disk: the file.
pub record DurableState (D : Type 0) : Type 0 where
  pub base : HubState
  pub hub : HubState
  pub pending : List HubEvent
  pub disk : D
  pub condition : Condition

-- The broker follows from the base by the events of the file, and then the pending ones.
abbrev pub FollowsJournal : {D : Type 0} → (D → List ℕ) → DurableState D → Type 0
FollowsJournal seen durable =
    Reaches durable.base (events_of (seen durable.disk) ++ durable.pending) durable.hub

-- The facts of a durable broker whose commits succeeded.
pub record IsKept {D : Type 0} (seen : D → List ℕ) (may_leave : D → List ℕ → Type 0)
    (base hub : HubState) (journal : Journal D) (pending : List HubEvent) : Type 0 where
  pub settled : IsSettled seen may_leave journal
  pub readable : IsReadable (seen journal.disk)
  pub follows : Reaches base (events_of (seen journal.disk) ++ pending) hub

-- The facts of every durable broker. `entry` has the encodings of the pending events.
pub record IsDurable {D : Type 0} (seen : D → List ℕ) (may_leave : D → List ℕ → Type 0)
    (base hub : HubState) (journal : Journal D) (entry : List ℕ) (condition : Condition)
    : Type 0 where
  pub encoded : IsEntry (events_in entry) entry
  pub short : length entry < 2 ^ 32
  pub kept : condition ≢ Broken → IsKept seen may_leave base hub journal (events_in entry)

-- the condition after a refused event, and after a step, if it was `Sound` before
abbrev pub after_refusal : StepRefusal → Condition
after_refusal (steps.Hub refusals.Memory) = OutOfMemory
after_refusal (steps.Hub refusals.UnknownConn) = Sound
after_refusal (steps.Hub refusals.ConnInUse) = Sound
after_refusal steps.EntryFull = Sound
after_refusal steps.Broken = Sound

abbrev pub after_sound_step : Result HubReply StepRefusal → Condition
after_sound_step (Ok reply) = if reports_memory reply then OutOfMemory else Sound
after_sound_step (Err why) = after_refusal why

-- the condition after a step
abbrev pub after_step : Result HubReply StepRefusal → Condition → Condition
after_step result Sound = after_sound_step result
after_step result OutOfMemory = OutOfMemory
after_step result Broken = Broken

-- the reply of a step for the front of a piece, without the number of bytes used
abbrev pub reply_in : Result (HubReply × ℕ) StepRefusal → Result HubReply StepRefusal
reply_in (Ok reply) = Ok reply.0
reply_in (Err why) = Err why

-- the condition after a commit that failed
abbrev pub after_failure : CommitError → Condition → Condition
after_failure (commits.Disk why) condition = Broken
after_failure why condition = condition

-- Why an event is refused by a broker, unless an allocation fails.
abbrev pub IsHubRefusal : HubState → HubEvent → HubRefusal → Type 0
IsHubRefusal hub event why = (why ≡ refusals.Memory) ⊎ (event_refusal event hub ≡ Some why)

-- Why a step is refused.
abbrev pub IsStepRefused : {D : Type 0} → DurableState D → HubEvent → StepRefusal → Type 0
IsStepRefused durable event (steps.Hub why) = IsHubRefusal durable.hub event why
IsStepRefused durable event steps.EntryFull =
    2 ^ 32 ≤ length (entry_bytes durable.pending) + length (event_bytes event)
IsStepRefused durable event steps.Broken = durable.condition ≡ Broken

-- Why a commit is refused. Unless the journal failed, the file is unchanged.
abbrev pub IsCommitRefused : {D : Type 0} → DurableState D → DurableState D → CommitError → Type 0
IsCommitRefused old new commits.OutOfMemory =
    (old.condition ≡ OutOfMemory) × (new.disk ≡ old.disk)
IsCommitRefused old new commits.Broken = (old.condition ≡ Broken) × (new.disk ≡ old.disk)
IsCommitRefused old new (commits.Disk why) = old.condition ≡ Sound
