-- A durable broker as contracts see it. Only proofs cite these definitions.
use Rattle.std.specs.Prelude.{◌≡◌, ℕ, ◌+◌, ◌≤◌, ◌^◌, List, length}
use Rattle.mq_route.specs.declared.event.HubEvent.{HubEvent}
use Rattle.mq_route.specs.declared.refusal.HubRefusal.TheVariants as refusals
use Rattle.mq_route.specs.Hub.{HubState}
use Rattle.mq_record.specs.Encoding.{event_bytes}
use Rattle.mq_durable.specs.declared.condition.Condition.TheVariants.{Broken}
use Rattle.mq_durable.specs.declared.fault.StepRefusal.{StepRefusal}
use Rattle.mq_durable.specs.declared.fault.StepRefusal.TheVariants as steps
use Rattle.mq_durable.specs.State.{IsHubRefusal}

-- Why an event is not encoded behind an entry.
abbrev pub IsNotNoted : List ℕ → HubEvent → StepRefusal → Type 0
IsNotNoted entry event (steps.Hub why) = why ≡ refusals.Memory
IsNotNoted entry event steps.EntryFull = 2 ^ 32 ≤ length entry + length (event_bytes event)
IsNotNoted entry event steps.Broken = ⊥

-- Why a step is not made, if no commit failed before.
abbrev pub IsNotStepped : List ℕ → HubState → HubEvent → StepRefusal → Type 0
IsNotStepped entry hub event (steps.Hub why) = IsHubRefusal hub event why
IsNotStepped entry hub event steps.EntryFull = 2 ^ 32 ≤ length entry + length (event_bytes event)
IsNotStepped entry hub event steps.Broken = ⊥
