-- Why an end refuses a call.
use Rattle.std.specs.Prelude.{◌≡◌, Option, None, Some}
use Rattle.mq_end.specs.declared.refusal.PublishRefusal.{PublishRefusal}
use Rattle.mq_end.specs.declared.refusal.PublishRefusal.TheVariants as refusals
use Rattle.mq_embedded.specs.declared.fault.CallFault.{CallFault}
use Rattle.mq_embedded.specs.declared.fault.CallFault.TheVariants as faults

abbrev pub publish_fault : PublishRefusal → CallFault
publish_fault refusals.NotConnected = faults.NotConnected
publish_fault refusals.NoSession = faults.NotConnected
publish_fault refusals.TooLarge = faults.TooLarge
publish_fault refusals.Full = faults.Full
publish_fault refusals.Memory = faults.Memory

-- The fault of a call that the end refuses for this reason; if it has none, an allocation failed.
abbrev pub IsRefusedFor : Option PublishRefusal → CallFault → Type 0
IsRefusedFor (Some refusal) why = why ≡ publish_fault refusal
IsRefusedFor None why = why ≡ faults.Memory
