use Rattle.std.proofs.Common.{◌≡◌, ◌+◌, ◌++◌, length}
use Rattle.mq_hub.specs.Inside.Placement.{first_fitting, fitting_acts}
use Rattle.mq_hub.proofs.publish.settle.settle_messages.Given as goal

abbrev pub invariant-loop-message : goal.invariant-loop-message
invariant-loop-message l = record {
  kept : l.settled.kept.items ++ first_fitting l.rules l.left l.message-iterator.rest.items ≡ first_fitting l.rules l.fn.space l.fn.messages.items;
  acts : l.settled.acts.items ++ fitting_acts l.rules l.key l.left l.message-iterator.rest.items ≡ fitting_acts l.rules l.key l.fn.space l.fn.messages.items;
  count : length l.settled.acts.items + length l.message-iterator.rest.items ≡ length l.fn.messages.items;
}
