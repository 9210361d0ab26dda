use Rattle.std.proofs.Common.{◌≡◌, false, take}
use Rattle.std.specs.List.{list_any}
use Rattle.mq_manual.proofs.Options.{is_unnamed}
use Rattle.mq_manual.proofs.completion.has_positional.Given as goal

abbrev pub invariant-loop-arg : goal.invariant-loop-arg
invariant-loop-arg l = list_any is_unnamed (take l.arg-index l.arg-items) ≡ false
