use Rattle.std.proofs.Common.{◌≡◌, ◌-◌, ◌++◌}
use Rattle.mq_world.specs.MadeUp.{made_from, made_up}
use Rattle.mq_world.proofs.random.made_up.Given as goal

-- The events made before, followed by those that the generator makes next, are all events.
abbrev pub invariant-loop-number : goal.invariant-loop-number
invariant-loop-number l = l.events.items ++ made_from l.generator l.number (l.steps - l.number) ≡ made_up l.start l.steps
