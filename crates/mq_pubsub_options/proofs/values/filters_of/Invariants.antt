use Rattle.std.proofs.Common.{◌≡◌, map, take}
use Rattle.mq_pubsub_options.proofs.values.filters_of.Given as goal

-- the filters of the texts so far
abbrev pub invariant-loop-text : goal.invariant-loop-text
invariant-loop-text l = l.filters.items ≡ map (λ text. text.now) (take l.text-index l.texts)
