use Rattle.std.proofs.Common.{◌≡◌, map, take}
use Rattle.mq_pubsub_programs.proofs.supplies.all.Given as goal

-- the payloads of the texts that were taken
abbrev pub invariant-loop-text : goal.invariant-loop-text
invariant-loop-text l = l.payloads.items ≡ map (λ text. text.now) (take l.text-index l.texts)
