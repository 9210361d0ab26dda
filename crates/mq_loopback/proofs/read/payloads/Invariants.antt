use Rattle.std.proofs.Common.{◌≡◌, ◌++◌, length, map}
use Rattle.std.specs.List.{AllByRecursion}
use Rattle.mq_schedule.specs.Schedule.{bytes_word}
use Rattle.mq_loopback.specs.File.{IsPayload}
use Rattle.mq_loopback.proofs.read.payloads.Given as goal

-- The first words are the payloads; the others are left.
abbrev pub invariant-loop-word : goal.invariant-loop-word
invariant-loop-word l = record {
  are : AllByRecursion IsPayload l.payloads.items;
  passed : l.fn.words ≡ map bytes_word l.payloads.items ++ l.words;
}

abbrev pub decreases-loop-word : goal.decreases-loop-word
decreases-loop-word l = length l.words
