use Rattle.std.proofs.Common.{◌≡◌, length, IsUtf8}
use Rattle.mq_topic.specs.Topic.{levels, levels_fault}
use Rattle.mq_topic.proofs.level.levels_fault.Given as goal

abbrev pub invariant-levels : goal.invariant-levels
invariant-levels l = (levels_fault (levels l.fn.filter) ≡ levels_fault (levels l.rest)) × IsUtf8 l.rest

abbrev pub decreases-levels : goal.decreases-levels
decreases-levels l = length l.rest
