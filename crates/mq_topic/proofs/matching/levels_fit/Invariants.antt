use Rattle.std.proofs.Common.{◌≡◌, ◌+◌, ℕ, List, Bor, Option, Some, None, length}
use Rattle.mq_topic.specs.Topic.{levels}
use Rattle.mq_topic.specs.Matching.{fits}
use Rattle.mq_topic.specs.Inside.Matching.{levels_left}
use Rattle.mq_topic.proofs.matching.levels_fit.Given as goal

-- The remaining levels match exactly if all do.
abbrev pub invariant-levels : goal.invariant-levels
invariant-levels l = fits (levels_left l.filter_left) (levels_left l.name_left) ≡ fits (levels l.fn.filter) (levels l.fn.name)

-- one more than the remaining bytes
abbrev pub count_left : Option (Bor (List ℕ)) → ℕ
count_left None = 0
count_left (Some t) = length t.now + 1

abbrev pub decreases-levels : goal.decreases-levels
decreases-levels l = count_left l.filter_left
