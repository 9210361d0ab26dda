use Rattle.std.proofs.Common.{ap, ◌∙◌}
use Rattle.std.specs.Hash.FoldHasher.{finish, write}
use Rattle.mq_topic.specs.LevelNumber.{level_number}
use Rattle.mq_topic.proofs.level_map.level_number.Goals as goal

pub returns : goal.returns
unfolding level_number
returns c = c.finish.ensures ∙ ap finish (c.write.ensures ∙ (λ i. write (c.default-hasher.ensures i) (c.as_bytes.ensures.value i)))
