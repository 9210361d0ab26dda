use Rattle.mq_topic.proofs.Mapping.{none_mapped, some_mapped}
use Rattle.mq_topic.proofs.level_map.LevelMap.is_empty.Goals as goal

pub returns-then-is_empty : goal.returns-then-is_empty
returns-then-is_empty c = none_mapped c.args.self.now c.is_empty-then-is_empty.result (c.is_empty.ensures.0 c.if-is_empty.true) c.is_empty-then-is_empty.ensures

pub returns-else-is_empty : goal.returns-else-is_empty
returns-else-is_empty c = rw c.if-is_empty.false (some_mapped c.args.self.now (λ e. let full = c.is_empty.ensures.1 e in cc))
