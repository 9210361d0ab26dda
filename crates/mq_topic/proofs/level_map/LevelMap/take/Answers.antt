use Rattle.std.proofs.Common.{ap, ◌∙◌}
use Rattle.std.specs.Map.{lookup}
use Rattle.std.specs.Option.{option_or}
use Rattle.mq_topic.proofs.Mapping.{has_text, other_text}
use Rattle.mq_topic.proofs.level_map.LevelMap.take.Goals as goal

pub returns-clause-others : goal.returns-clause-others
returns-clause-others c =
    let own = c.take_own.ensures in
    λ l ne i. option_or (own.others l ne i) ((
    other_text c.args.level.now l c.take_own.new.self.collided.entries c.remove.new.self.entries c.remove.ensures.updates.3 ne
    ∙ ap (λ m. lookup (has_text l) m.entries) own.collided) i)
