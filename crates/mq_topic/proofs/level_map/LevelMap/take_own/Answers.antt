use Rattle.std.proofs.Common.{None, refl, sym, ◌∙◌}
use Rattle.mq_topic.proofs.Mapping.{other_numbered, still_numbered}
use Rattle.mq_topic.proofs.level_map.LevelMap.take_own.Goals as goal

pub invariant_of-self : goal.invariant_of-self
invariant_of-self c = record {
  numbers =
      let old = c.args.self.now in
      still_numbered c.level_number-number.result None old.numbered.entries c.remove.new.self.entries old.numbers refl c.remove.ensures.updates.0;
}

pub returns-then-is_own-clause-others : goal.returns-then-is_own-clause-others
returns-then-is_own-clause-others c = λ l ne.
    let own = sym c.is_own.ensures ∙ c.if-is_own.true in
    other_numbered c.level_number-number.result c.args.level.now l None
    c.args.self.now.numbered.entries c.remove.new.self.entries c.remove.ensures.updates.0 own refl ne
