use Rattle.std.proofs.Common.{sym, ◌∙◌}
use Rattle.mq_topic.proofs.Fitting.{hash_alone-left, is_none-answer}
use Rattle.mq_topic.proofs.matching.is_hash_alone.Goals as goal

pub returns-then-eq : goal.returns-then-eq
returns-then-eq c =
    let hash = sym c.eq.ensures ∙ c.if-eq.true in
    is_none-answer c.args.after c.is_none.result c.is_none.ensures ∙ sym (rw hash at (hash_alone-left c.args.level.now c.args.after))

pub returns-else-eq : goal.returns-else-eq
returns-else-eq c =
    let other = sym c.eq.ensures ∙ c.if-eq.false in
    c.if-eq.false ∙ sym (rw other at (hash_alone-left c.args.level.now c.args.after))
