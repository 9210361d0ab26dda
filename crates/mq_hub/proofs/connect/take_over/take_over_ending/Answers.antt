use Rattle.std.proofs.Common.{◌∙◌, sym}
use Rattle.mq_hub.proofs.TakeOver.{over_after, over_with}
use Rattle.mq_hub.proofs.connect.take_over.take_over_ending.Goals as goal

pub returns-then-not-ends-clause-proceeds : goal.returns-then-not-ends-clause-proceeds
returns-then-not-ends-clause-proceeds g c =
    over_after c.args.rules c.args.now c.args.conn c.args.key c.args.tables.now c.close_up.new.tables c.args.log.now.acts c.close_up.new.log.acts c.close_up.ensures.proceeds
    c.remove.new.self c.push.new.self.acts (sym c.is_clean-ends.ensures ∙ c.if-not-ends.true) c.close_up.ensures.away c.remove.ensures.rows
    c.remove.ensures.list c.remove.ensures.room c.remove.ensures.rest c.push.ensures.acts

pub returns-else-not-ends-clause-proceeds : goal.returns-else-not-ends-clause-proceeds
returns-else-not-ends-clause-proceeds g c =
    over_with c.args.rules c.args.now c.args.conn c.args.key c.args.tables.now c.close_up.new.tables c.args.log.now.acts c.close_up.new.log.acts c.close_up.ensures.proceeds
    (sym c.is_clean-ends.ensures ∙ c.if-not-ends.false)
