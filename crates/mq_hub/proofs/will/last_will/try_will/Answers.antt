use Rattle.std.proofs.Common.{◌∙◌, Ok, sym, ap}
use Rattle.mq_hub.specs.Inside.View.{hub_of}
use Rattle.mq_hub.proofs.LastWills.{goes_published}
use Rattle.mq_hub.proofs.will.last_will.try_will.Goals as goal

pub returns-in-Ok-clause-published : goal.returns-in-Ok-clause-published
returns-in-Ok-clause-published g c = λ yes config clock next_key kept same_rules.
    goes_published c.args.key c.args.will.now (hub_of config clock next_key c.args.tables.now) (hub_of config clock next_key c.deliver_will.new.tables)
    c.args.log.now.acts c.deliver_will.new.log.acts
    (sym yes ∙ c.in-Ok.ensures.enough config clock next_key kept same_rules) (c.in-Ok.ensures.goes (ap Ok yes) config clock next_key kept same_rules)
