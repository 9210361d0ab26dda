use Rattle.mq_hub.specs.Inside.View.{hub_of}
use Rattle.mq_hub.proofs.LastWills.{goes_dropped}
use Rattle.mq_hub.proofs.DeliveryInvariant.{hub_alike}
use Rattle.mq_hub.proofs.will.last_will.publish_will.Goals as goal

pub returns-then-not-published-clause-goes : goal.returns-then-not-published-clause-goes
returns-then-not-published-clause-goes g c = λ config clock next_key kept same_rules.
    let no = c.if-not-published.true in
    let same = c.try_will-published.ensures.same no in
    goes_dropped c.args.key c.args.will.now (hub_of config clock next_key c.args.tables.now) (hub_of config clock next_key c.try_will-published.new.tables)
    c.args.log.now.acts c.try_will-published.new.log.acts c.push.new.self.acts
    (c.try_will-published.ensures.dropped no config clock next_key kept same_rules)
    (hub_alike config clock next_key c.args.tables.now c.try_will-published.new.tables same.0, same.1) c.push.ensures.acts
