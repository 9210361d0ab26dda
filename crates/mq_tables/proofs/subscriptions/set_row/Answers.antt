use Rattle.std.proofs.Common.{◌∙◌, sym}
use Rattle.mq_tables.proofs.RestoredRows.{noted, noted_there}
use Rattle.mq_tables.proofs.subscriptions.set_row.Goals as goal

pub returns-clause-back : goal.returns-clause-back
returns-clause-back g c =
    noted c.store_laws.ensures c.args.key c.in_ok-filter.filter c.in_ok-before.before c.get-qos.result c.args.request.now.qos
    (g.S.FilterStore.rows c.args.store.now) (g.S.FilterStore.rows c.set.new.self) c.args.befores.now.items c.push.new.self.items c.set.result
    (c.in_ok-before.ensures.cases ∙ sym c.in_ok-filter.ensures.cases) c.get-qos.ensures.value c.get-qos.ensures.ascending c.set.ensures.value c.set.ensures.unchanged c.in_ok-push.ensures.items

pub returns-clause-there : goal.returns-clause-there
returns-clause-there g c = λ all.
    noted_there c.store_laws.ensures c.args.key c.in_ok-filter.filter c.in_ok-before.before c.get-qos.result c.args.request.now.qos
    (g.S.FilterStore.rows c.args.store.now) (g.S.FilterStore.rows c.set.new.self) c.args.befores.now.items c.push.new.self.items c.set.result
    (c.in_ok-before.ensures.cases ∙ sym c.in_ok-filter.ensures.cases) c.get-qos.ensures.value c.get-qos.ensures.ascending c.set.ensures.value c.set.ensures.unchanged c.in_ok-push.ensures.items all
