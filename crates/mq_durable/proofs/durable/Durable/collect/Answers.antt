use Rattle.mq_durable.proofs.Kept.{collect_kept}
use Rattle.mq_durable.proofs.durable.Durable.collect.Goals as goal

pub invariant_of-self : goal.invariant_of-self
invariant_of-self g c =
    let d = c.self.inside in
    collect_kept g.D.Disk.seen g.D.Disk.may_leave c.collect_from.result d.base.value d.hub c.collect_from.new.hub d.journal d.entry.items c.args.conn d.condition c.self.invariant
    c.collect_from.ensures.step c.collect_from.ensures.err
