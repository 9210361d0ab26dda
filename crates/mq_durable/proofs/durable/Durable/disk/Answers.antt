use Rattle.mq_durable.proofs.Commits.{crash_now}
use Rattle.mq_durable.proofs.durable.Durable.disk.Goals as goal

pub returns-clause-crash : goal.returns-clause-crash
returns-clause-crash g c =
    let d = c.self.inside in
    crash_now g.D.Disk.clock g.D.Disk.left_since g.D.Disk.seen g.D.Disk.may_leave d.base.value d.hub d.journal d.entry.items d.condition c.args.self.now c.self.invariant c.self.view_is
    c.journal_laws.ensures
