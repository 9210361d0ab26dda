use Rattle.std.proofs.Common.{ap, ◌∙◌}
use Rattle.mq_durable.specs.Recorded.{events_in}
use Rattle.mq_durable.proofs.Kept.{begun_none, continued, continued_call, still_none}
use Rattle.mq_durable.proofs.durable.Durable.continue_in.Goals as goal

pub invariant_of-self : goal.invariant_of-self
invariant_of-self g c =
    let d = c.self.inside in
    rw (c.of.ensures, c.replace-journal.ensures.after)
    (continued g.D.Disk.seen g.D.Disk.may_leave d.base.value d.hub d.journal c.new.result d.entry.items d.condition c.self.invariant
    (still_none d.base.value d.hub (events_in d.entry.items) d.journal.disk d.condition c.args.self.now c.self.view_is c.requires.committed)
    c.new.ensures.settled (ap g.D.Disk.seen c.new.ensures.disk ∙ c.in-Ok.ensures.begun))

pub returns-in-Ok-clause-none : goal.returns-in-Ok-clause-none
returns-in-Ok-clause-none g c =
    rw c.replace-journal.ensures.after (begun_none (g.D.Disk.seen c.new.result.disk) (ap g.D.Disk.seen c.new.ensures.disk ∙ c.in-Ok.ensures.begun))

pub returns-in-Ok-clause-call : goal.returns-in-Ok-clause-call
returns-in-Ok-clause-call g c =
    let d = c.self.inside in
    rw c.replace-journal.ensures.after
    (continued_call g.D.Disk.seen d.base.value c.of.result.value d.hub (events_in d.entry.items) d.journal.disk c.new.result.disk d.condition c.args.self.now c.self.view_is c.of.ensures
    c.requires.committed (ap g.D.Disk.seen c.new.ensures.disk ∙ c.in-Ok.ensures.begun))
