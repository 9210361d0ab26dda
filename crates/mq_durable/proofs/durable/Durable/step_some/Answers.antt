use Rattle.mq_durable.proofs.Kept.{some_call, some_err, some_kept, some_ok, state}
use Rattle.mq_durable.specs.Recorded.{events_in}
use Rattle.mq_durable.specs.State.{after_step, reply_in}
use Rattle.mq_durable.proofs.durable.Durable.step_some.Goals as goal

pub invariant_of-self : goal.invariant_of-self
invariant_of-self g c =
    let d = c.self.inside in
    let ens = c.step_some_noted-stepped.ensures in
    some_kept g.D.Disk.seen g.D.Disk.may_leave c.record_laws.ensures c.step_some_noted-stepped.result d.base.value d.hub c.step_some_noted-stepped.new.hub d.journal d.entry.items c.step_some_noted-stepped.new.entry.items
    c.args.conn c.args.piece.now c.args.most_acts d.condition c.condition_after_some-self-inside.result c.self.invariant (c.is_broken.ensures.no c.if-is_broken.false) ens.step ens.noted ens.short ens.hub ens.entry

pub returns-clause-ok : goal.returns-clause-ok
returns-clause-ok g c =
    let d = c.self.inside in
    some_ok c.record_laws.ensures c.step_some_noted-stepped.result d.base.value d.hub c.step_some_noted-stepped.new.hub d.journal.disk d.entry.items c.step_some_noted-stepped.new.entry.items
    c.args.conn c.args.piece.now d.condition c.condition_after_some-self-inside.result c.args.self.now c.self.view_is c.self.invariant.encoded c.step_some_noted-stepped.ensures.noted c.condition_after_some-self-inside.ensures

pub returns-clause-err : goal.returns-clause-err
returns-clause-err g c =
    let d = c.self.inside in
    some_err c.step_some_noted-stepped.result d.base.value d.hub c.step_some_noted-stepped.new.hub d.journal.disk d.entry.items c.step_some_noted-stepped.new.entry.items
    d.condition c.condition_after_some-self-inside.result c.args.self.now c.self.view_is c.step_some_noted-stepped.ensures.hub c.step_some_noted-stepped.ensures.entry c.condition_after_some-self-inside.ensures

pub returns-clause-call : goal.returns-clause-call
returns-clause-call g c =
    let d = c.self.inside in
    some_call c.step_some_noted-stepped.result g.D.Disk.seen c.args.self.now
    (state d.base.value c.step_some_noted-stepped.new.hub (events_in c.step_some_noted-stepped.new.entry.items) d.journal.disk c.condition_after_some-self-inside.result)
    c.args.conn c.args.piece.now c.step_some_noted-stepped.new.hub (after_step (reply_in c.step_some_noted-stepped.result) c.args.self.now.condition)
    (some_ok c.record_laws.ensures c.step_some_noted-stepped.result d.base.value d.hub c.step_some_noted-stepped.new.hub d.journal.disk d.entry.items c.step_some_noted-stepped.new.entry.items
    c.args.conn c.args.piece.now d.condition c.condition_after_some-self-inside.result c.args.self.now c.self.view_is c.self.invariant.encoded c.step_some_noted-stepped.ensures.noted c.condition_after_some-self-inside.ensures)
