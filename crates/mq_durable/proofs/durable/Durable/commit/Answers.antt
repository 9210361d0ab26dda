use Rattle.std.proofs.Common.{◌≡◌, ◌≢◌, ℕ, List, [], ◌∷◌, ◌++◌, sym, ap, ◌∙◌}
use Rattle.mq_log.specs.Blocks.{entries}
use Rattle.mq_durable.specs.declared.condition.Condition.{Condition}
use Rattle.mq_durable.specs.declared.condition.Condition.TheVariants.{Sound, Broken}
use Rattle.mq_durable.specs.Recorded.{events_in}
use Rattle.mq_durable.proofs.Commits.{crash_with, crash_without, done, none_pending, nothing_done, nothing_recorded, recorded}
use Rattle.mq_durable.proofs.Entries.{none_found}
use Rattle.mq_durable.proofs.Kept.{committed}
use Rattle.mq_durable.proofs.durable.Durable.commit.Goals as goal

pub returns-in-OutOfMemory-clause-at_any_time : goal.returns-in-OutOfMemory-clause-at_any_time
returns-in-OutOfMemory-clause-at_any_time g c =
    let d = c.self.inside in
    crash_without g.D.Disk.clock g.D.Disk.left_since g.D.Disk.seen g.D.Disk.may_leave d.base.value d.hub d.journal d.entry.items d.condition c.args.self.now c.self.invariant c.self.view_is
    c.journal_laws.ensures (λ f left. g.met.D.Disk.only_now d.journal.disk f left)

pub returns-in-Broken-clause-at_any_time : goal.returns-in-Broken-clause-at_any_time
returns-in-Broken-clause-at_any_time g c =
    let d = c.self.inside in
    crash_without g.D.Disk.clock g.D.Disk.left_since g.D.Disk.seen g.D.Disk.may_leave d.base.value d.hub d.journal d.entry.items d.condition c.args.self.now c.self.invariant c.self.view_is
    c.journal_laws.ensures (λ f left. g.met.D.Disk.only_now d.journal.disk f left)

pub returns-then-not-has_bytes-clause-ok : goal.returns-then-not-has_bytes-clause-ok
returns-then-not-has_bytes-clause-ok g c =
    let d = c.self.inside in
    nothing_done c.args.self.now (none_pending g.D.Disk.clock g.D.Disk.left_since g.D.Disk.seen g.D.Disk.may_leave d.base.value d.hub d.journal d.entry.items d.condition c.args.self.now c.self.invariant c.self.view_is (sym c.as_slice.ensures.value ∙ c.has_bytes.ensures.no c.if-not-has_bytes.true))

pub returns-then-not-has_bytes-clause-recorded : goal.returns-then-not-has_bytes-clause-recorded
returns-then-not-has_bytes-clause-recorded g c =
    let d = c.self.inside in
    nothing_recorded g.D.Disk.seen c.args.self.now (none_pending g.D.Disk.clock g.D.Disk.left_since g.D.Disk.seen g.D.Disk.may_leave d.base.value d.hub d.journal d.entry.items d.condition c.args.self.now c.self.invariant c.self.view_is (sym c.as_slice.ensures.value ∙ c.has_bytes.ensures.no c.if-not-has_bytes.true))

pub returns-then-not-has_bytes-clause-call : goal.returns-then-not-has_bytes-clause-call
returns-then-not-has_bytes-clause-call g c =
    let d = c.self.inside in
    let none = none_pending g.D.Disk.clock g.D.Disk.left_since g.D.Disk.seen g.D.Disk.may_leave d.base.value d.hub d.journal d.entry.items d.condition c.args.self.now c.self.invariant c.self.view_is (sym c.as_slice.ensures.value ∙ c.has_bytes.ensures.no c.if-not-has_bytes.true) in
    (nothing_recorded g.D.Disk.seen c.args.self.now none, none)

pub returns-then-not-has_bytes-clause-at_any_time : goal.returns-then-not-has_bytes-clause-at_any_time
returns-then-not-has_bytes-clause-at_any_time g c =
    let d = c.self.inside in
    crash_without g.D.Disk.clock g.D.Disk.left_since g.D.Disk.seen g.D.Disk.may_leave d.base.value d.hub d.journal d.entry.items d.condition c.args.self.now c.self.invariant c.self.view_is
    c.journal_laws.ensures (λ f left. g.met.D.Disk.only_now d.journal.disk f left)

pub invariant_of-self : goal.invariant_of-self
invariant_of-self g c =
    let d = c.self.inside in
    let sound : d.condition ≢ Broken = λ broken. let wrong : ◌≡◌ {A = Condition} Sound Broken = sym c.in-Sound.is ∙ broken in absurd cc in
    committed g.D.Disk.seen g.D.Disk.may_leave d.base.value d.hub d.journal c.put.new.self d.entry.items c.clear.new.self.items d.condition d.condition c.self.invariant sound c.in-Ok.ensures.settled
    (c.in-Ok.ensures.acknowledged ∙ ap (λ (e : List ℕ). entries (g.D.Disk.seen d.journal.disk) ++ e ∷ []) c.as_slice-2.ensures.value) c.clear.ensures.items

pub returns-in-Ok-clause-ok : goal.returns-in-Ok-clause-ok
returns-in-Ok-clause-ok g c =
    let d = c.self.inside in
    done g.D.Disk.clock g.D.Disk.left_since g.D.Disk.seen g.D.Disk.may_leave d.base.value d.hub d.journal d.entry.items d.condition c.args.self.now c.self.invariant c.self.view_is c.put.new.self.disk c.clear.new.self.items c.clear.ensures.items

pub returns-in-Ok-clause-recorded : goal.returns-in-Ok-clause-recorded
returns-in-Ok-clause-recorded g c =
    let d = c.self.inside in
    recorded g.D.Disk.clock g.D.Disk.left_since g.D.Disk.seen g.D.Disk.may_leave d.base.value d.hub d.journal d.entry.items d.condition c.args.self.now c.self.invariant c.self.view_is c.put.new.self.disk c.as_slice-2.result.now c.as_slice-2.ensures.value c.in-Ok.ensures.acknowledged

pub returns-in-Ok-clause-call : goal.returns-in-Ok-clause-call
returns-in-Ok-clause-call g c =
    let d = c.self.inside in
    (recorded g.D.Disk.clock g.D.Disk.left_since g.D.Disk.seen g.D.Disk.may_leave d.base.value d.hub d.journal d.entry.items d.condition c.args.self.now c.self.invariant c.self.view_is c.put.new.self.disk c.as_slice-2.result.now c.as_slice-2.ensures.value c.in-Ok.ensures.acknowledged, ap events_in c.clear.ensures.items ∙ none_found)

pub returns-in-Ok-clause-at_any_time : goal.returns-in-Ok-clause-at_any_time
returns-in-Ok-clause-at_any_time g c =
    let d = c.self.inside in
    crash_with g.D.Disk.clock g.D.Disk.left_since g.D.Disk.seen g.D.Disk.may_leave d.base.value d.hub d.journal d.entry.items d.condition c.args.self.now c.self.invariant c.self.view_is c.put.new.self.disk c.as_slice-2.result.now c.as_slice-2.ensures.value c.put.ensures.at_any_time

pub returns-in-Err-clause-at_any_time : goal.returns-in-Err-clause-at_any_time
returns-in-Err-clause-at_any_time g c =
    let d = c.self.inside in
    crash_with g.D.Disk.clock g.D.Disk.left_since g.D.Disk.seen g.D.Disk.may_leave d.base.value d.hub d.journal d.entry.items d.condition c.args.self.now c.self.invariant c.self.view_is c.put.new.self.disk c.as_slice-2.result.now c.as_slice-2.ensures.value c.put.ensures.at_any_time
