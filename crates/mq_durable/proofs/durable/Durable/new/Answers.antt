use Rattle.std.proofs.Common.{sym, subst}
use Rattle.mq_route.specs.Hub.{HubState}
use Rattle.mq_durable.specs.declared.condition.Condition.TheVariants.{Sound}
use Rattle.mq_durable.specs.State.{IsDurable}
use Rattle.mq_durable.proofs.Kept.{new_durable, new_state}
use Rattle.mq_durable.proofs.durable.Durable.new.Goals as goal

pub invariant_of-result : goal.invariant_of-result
invariant_of-result g c =
    subst (λ (b : HubState). IsDurable g.D.Disk.seen g.D.Disk.may_leave b c.args.hub c.args.journal c.new.result.items Sound) (sym c.of.ensures)
    (new_durable g.D.Disk.seen g.D.Disk.may_leave c.args.hub c.args.journal c.new.result.items c.requires.settled c.requires.begun c.new.ensures.items)

pub returns : goal.returns
returns g c = new_state c.of.result.value c.args.hub c.args.journal.disk c.new.result.items c.of.ensures c.new.ensures.items
