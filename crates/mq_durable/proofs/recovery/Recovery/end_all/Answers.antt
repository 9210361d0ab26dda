use Rattle.std.proofs.Common.{◌∙◌, ap}
use Rattle.mq_route.specs.Hub.{HubState}
use Rattle.mq_durable.proofs.Names.{none_known}
use Rattle.mq_durable.proofs.Recoveries.{ended_clock}
use Rattle.mq_durable.proofs.recovery.Recovery.end_all.Goals as goal

pub returns-clause-clock : goal.returns-clause-clock
returns-clause-clock c =
    ended_clock c.self.inside.progress.hub c.end_each.new.hub c.in_ok-end_each.ensures.ended ∙ ap (λ (h : HubState). h.clock) c.self.view_is

pub returns-clause-none : goal.returns-clause-none
returns-clause-none c = none_known c.end_each.new.hub c.in_ok-end_each.ensures.none
