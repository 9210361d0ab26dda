use Rattle.std.proofs.Common.{◌∙◌, ◌-◌, ◌^◌, ℕ, ap, min}
use Rattle.mq_route.specs.Hub.{HubState}
use Rattle.mq_tables.specs.Numbers.{all_stored}
use Rattle.mq_hub.specs.Gauges.{stored_in}
use Rattle.mq_hub.proofs.Gauges.{stored_seen}
use Rattle.mq_hub.proofs.hub.HubOver.counts.Goals as goal

pub returns-clause-stored : goal.returns-clause-stored
returns-clause-stored g c =
    c.stored.ensures
    ∙ ap (λ (n : ℕ). min n (2 ^ 64 - 1)) ((λ i. all_stored (c.self-inside.view_is i).tables.sessions.list)
    ∙ stored_seen c.self.inside.config c.self.inside.tables.connections.connections c.self.inside.tables.sessions.list c.self.invariant.fitting
    ∙ ap (λ (h : HubState). stored_in h.sessions) c.self.view_is)
