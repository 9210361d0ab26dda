use Rattle.std.proofs.Common.{subst}
use Rattle.mq_route.specs.declared.config.HubConfig.{HubConfig}
use Rattle.mq_store.specs.Restoring.{IsFound}
use Rattle.mq_broker.proofs.recovered.RecoveredBroker.open.Goals as goal

pub returns-in-Ok-clause-recovered : goal.returns-in-Ok-clause-recovered
returns-in-Ok-clause-recovered g c =
    subst (λ (config : HubConfig). IsFound config c.in-Ok.store.durable.hub c.in-Ok.store.events)
    (c.into_config.ensures.whole c.in-Some.ensures.value) c.in-Ok.ensures.opened.found
