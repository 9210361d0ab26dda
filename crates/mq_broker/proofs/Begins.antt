-- Brokers with which a run may begin.
use Rattle.std.proofs.Common.{[], refl}
use Rattle.mq_route.specs.declared.config.HubConfig.{HubConfig}
use Rattle.mq_route.specs.Begun.{BegunLaws, MayBegin}
use Rattle.mq_route.specs.Hub.{HubState, new_hub}
use Rattle.mq_loop.specs.Rounds.{IsReached}

pub begun_reached : (hub : HubState) → MayBegin hub → IsReached hub
begun_reached hub may = record { begun = hub; may_begin = may; before = []; follows = refl }

pub hub_reached : BegunLaws → (config : HubConfig) → IsReached (new_hub config)
hub_reached laws config = begun_reached (new_hub config) (laws.new config)
