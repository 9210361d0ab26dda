-- A new broker is one with which a run may begin, and was reached by no step.
use Rattle.std.proofs.Common.{[], refl}
use Rattle.mq_route.specs.declared.config.HubConfig.{HubConfig}
use Rattle.mq_route.specs.Hub.{new_hub}
use Rattle.mq_loop.specs.Rounds.{IsReached}

pub hub_reached : (config : HubConfig) → IsReached (new_hub config)
hub_reached config = record {
  begun = new_hub config;
  may_begin = record { none = refl; keys = tt; lasting = tt };
  before = [];
  follows = refl;
}
