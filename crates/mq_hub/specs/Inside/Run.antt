-- Events of a broker, one after another. Only proofs cite these definitions.
use Rattle.std.specs.Prelude.{◌≡◌, List, length}
use Rattle.std.specs.List.{flat_map}
use Rattle.mq_route.specs.declared.event.HubEvent.{HubEvent}
use Rattle.mq_route.specs.declared.trace.HubTrace.{HubTrace}
use Rattle.mq_route.specs.Hub.{HubState}
use Rattle.mq_route.specs.Runs.{AreAccounts}
use Rattle.mq_hub.specs.Run.{IsFollowed}

-- These events led the broker `old` to `new`, with the replies of this trace. The trace has one log
-- for each key that was given.
pub record IsTraced (old : HubState) (events : List HubEvent) (trace : HubTrace) (new : HubState) : Type 0 where
  pub followed : IsFollowed old events trace.replies new
  pub keys : length trace.accounts ≡ new.next_key
  pub accounts : AreAccounts 0 (flat_map (λ r. r.acts) trace.replies) trace.accounts
