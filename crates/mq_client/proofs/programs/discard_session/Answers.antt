use Rattle.std.proofs.Common.{refl}
use Rattle.mq_client.proofs.Wholes.{discarded}
use Rattle.mq_client.proofs.programs.discard_session.Goals as goal

pub returns : goal.returns
returns g c = discarded _ _ _ _ _ c.in_ok-peer.ensures refl c.publish_all-done.ensures.ok
