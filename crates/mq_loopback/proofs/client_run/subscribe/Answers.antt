use Rattle.std.proofs.Common.{refl}
use Rattle.mq_loopback.proofs.Runs.{subscribed}
use Rattle.mq_loopback.proofs.client_run.subscribe.Goals as goal

pub returns : goal.returns
returns g c =
    subscribed _ _ c.args.collector.now _ _ _ _ _ c.new-told.ensures.items refl c.in_ok-begin.ensures.ok c.in_ok-begin.ensures.granted c.in_ok-keep_handed.ensures
