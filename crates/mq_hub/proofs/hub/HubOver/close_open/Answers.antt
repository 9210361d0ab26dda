use Rattle.std.proofs.Common.{ap}
use Rattle.mq_route.specs.declared.close.HubClose.TheVariants.{PeerEnded}
use Rattle.mq_route.specs.Hub.{key_on}
use Rattle.mq_hub.proofs.KeptState.{goes_shut}
use Rattle.mq_hub.proofs.hub.HubOver.close_open.Goals as goal

pub returns-then-is_open-clause-down : goal.returns-then-is_open-clause-down
returns-then-is_open-clause-down g c =
    let goes = c.close.ensures.goes in
    ap key_on (goes_shut c.args.conn PeerEnded goes.0 c.args.self.now c.close.new.self c.args.log.now.acts c.close.new.log.acts goes.1)
