use Rattle.mq_hub.proofs.KeptState.{goes_config}
use Rattle.mq_hub.proofs.hub.HubOver.on_next_packet.Goals as goal

pub returns-in-Ok-Some-clause-config : goal.returns-in-Ok-Some-clause-config
returns-in-Ok-Some-clause-config g c = λ on.
    let p = c.on_packet.ensures.goes in
    goes_config c.args.conn c.in-Ok-Some.packet p.0 c.args.self.now c.on_packet.new.self c.args.log.now.acts c.on_packet.new.log.acts p.1
