use Rattle.mq_hub.proofs.FirstPackets.{goes_unexpected}
use Rattle.mq_hub.proofs.hub.HubOver.on_wrong_first_packet.Goals as goal

pub returns-clause-goes : goal.returns-clause-goes
returns-clause-goes g c = λ fits.
    goes_unexpected c.args.conn c.args.packet.now fits c.args.self.now c.close_idle.new.self c.args.log.now.acts c.close_idle.new.log.acts c.requires.other
    (c.close_idle.ensures.goes fits)
