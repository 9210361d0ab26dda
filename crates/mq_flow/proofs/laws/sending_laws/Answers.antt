use Rattle.mq_flow.proofs.Sending.{sending}
use Rattle.mq_flow.proofs.laws.sending_laws.Goals as goal

pub returns : goal.returns
returns c = sending
