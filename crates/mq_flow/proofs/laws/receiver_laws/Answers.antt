use Rattle.mq_flow.proofs.Members.{receiver}
use Rattle.mq_flow.proofs.laws.receiver_laws.Goals as goal

pub returns : goal.returns
returns c = receiver
