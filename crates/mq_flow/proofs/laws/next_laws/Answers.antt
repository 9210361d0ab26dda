use Rattle.mq_flow.proofs.Next.{laws}
use Rattle.mq_flow.proofs.laws.next_laws.Goals as goal

pub returns : goal.returns
returns c = laws
