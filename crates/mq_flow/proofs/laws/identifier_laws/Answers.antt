use Rattle.mq_flow.proofs.Books.{laws}
use Rattle.mq_flow.proofs.laws.identifier_laws.Goals as goal

pub returns : goal.returns
returns c = laws
