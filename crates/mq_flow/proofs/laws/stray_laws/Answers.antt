use Rattle.mq_flow.proofs.Books.{strays}
use Rattle.mq_flow.proofs.laws.stray_laws.Goals as goal

pub returns : goal.returns
returns c = strays
