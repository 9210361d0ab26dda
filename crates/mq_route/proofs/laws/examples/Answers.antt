use Rattle.mq_route.proofs.Rows.{examples}
use Rattle.mq_route.proofs.laws.examples.Goals as goal

pub returns : goal.returns
returns c = examples
