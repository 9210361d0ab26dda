use Rattle.mq_world.proofs.Samples.{samples}
use Rattle.mq_world.proofs.laws.examples.Goals as goal

pub returns : goal.returns
returns c = samples
