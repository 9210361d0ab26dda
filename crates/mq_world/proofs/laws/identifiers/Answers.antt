use Rattle.mq_world.proofs.Whole.{identifiers as law}
use Rattle.mq_world.proofs.laws.identifiers.Goals as goal

pub returns : goal.returns
returns c = law
