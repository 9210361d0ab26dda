use Rattle.mq_world.proofs.Whole.{headline as law}
use Rattle.mq_world.proofs.laws.headline.Goals as goal

pub returns : goal.returns
returns c = law
