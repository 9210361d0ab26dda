use Rattle.mq_world.proofs.Carrying.{carried as law}
use Rattle.mq_world.proofs.laws.carried.Goals as goal

pub returns : goal.returns
returns c = law
