use Rattle.mq_world.proofs.Together.{law}
use Rattle.mq_world.proofs.laws.arrivals_at_once.Goals as goal

pub returns : goal.returns
returns c = law
