use Rattle.mq_world.proofs.Settle.{law}
use Rattle.mq_world.proofs.laws.settling.Goals as goal

pub returns : goal.returns
returns c = law
