use Rattle.mq_world.proofs.Chains.{chains}
use Rattle.mq_world.proofs.laws.runs.Goals as goal

pub returns : goal.returns
returns c = chains
