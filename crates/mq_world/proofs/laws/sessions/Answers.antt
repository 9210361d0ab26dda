use Rattle.mq_world.proofs.Chains.{kept_sessions}
use Rattle.mq_world.proofs.laws.sessions.Goals as goal

pub returns : goal.returns
returns c = kept_sessions
