use Rattle.mq_world.proofs.Events.{law}
use Rattle.mq_world.proofs.laws.over_bytes.Goals as goal

pub returns : goal.returns
returns c = law c.reads_again.ensures c.closing_laws.ensures
