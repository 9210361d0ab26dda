use Rattle.mq_world.proofs.Exchanging.{law}
use Rattle.mq_world.proofs.laws.settles_over_bytes.Goals as goal

pub returns : goal.returns
returns c = law c.reads_again.ensures c.closing_laws.ensures
