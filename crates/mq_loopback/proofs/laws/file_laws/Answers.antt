use Rattle.mq_loopback.proofs.Unique.{laws}
use Rattle.mq_loopback.proofs.laws.file_laws.Goals as goal

pub returns : goal.returns
returns c = laws
