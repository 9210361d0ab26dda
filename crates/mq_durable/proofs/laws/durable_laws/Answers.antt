use Rattle.mq_durable.proofs.CallLaws.{laws}
use Rattle.mq_durable.proofs.laws.durable_laws.Goals as goal

pub returns : goal.returns
returns g c = laws g.D.Disk.seen
