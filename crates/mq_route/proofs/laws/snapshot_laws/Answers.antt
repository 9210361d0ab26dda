use Rattle.mq_route.proofs.Snapshots.{laws}
use Rattle.mq_route.proofs.laws.snapshot_laws.Goals as goal

pub returns : goal.returns
returns c = laws
