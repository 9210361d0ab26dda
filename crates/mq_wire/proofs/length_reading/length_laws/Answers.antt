use Rattle.mq_wire.proofs.Lengths.{laws}
use Rattle.mq_wire.proofs.length_reading.length_laws.Goals as goal

pub returns : goal.returns
returns c = laws
