use Rattle.mq_wire.proofs.Texts.{number_laws}
use Rattle.mq_wire.proofs.number.number_laws.Goals as goal

pub returns : goal.returns
returns c = number_laws
