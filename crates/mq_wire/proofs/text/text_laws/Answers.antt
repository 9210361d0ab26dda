use Rattle.mq_wire.proofs.Texts.{laws}
use Rattle.mq_wire.proofs.text.text_laws.Goals as goal

pub returns : goal.returns
returns c = laws
