use Rattle.mq_end.proofs.Soundness.{laws}
use Rattle.mq_end.proofs.laws.sound_laws.Goals as goal

pub returns : goal.returns
returns c = laws
