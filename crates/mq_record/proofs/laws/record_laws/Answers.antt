use Rattle.mq_record.proofs.LawProofs.{laws}
use Rattle.mq_record.proofs.laws.record_laws.Goals as goal

pub returns : goal.returns
returns c = laws
