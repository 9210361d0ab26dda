use Rattle.mq_log.proofs.JournalLaws.{laws}
use Rattle.mq_log.proofs.laws.journal_laws.Goals as goal

pub returns : goal.returns
returns c = laws
