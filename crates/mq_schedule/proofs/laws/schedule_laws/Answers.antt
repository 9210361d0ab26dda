use Rattle.mq_schedule.proofs.Unique.{laws}
use Rattle.mq_schedule.proofs.laws.schedule_laws.Goals as goal

pub returns : goal.returns
returns c = laws
