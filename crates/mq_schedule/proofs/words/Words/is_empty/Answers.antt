use Rattle.mq_schedule.proofs.Cuts.{none_is_empty}
use Rattle.mq_schedule.proofs.words.Words.is_empty.Goals as goal

pub returns : goal.returns
returns c = rw (← c.self.view_is) (none_is_empty 32 c.self.inside.left c.is_none.result c.is_none.ensures)
