use Rattle.mq_world.proofs.Telling.{law}
use Rattle.mq_world.proofs.laws.event_by_event.Goals as goal

pub returns : goal.returns
returns c = law c.over_bytes.ensures
