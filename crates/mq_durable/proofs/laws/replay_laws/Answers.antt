use Rattle.mq_durable.proofs.Determined.{laws_of_replays}
use Rattle.mq_durable.proofs.laws.replay_laws.Goals as goal

pub returns : goal.returns
returns c = laws_of_replays c.one_reading.ensures c.reads_again.ensures
