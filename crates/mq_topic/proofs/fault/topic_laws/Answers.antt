use Rattle.mq_topic.proofs.Faults.{laws}
use Rattle.mq_topic.proofs.fault.topic_laws.Goals as goal

pub returns : goal.returns
returns c = laws
