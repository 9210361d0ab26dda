use Rattle.mq_decode.proofs.Streams.{reads_on}
use Rattle.mq_decode.proofs.laws.reads_on.Goals as goal

pub returns : goal.returns
returns c = reads_on
