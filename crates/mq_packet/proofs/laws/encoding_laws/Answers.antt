use Rattle.mq_packet.proofs.Encodings.{laws}
use Rattle.mq_packet.proofs.laws.encoding_laws.Goals as goal

pub returns : goal.returns
returns c = laws c.length_laws.ensures
