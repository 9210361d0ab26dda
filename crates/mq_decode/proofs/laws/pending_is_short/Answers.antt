use Rattle.mq_decode.proofs.Uniqueness.{pending_short}
use Rattle.mq_decode.proofs.laws.pending_is_short.Goals as goal

pub returns : goal.returns
returns c = pending_short (record { numbers = c.number_laws.ensures; texts = c.text_laws.ensures; lengths = c.length_laws.ensures })
