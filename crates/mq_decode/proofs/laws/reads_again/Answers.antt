use Rattle.mq_decode.proofs.Uniqueness.{again_laws}
use Rattle.mq_decode.proofs.laws.reads_again.Goals as goal

pub returns : goal.returns
returns c = again_laws (record { numbers = c.number_laws.ensures; texts = c.text_laws.ensures; lengths = c.length_laws.ensures })
