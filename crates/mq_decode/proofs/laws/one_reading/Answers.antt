use Rattle.mq_decode.proofs.Uniqueness.{one_way}
use Rattle.mq_decode.proofs.laws.one_reading.Goals as goal

pub returns : goal.returns
returns c = one_way (record { numbers = c.number_laws.ensures; texts = c.text_laws.ensures; lengths = c.length_laws.ensures })
