use Rattle.mq_decode.proofs.LayoutBodies.{faulty_fields}
use Rattle.mq_decode.proofs.laws.faulty_fields.Goals as goal

pub returns : goal.returns
returns c = faulty_fields (record { numbers = c.number_laws.ensures; texts = c.text_laws.ensures; lengths = c.length_laws.ensures })
