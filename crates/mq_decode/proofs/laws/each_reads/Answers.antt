use Rattle.mq_decode.proofs.Uniqueness.{each_reads}
use Rattle.mq_decode.proofs.laws.each_reads.Goals as goal

pub returns : goal.returns
returns c = each_reads (record { numbers = c.number_laws.ensures; texts = c.text_laws.ensures; lengths = c.length_laws.ensures })
