use Rattle.std.proofs.Common.{arith}
use Rattle.mq_decode.proofs.WholeFound.{whole_reads}
use Rattle.mq_decode.proofs.ahead.take_short.Goals as goal

pub returns-clause-packet : goal.returns-clause-packet
returns-clause-packet c =
    whole_reads (record { numbers = c.number_laws.ensures; texts = c.text_laws.ensures; lengths = c.length_laws.ensures }) c.args.limits c.args.bytes.now
    c.in_ok-view.view c.in_ok-view.size c.in_ok-packet.packet (λ i. omega (arith, c.type_inv.bytes i)) c.in_ok-view.ensures.read c.in_ok-packet.ensures
