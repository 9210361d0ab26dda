use Rattle.std.proofs.Common.{arith, ap}
use Rattle.mq_packet.specs.declared.packet.Packet.TheVariants as packets
use Rattle.mq_decode.specs.declared.packet_view.PacketView.TheVariants as lent
use Rattle.mq_decode.proofs.WholeFound.{whole_reads}
use Rattle.mq_decode.proofs.ahead.shared_publish.Goals as goal

pub returns-in-Ok-sharing-clause-packet : goal.returns-in-Ok-sharing-clause-packet
returns-in-Ok-sharing-clause-packet c =
    whole_reads (record { numbers = c.number_laws.ensures; texts = c.text_laws.ensures; lengths = c.length_laws.ensures }) c.args.limits c.args.bytes.now
    (lent.Publish c.in_ok-publish.publish) c.in_ok-publish.size (packets.Publish c.in-Ok-sharing.publish) (λ i. omega (arith, c.type_inv.bytes i)) c.in_ok-publish.ensures.read
    (ap packets.Publish c.in-Ok-sharing.ensures)
