use Rattle.std.proofs.Common.{arith, sym}
use Rattle.mq_decode.specs.declared.packet_view.View.TheVariants as views
use Rattle.mq_decode.specs.Views.{packet_of}
use Rattle.mq_decode.proofs.Alone.{alone_appends}
use Rattle.mq_decode.proofs.FrontFound.{view_is}
use Rattle.mq_decode.proofs.take.push_short.Goals as goal

pub returns-in-Some-clause-yes : goal.returns-in-Some-clause-yes
returns-in-Some-clause-yes c = λ yes.
    let packet = c.in-Some.packet in
    alone_appends c.args.limits c.args.bytes.now (packet_of packet) 4 c.args.out.now.items c.push_plain.new.out.items c.requires.alone
    (view_is (record { numbers = c.number_laws.ensures; texts = c.text_laws.ensures; lengths = c.length_laws.ensures }) c.args.limits c.args.bytes.now (views.Whole packet 4)
    (λ i. omega (arith, c.type_inv.bytes i)) (sym c.in-Some.ensures.read)) (c.push_plain.ensures.yes yes)

pub returns-in-Some-bare_packet-clause-yes : goal.returns-in-Some-bare_packet-clause-yes
returns-in-Some-bare_packet-clause-yes c = λ yes.
    let packet = c.in-Some-bare_packet.packet in
    alone_appends c.args.limits c.args.bytes.now (packet_of packet) 2 c.args.out.now.items c.push_plain-in-Some-bare_packet.new.out.items c.requires.alone
    (view_is (record { numbers = c.number_laws.ensures; texts = c.text_laws.ensures; lengths = c.length_laws.ensures }) c.args.limits c.args.bytes.now (views.Whole packet 2)
    (λ i. omega (arith, c.type_inv.bytes i)) (sym c.in-Some-bare_packet.ensures.read)) (c.push_plain-in-Some-bare_packet.ensures.yes yes)
