use Rattle.mq_packet.specs.declared.packet.Packet.{Packet}
use Rattle.mq_packet.specs.declared.packet.Packet.TheVariants as packets
use Rattle.mq_end.specs.Receiving.{TakesPacket, told_of}
use Rattle.std.proofs.Common.{◌≡◌}
use Rattle.mq_tables.proofs.EndCalls.{err_told, is_ok_told, ok_told, takes_serves, up_live}
use Rattle.mq_tables.proofs.sessions.call.serve_publish.Goals as goal

pub returns : goal.returns
returns c =
    let took = c.receive_publish in
    let m = c.args.message.now in
    let p : Packet = packets.Publish (record { message = m; delivery = c.args.delivery }) in
    let old = c.args.end.now in
    let new = took.new.self in
    takes_serves c.encoding_laws.ensures c.args.now p (told_of m took.result) old new
    (ok_told m (λ o. TakesPacket c.args.now p o old new) took.result (took.ensures.open (up_live old.end.state c.requires.up)))
    (err_told m (new ≡ old) took.result took.ensures.err)
    (λ plain fits. is_ok_told m took.result (took.ensures.within c.requires.up plain fits)) (took.ensures.kept c.requires.up)
