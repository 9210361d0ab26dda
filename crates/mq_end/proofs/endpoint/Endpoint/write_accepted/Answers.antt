use Rattle.std.proofs.Common.{◌≡◌, ◌∙◌, Bool, cond, length, sym, ap, subst, arith}
use Rattle.std.proofs.lemmas.List.{length-append}
use Rattle.mq_packet.specs.declared.packet.Packet.TheVariants as packets
use Rattle.mq_packet.specs.declared.connack.ConnAck.TheVariants as connacks
use Rattle.mq_flow.specs.Sender.{blank_book, resent}
use Rattle.mq_end.specs.End.{renewed}
use Rattle.mq_end.specs.Ready.{AreEncodable, packets_size}
use Rattle.mq_end.specs.State.{EndState}
use Rattle.mq_end.proofs.Rooms.{encoded_within}
use Rattle.mq_end.proofs.endpoint.Endpoint.write_accepted.Goals as goal

pub returns-then-is_err-clause-within : goal.returns-then-is_err-clause-within
returns-then-is_err-clause-within c = λ all fits.
    let old = c.args.self.now in
    let mid = c.write.new.self in
    let wrote = c.in_ok-write.ensures.ok in
    let book = ap (λ (s : EndState). s.end.book) wrote.2 ∙ sym (ap (λ (clean : Bool). cond clean blank_book old.end.book) c.if-clean.false) in
    let same : resent mid.end.book ≡ resent (renewed c.args.clean old.end).book = ap resent book in
    let sizes = ap packets_size same in
    let few = encoded_within (packets.ConnAck (connacks.Accepted c.args.session_present)) wrote.0 wrote.1 in
    let long = ap (λ (s : EndState). length s.output) wrote.2 ∙ length-append old.output wrote.0 in
    let room = ap (λ (s : EndState). s.room.bytes) wrote.2 in
    c.write_resent-resent.ensures.within (subst AreEncodable (sym same) all) (omega arith)
