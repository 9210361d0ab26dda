use Rattle.std.proofs.Common.{◌≡◌, ◌∷◌, ◌∙◌, true, false, List, map, refl, ap, subst, arith}
use Rattle.mq_topic.specs.declared.qos.Qos.TheVariants.{Q0}
use Rattle.mq_packet.specs.declared.packet.Packet.{Packet}
use Rattle.mq_flow.specs.declared.entry.SenderEntry.{SenderEntry}
use Rattle.mq_flow.specs.Sender.{publish_packet, same_qos}
use Rattle.mq_end.specs.Ready.{AreEncodable, packets_size}
use Rattle.mq_end.specs.Waiting.{Waiting}
use Rattle.mq_end.proofs.Onward.{one_more, grown_more, none_left, bytes_behind}
use Rattle.mq_end.proofs.Rooms.{behind_within}
use Rattle.mq_end.proofs.resend.put_messages.Goals as goal

-- the PUBLISHes of messages
abbrev published : List SenderEntry → List Packet
published es = map (λ (e : SenderEntry). publish_packet e.id e.sent e.message) es

pub loop-entry-preserved : goal.loop-entry-preserved
loop-entry-preserved c =
    let at = c.loop-entry in
    let e : SenderEntry = c.in-Some.entry.now in
    let p : Packet = publish_packet e.id e.sent e.message in
    let wrote = c.in_ok-append_publish.ensures.ok in
    let behind = bytes_behind p at.output c.append_publish.new.self wrote in
    let steps : at.entry-iterator ≡ e ∷ c.next.new.self = c.in-Some.ensures.steps in
    record {
      onward = one_more p (published at.entry-iterator) (published c.next.new.self) (published c.args.entries) c.args.output.now.bytes at.output.bytes c.append_publish.new.self.bytes (rw steps refl) at.invariant.onward behind;
      grown = grown_more p c.args.output.now.bytes at.output.bytes c.append_publish.new.self.bytes at.invariant.grown behind;
      room = ap (λ (w : Waiting). w.room) wrote.2 ∙ at.invariant.room;
      within =
          let few = behind_within p at.output.bytes c.append_publish.new.self.bytes behind in
          let parts = ap (λ (es : List SenderEntry). packets_size (published es)) steps in
          let was = at.invariant.within in
          omega arith;
      encodable = λ all. (subst (λ (es : List SenderEntry). AreEncodable (published es)) steps (at.invariant.encodable all)).1;
      none = none_left (λ (e : SenderEntry). same_qos Q0 e.message.qos) e c.next.new.self at.entry-iterator steps at.invariant.none;
    }

pub returns-in_err-append_publish-clause-within : goal.returns-in_err-append_publish-clause-within
returns-in_err-append_publish-clause-within c = λ all fits.
    let at = c.loop-entry in
    let e : SenderEntry = c.in-Some.entry.now in
    let steps : at.entry-iterator ≡ e ∷ c.next.new.self = c.in-Some.ensures.steps in
    let parts = ap (λ (es : List SenderEntry). packets_size (published es)) steps in
    let was = at.invariant.within in
    let room = at.invariant.room in
    let few = (subst (λ (es : List SenderEntry). AreEncodable (published es)) steps (at.invariant.encodable all)).0 in
    let bad : false ≡ true = rw c.in_err-append_publish.was at c.append_publish.ensures.within few (omega arith) in
    cc
