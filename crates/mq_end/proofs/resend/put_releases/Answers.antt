use Rattle.std.proofs.Common.{◌≡◌, ◌∷◌, ◌∙◌, ℕ, true, false, List, map, refl, ap, arith}
use Rattle.mq_packet.specs.declared.packet.Packet.TheVariants as packets
use Rattle.mq_end.specs.Waiting.{Waiting}
use Rattle.mq_end.specs.Ready.{packets_size}
use Rattle.mq_end.proofs.Onward.{one_more, grown_more, bytes_behind}
use Rattle.mq_end.proofs.Rooms.{behind_within}
use Rattle.mq_end.proofs.resend.put_releases.Goals as goal

pub loop-id-preserved : goal.loop-id-preserved
loop-id-preserved c =
    let at = c.loop-id in
    let wrote = c.in_ok-append_packet.ensures.ok in
    let behind = bytes_behind (packets.PubRel c.in-Some.id) at.output c.append_packet.new.self wrote in
    let steps : at.id-iterator ≡ c.in-Some.id ∷ c.next.new.self = c.in-Some.ensures.steps in
    record {
      onward = one_more (packets.PubRel c.in-Some.id) (map packets.PubRel at.id-iterator) (map packets.PubRel c.next.new.self) (map packets.PubRel c.args.released) c.args.output.now.bytes at.output.bytes c.append_packet.new.self.bytes
          (rw steps refl) at.invariant.onward behind;
      grown = grown_more (packets.PubRel c.in-Some.id) c.args.output.now.bytes at.output.bytes c.append_packet.new.self.bytes at.invariant.grown behind;
      room = ap (λ (w : Waiting). w.room) wrote.2 ∙ at.invariant.room;
      within =
          let few = behind_within (packets.PubRel c.in-Some.id) at.output.bytes c.append_packet.new.self.bytes behind in
          let parts = ap (λ (is : List ℕ). packets_size (map packets.PubRel is)) steps in
          let was = at.invariant.within in
          omega arith;
    }

pub returns-in_err-append_packet-clause-within : goal.returns-in_err-append_packet-clause-within
returns-in_err-append_packet-clause-within c = λ fits.
    let at = c.loop-id in
    let steps : at.id-iterator ≡ c.in-Some.id ∷ c.next.new.self = c.in-Some.ensures.steps in
    let parts = ap (λ (is : List ℕ). packets_size (map packets.PubRel is)) steps in
    let was = at.invariant.within in
    let room = at.invariant.room in
    let bad : false ≡ true = rw c.in_err-append_packet.was at c.append_packet.ensures.within (omega arith) (omega arith) in
    cc
