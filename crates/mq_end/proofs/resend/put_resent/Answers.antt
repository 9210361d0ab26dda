use Rattle.std.proofs.Common.{◌≡◌, ℕ, true, false, List, map, refl, sym, ap, subst, arith}
use Rattle.mq_packet.specs.declared.packet.Packet.TheVariants as packets
use Rattle.mq_flow.specs.declared.entry.SenderEntry.{SenderEntry}
use Rattle.mq_flow.specs.Sender.{publish_packet, resent}
use Rattle.mq_end.specs.Ready.{AreEncodable, packets_size}
use Rattle.mq_end.proofs.Onward.{both_put}
use Rattle.mq_end.proofs.Rooms.{published, put_within, second_encodable, sizes_joined}
use Rattle.mq_end.proofs.resend.put_resent.Goals as goal

pub returns-in_err-put_releases-clause-within : goal.returns-in_err-put_releases-clause-within
returns-in_err-put_releases-clause-within c = λ all fits.
    let book = c.args.sender.now.book in
    let parts = sizes_joined (map packets.PubRel book.released) (published book.entries) in
    let same = ap (λ (is : List ℕ). packets_size (map packets.PubRel is)) c.releases.ensures.rest in
    let bad : false ≡ true = rw c.in_err-put_releases.was at c.put_releases.ensures.within (omega arith) in
    cc

pub returns-clause-ok : goal.returns-clause-ok
returns-clause-ok c =
    both_put c.put_messages.result (map packets.PubRel c.releases.result) (map (λ (e : SenderEntry). publish_packet e.id e.sent e.message) c.entries.result) (resent c.args.sender.now.book) c.args.output.now.bytes c.put_releases.new.output.bytes c.put_messages.new.output.bytes
    (rw (c.releases.ensures.rest, c.entries.ensures.rest) refl) c.in_ok-put_releases.ensures.ok c.put_messages.ensures.ok

pub returns-clause-within : goal.returns-clause-within
returns-clause-within c = λ all fits.
    let book = c.args.sender.now.book in
    let parts = sizes_joined (map packets.PubRel book.released) (published book.entries) in
    let first = put_within (map packets.PubRel c.releases.result) c.args.output.now.bytes c.put_releases.new.output.bytes c.in_ok-put_releases.ensures.ok in
    let room = c.put_releases.ensures.room in
    let same = ap (λ (is : List ℕ). packets_size (map packets.PubRel is)) c.releases.ensures.rest in
    let rest = ap (λ (es : List SenderEntry). packets_size (published es)) c.entries.ensures.rest in
    let encoded = subst (λ (es : List SenderEntry). AreEncodable (published es)) (sym c.entries.ensures.rest) (second_encodable (map packets.PubRel book.released) (published book.entries) all) in
    c.put_messages.ensures.within encoded (omega arith)
