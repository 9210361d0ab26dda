use Rattle.std.proofs.Common.{◌≡◌, refl, ℕ, List, ◌++◌, length, add-one, append_assoc, ap, ◌∙◌, arith}
use Rattle.std.proofs.lemmas.List.{length-append}
use Rattle.mq_cli.proofs.Streams.{place, longer, behind, some_is}
use Rattle.mq_cli.proofs.show.size_of.Goals as goal

pub split_at-requires : goal.split_at-requires
split_at-requires c =
    let reading = c.requires.2 in
    let here = place c.args.limits c.args.packets.now c.loop-packet._packet-index c._packet-item.result reading.front c.loop-packet-test.true c._packet-item.is reading.stream in
    let parts : c.args.bytes.now ≡ here.front ++ ((here.one ++ here.more) ++ c.requires.0) = reading.parts ∙ (ap (λ (t : List ℕ). t ++ c.requires.0) here.parts ∙ append_assoc here.front (here.one ++ here.more) c.requires.0) in
    let before : length here.front ≡ c.loop-packet.size = c.loop-packet.invariant here.front ((here.one ++ here.more) ++ c.requires.0) here.stream parts in
    omega (arith, ap length parts, length-append here.front ((here.one ++ here.more) ++ c.requires.0))

pub unwrap-size-requires : goal.unwrap-size-requires
unwrap-size-requires c =
    let reading = c.requires.2 in
    let here = place c.args.limits c.args.packets.now c.loop-packet._packet-index c._packet-item.result reading.front c.loop-packet-test.true c._packet-item.is reading.stream in
    let parts : c.args.bytes.now ≡ here.front ++ ((here.one ++ here.more) ++ c.requires.0) = reading.parts ∙ (ap (λ (t : List ℕ). t ++ c.requires.0) here.parts ∙ append_assoc here.front (here.one ++ here.more) c.requires.0) in
    let before : length here.front ≡ c.loop-packet.size = c.loop-packet.invariant here.front ((here.one ++ here.more) ++ c.requires.0) here.stream parts in
    let left : c.split_at.result.1.now ≡ here.one ++ (here.more ++ c.requires.0) =
    c.split_at.ensures.back ∙ (behind c.args.bytes.now here.front ((here.one ++ here.more) ++ c.requires.0) c.loop-packet.size parts before ∙ append_assoc here.one here.more c.requires.0) in
    let told = c.packet_len.ensures.packet c._packet-item.result here.one (here.more ++ c.requires.0) here.encodes left in
    rw told refl

pub overflow_add-size : goal.overflow_add-size
overflow_add-size c =
    let reading = c.requires.2 in
    let here = place c.args.limits c.args.packets.now c.loop-packet._packet-index c._packet-item.result reading.front c.loop-packet-test.true c._packet-item.is reading.stream in
    let parts : c.args.bytes.now ≡ here.front ++ ((here.one ++ here.more) ++ c.requires.0) = reading.parts ∙ (ap (λ (t : List ℕ). t ++ c.requires.0) here.parts ∙ append_assoc here.front (here.one ++ here.more) c.requires.0) in
    let before : length here.front ≡ c.loop-packet.size = c.loop-packet.invariant here.front ((here.one ++ here.more) ++ c.requires.0) here.stream parts in
    let left : c.split_at.result.1.now ≡ here.one ++ (here.more ++ c.requires.0) =
    c.split_at.ensures.back ∙ (behind c.args.bytes.now here.front ((here.one ++ here.more) ++ c.requires.0) c.loop-packet.size parts before ∙ append_assoc here.one here.more c.requires.0) in
    let told = c.packet_len.ensures.packet c._packet-item.result here.one (here.more ++ c.requires.0) here.encodes left in
    let one : length here.one ≡ c.unwrap-size.result = some_is _ _ _ told c.unwrap-size.ensures in
    omega (arith, ap length parts, length-append here.front ((here.one ++ here.more) ++ c.requires.0), length-append (here.one ++ here.more) c.requires.0, length-append here.one here.more)

pub loop-packet-preserved : goal.loop-packet-preserved
loop-packet-preserved c = λ front rest h e.
    let last = longer c.args.limits c.args.packets.now c.loop-packet._packet-index c._packet-item.result front c.loop-packet-test.true c._packet-item.is (rw add-one at h) in
    let parts : c.args.bytes.now ≡ last.front ++ (last.one ++ rest) = e ∙ (ap (λ (t : List ℕ). t ++ rest) last.parts ∙ append_assoc last.front last.one rest) in
    let before : length last.front ≡ c.loop-packet.size = c.loop-packet.invariant last.front (last.one ++ rest) last.stream parts in
    let left : c.split_at.result.1.now ≡ last.one ++ rest = c.split_at.ensures.back ∙ behind c.args.bytes.now last.front (last.one ++ rest) c.loop-packet.size parts before in
    let told = c.packet_len.ensures.packet c._packet-item.result last.one rest last.encodes left in
    let one : length last.one ≡ c.unwrap-size.result = some_is _ _ _ told c.unwrap-size.ensures in
    omega (arith, ap length last.parts, length-append last.front last.one)
