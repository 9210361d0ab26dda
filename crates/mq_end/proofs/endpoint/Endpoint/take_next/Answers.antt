use Rattle.std.proofs.Common.{◌≡◌, ◌≤◌, ◌++◌, [], length, take, subst}
use Rattle.mq_decode.specs.Grammar.{ReadsWithin}
use Rattle.mq_end.specs.declared.progress_builder.ProgressBuilder.{ProgressBuilder}
use Rattle.mq_end.specs.State.{EndState}
use Rattle.mq_end.specs.Inside.Receiving.{TakesNext}
use Rattle.mq_end.proofs.Walking.{came_next}
use Rattle.mq_end.proofs.endpoint.Endpoint.take_next.Goals as goal

pub returns-in-Ok-Some-clause-packet : goal.returns-in-Ok-Some-clause-packet
returns-in-Ok-Some-clause-packet c =
    let was = c.take_lying.new.self in
    let told = c.take_lying.new.told in
    let mid = c.next_packet.new.self in
    let p = c.in-Ok-Some.packet in
    let n = c.in-Ok-Some.size in
    let piece = c.args.piece.now in
    let within : n ≤ length piece = rw c.in-Ok-Some.field-0-is at c.in-Ok-Some.ensures.within in
    let reads : ReadsWithin was.limit p (was.held ++ take n piece) = rw c.in-Ok-Some.field-0-is at c.in-Ok-Some.ensures.packet in
    let empty : mid.held ≡ [] = rw c.in-Ok-Some.field-0-is at c.in-Ok-Some.ensures.taken in
    let x = came_next c.args.role piece n c.take_or_close.result was mid c.take_or_close.new.self told c.take_or_close.new.told p within reads c.next_packet.ensures.state empty c.take_or_close.ensures.made in
    subst (λ (s : EndState). TakesNext c.args.role piece n c.take_or_close.result s c.take_or_close.new.self c.args.told.now c.take_or_close.new.told) c.in_default.ensures.none
    (subst (λ (t : ProgressBuilder). TakesNext c.args.role piece n c.take_or_close.result was c.take_or_close.new.self t c.take_or_close.new.told) c.in_default.ensures.told x)
