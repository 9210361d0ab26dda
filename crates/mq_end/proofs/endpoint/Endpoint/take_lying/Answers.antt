use Rattle.std.proofs.Common.{ℕ, List, ◌≡◌, ◌++◌, [], length, take, refl, sym, ap, subst, arith}
use Rattle.std.proofs.lemmas.List.{nil_from_length}
use Rattle.mq_decode.specs.Limits.{Bounds}
use Rattle.mq_decode.specs.Grammar.{ReadsWithin}
use Rattle.mq_decode.specs.Views.{packet_of}
use Rattle.mq_end.specs.State.{EndState}
use Rattle.mq_end.proofs.Walking.{came_next}
use Rattle.mq_end.proofs.endpoint.Endpoint.take_lying.Goals as goal

pub returns-in-Whole-clause-packet : goal.returns-in-Whole-clause-packet
returns-in-Whole-clause-packet c =
    let old = c.args.self.now in
    let piece = c.args.piece.now in
    let p = packet_of c.in-Whole.packet in
    let n = c.in-Whole.size in
    let is = c.self.view_is in
    let gone = c.if-held-gt0.false in
    let value = c.held.ensures in
    let none : old.held ≡ [] = nil_from_length old.held (omega (arith, value, gone, ap length (ap (λ (s : EndState). s.held) is))) in
    let limit = ap (λ (s : EndState). s.limit) is in
    let front = c.in-Whole.ensures.front in
    let reads = subst (λ (l : Bounds). ReadsWithin l p (take n piece)) limit front.1 in
    came_next c.args.role piece n c.take_lent_or_close.result old old c.take_lent_or_close.new.self c.args.told.now c.take_lent_or_close.new.told p
    front.0 (subst (λ (h : List ℕ). ReadsWithin old.limit p (h ++ take n piece)) (sym none) reads) refl none c.take_lent_or_close.ensures.made
