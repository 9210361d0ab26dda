use Rattle.std.proofs.Common.{◌≡◌, ℕ, List, ◌<◌, [], ◌++◌, length, drop, ap, sym, ◌∙◌}
use Rattle.std.proofs.lemmas.Result.{err_from_is_err_and, on_ok_weaker, IfErr-weaker}
use Rattle.mq_decode.specs.declared.fault.DecodeError.TheVariants as errors
use Rattle.mq_decode.specs.Grammar.{Stops}
use Rattle.mq_decode.proofs.Copying.{copies_all, copies_none, copies_left, all_used, goes_all}
use Rattle.mq_decode.proofs.Loops.{some_left}
use Rattle.mq_decode.proofs.Streams.{filled_all, filled_stops_all, left_memory, nil_left, rest_goes, on_ok_both, wants_less}
use Rattle.mq_decode.proofs.take.take_piece.Goals as goal

pub returns-in_err-taken-clause-err : goal.returns-in_err-taken-clause-err
returns-in_err-taken-clause-err c =
    let p = err_from_is_err_and c.from_residual-in_err-taken.result c.from_residual-in_err-taken.ensures.1 in
    let none : c.take_first.new.held.bytes ≡ [] = nil_left c.is_empty.result c.take_first.new.held.bytes c.is_empty.ensures.value c.if-not-is_empty.false in
    rw (p.1, p.2) (filled_stops_all c.args.limits c.args.held.now.bytes c.args.piece.now c.take_first.new.held.bytes c.in_ok-used.used c.args.out.now.items c.take_first.new.out.items c.take_packets.new.out.items
    c.in_err-taken.field-0.0 none c.in_ok-used.ensures.ok (rw c.split_at.ensures.back at c.in_err-taken.ensures.err))

pub returns-then-is_empty-clause-ok : goal.returns-then-is_empty-clause-ok
returns-then-is_empty-clause-ok c =
    let none : c.take_first.new.held.bytes ≡ [] = nil_left c.is_empty.result c.take_first.new.held.bytes c.is_empty.ensures.value c.if-not-is_empty.false in
    let empty : c.split_at-2.result.1.now ≡ [] = nil_left c.is_empty-2.result c.split_at-2.result.1.now c.is_empty-2.ensures c.if-is_empty.true in
    let same : drop c.in_ok-taken.taken c.split_at.result.1.now ≡ c.take_first.new.held.bytes = sym c.split_at-2.ensures.back ∙ (empty ∙ sym none) in
    filled_all c.args.limits c.args.held.now.bytes c.args.piece.now c.take_first.new.held.bytes c.in_ok-used.used c.args.out.now.items c.take_first.new.out.items c.take_packets.new.out.items c.take_first.new.held.bytes
    none c.in_ok-used.ensures.ok (rest_goes c.args.limits c.split_at.result.1.now (drop c.in_ok-used.used c.args.piece.now) c.take_first.new.out.items c.take_packets.new.out.items
    (drop c.in_ok-taken.taken c.split_at.result.1.now) c.take_first.new.held.bytes c.split_at.ensures.back same c.in_ok-taken.ensures.ok)

pub returns-clause-ok : goal.returns-clause-ok
returns-clause-ok c =
    let none : c.take_first.new.held.bytes ≡ [] = nil_left c.is_empty.result c.take_first.new.held.bytes c.is_empty.ensures.value c.if-not-is_empty.false in
    on_ok_weaker c.hold.result
    (λ held.
    let same : drop c.in_ok-taken.taken c.split_at.result.1.now ≡ c.hold.new.self.bytes = sym c.split_at-2.ensures.back ∙ sym (held ∙ ap (λ (t : List ℕ). t ++ c.split_at-2.result.1.now) none) in
    filled_all c.args.limits c.args.held.now.bytes c.args.piece.now c.take_first.new.held.bytes c.in_ok-used.used c.args.out.now.items c.take_first.new.out.items c.take_packets.new.out.items c.hold.new.self.bytes
    none c.in_ok-used.ensures.ok (rest_goes c.args.limits c.split_at.result.1.now (drop c.in_ok-used.used c.args.piece.now) c.take_first.new.out.items c.take_packets.new.out.items
    (drop c.in_ok-taken.taken c.split_at.result.1.now) c.hold.new.self.bytes c.split_at.ensures.back same c.in_ok-taken.ensures.ok))
    c.hold.ensures.ok

pub returns-clause-err : goal.returns-clause-err
returns-clause-err c =
    let none : c.take_first.new.held.bytes ≡ [] = nil_left c.is_empty.result c.take_first.new.held.bytes c.is_empty.ensures.value c.if-not-is_empty.false in
    let left : 0 < length c.split_at-2.result.1.now = some_left c.is_empty-2.result (length c.split_at-2.result.1.now) c.is_empty-2.ensures c.if-is_empty.false in
    IfErr-weaker c.hold.result (λ e. e ≡ errors.Memory) (Stops c.args.limits (c.args.held.now.bytes ++ c.args.piece.now) c.args.out.now.items c.take_packets.new.out.items)
    (λ e memory.
    filled_stops_all c.args.limits c.args.held.now.bytes c.args.piece.now c.take_first.new.held.bytes c.in_ok-used.used c.args.out.now.items c.take_first.new.out.items c.take_packets.new.out.items e none c.in_ok-used.ensures.ok
    (left_memory c.args.limits (drop c.in_ok-used.used c.args.piece.now) c.in_ok-taken.taken c.take_first.new.out.items c.take_packets.new.out.items c.split_at-2.result.1.now e memory left
    (rest_goes c.args.limits c.split_at.result.1.now (drop c.in_ok-used.used c.args.piece.now) c.take_first.new.out.items c.take_packets.new.out.items
    (drop c.in_ok-taken.taken c.split_at.result.1.now) c.split_at-2.result.1.now c.split_at.ensures.back (sym c.split_at-2.ensures.back) c.in_ok-taken.ensures.ok)))
    c.hold.ensures.err

pub returns-then-not-is_empty-clause-ok : goal.returns-then-not-is_empty-clause-ok
returns-then-not-is_empty-clause-ok c =
    let held : 0 < length c.take_first.new.held.bytes = some_left c.is_empty.result (length c.take_first.new.held.bytes) c.is_empty.ensures.value c.if-not-is_empty.true in
    goes_all c.args.limits c.args.held.now.bytes c.args.piece.now c.in_ok-used.used c.args.out.now.items c.take_first.new.out.items c.take_first.new.held.bytes (all_used (length c.args.piece.now) c.in_ok-used.used c.take_first.new.held.bytes held c.in_ok-used.ensures.used) c.in_ok-used.ensures.ok

pub returns-then-not-is_empty-clause-copied : goal.returns-then-not-is_empty-clause-copied
returns-then-not-is_empty-clause-copied c =
    let held : 0 < length c.take_first.new.held.bytes = some_left c.is_empty.result (length c.take_first.new.held.bytes) c.is_empty.ensures.value c.if-not-is_empty.true in
    let count = c.in_ok-used.ensures.copied in
    copies_all c.args.limits c.args.held.now.bytes c.args.piece.now c.in_ok-used.used c.args.held.now.copied c.take_first.new.held.copied (all_used (length c.args.piece.now) c.in_ok-used.used c.take_first.new.held.bytes held c.in_ok-used.ensures.used) c.in_ok-used.ensures.within c.in_ok-used.ensures.adds count

pub returns-then-is_empty-clause-copied : goal.returns-then-is_empty-clause-copied
returns-then-is_empty-clause-copied c =
    let empty : c.split_at-2.result.1.now ≡ [] = nil_left c.is_empty-2.result c.split_at-2.result.1.now c.is_empty-2.ensures c.if-is_empty.true in
    let count = c.in_ok-used.ensures.copied in
    copies_none c.args.limits c.args.held.now.bytes c.args.piece.now c.split_at-2.result.1.now c.in_ok-used.used c.args.held.now.copied c.take_first.new.held.copied c.take_first.new.out.items c.take_packets.new.out.items c.in_ok-used.ensures.within c.in_ok-used.ensures.adds
    (rest_goes c.args.limits c.split_at.result.1.now (drop c.in_ok-used.used c.args.piece.now) c.take_first.new.out.items c.take_packets.new.out.items
    (drop c.in_ok-taken.taken c.split_at.result.1.now) c.split_at-2.result.1.now c.split_at.ensures.back (sym c.split_at-2.ensures.back) c.in_ok-taken.ensures.ok)
    empty count

pub returns-clause-copied : goal.returns-clause-copied
returns-clause-copied c =
    let count = c.in_ok-used.ensures.copied in
    on_ok_weaker c.hold.result
    (λ grown.
    copies_left c.args.limits c.args.held.now.bytes c.args.piece.now c.split_at-2.result.1.now c.in_ok-used.used c.args.held.now.copied c.take_first.new.held.copied c.hold.new.self.copied c.take_first.new.out.items c.take_packets.new.out.items c.in_ok-used.ensures.within c.in_ok-used.ensures.adds
    (rest_goes c.args.limits c.split_at.result.1.now (drop c.in_ok-used.used c.args.piece.now) c.take_first.new.out.items c.take_packets.new.out.items
    (drop c.in_ok-taken.taken c.split_at.result.1.now) c.split_at-2.result.1.now c.split_at.ensures.back (sym c.split_at-2.ensures.back) c.in_ok-taken.ensures.ok)
    count grown)
    c.hold.ensures.copied

pub returns-clause-wants : goal.returns-clause-wants
returns-clause-wants c =
    on_ok_both c.hold.result
    (λ held less.
    wants_less c.args.limits c.take_first.new.held.bytes c.split_at-2.result.1.now c.hold.new.self.bytes c.take_first.new.held.wants c.hold.new.self.wants held less c.in_ok-used.ensures.wants)
    c.hold.ensures.ok c.hold.ensures.wants
