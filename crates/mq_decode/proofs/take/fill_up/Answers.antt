use Rattle.std.proofs.Common.{◌≡◌, ℕ, List, ◌+◌, ◌++◌, length, take, drop, sym, ap, subst, ◌∙◌, arith}
use Rattle.std.proofs.lemmas.Result.{err_from_is_err_and}
use Rattle.mq_decode.specs.Grammar.{Pending, ReadsWithin, Wants}
use Rattle.mq_decode.specs.Inside.Grammar.{IsAlone}
use Rattle.mq_decode.specs.Copied.{counted_more}
use Rattle.mq_decode.proofs.Copying.{alone_reads, counts_part}
use Rattle.mq_decode.proofs.Streams.{front_piece, held_alone, next_bytes, wants_nothing}
use Rattle.mq_decode.proofs.take.fill_up.Goals as goal

pub returns-in_err-found-clause-err : goal.returns-in_err-found-clause-err
returns-in_err-found-clause-err c =
    let p = err_from_is_err_and c.from_residual-in_err-found.result c.from_residual-in_err-found.ensures.1 in
    let next : c.hold-in-loop-used.new.self.bytes ≡ c.loop-used.held.bytes ++ take c.want-wanted.result (drop c.loop-used.used c.args.piece.now) =
    c.in_ok-hold-2.ensures.ok ∙ (ap (λ (t : List ℕ). t ++ c.split_at-in-loop-used.result.0.now) c.want-wanted.ensures.bytes
    ∙ ap (λ (t : List ℕ). c.loop-used.held.bytes ++ t) (c.split_at-in-loop-used.ensures.front ∙ ap (take c.want-wanted.result) c.split_at.ensures.back)) in
    rw (p.1, p.2) (front_piece c.args.limits c.args.held.now.bytes c.args.piece.now c.loop-used.held.bytes c.hold-in-loop-used.new.self.bytes c.loop-used.used c.want-wanted.result c.in_err-found.field-0.0 next c.loop-used.invariant.bytes c.in_err-found.ensures.front)

pub returns-in-Some-clause-packet : goal.returns-in-Some-clause-packet
returns-in-Some-clause-packet c =
    let next : c.hold-in-loop-used.new.self.bytes ≡ c.loop-used.held.bytes ++ take c.want-wanted.result (drop c.loop-used.used c.args.piece.now) =
    c.in_ok-hold-2.ensures.ok ∙ (ap (λ (t : List ℕ). t ++ c.split_at-in-loop-used.result.0.now) c.want-wanted.ensures.bytes
    ∙ ap (λ (t : List ℕ). c.loop-used.held.bytes ++ t) (c.split_at-in-loop-used.ensures.front ∙ ap (take c.want-wanted.result) c.split_at.ensures.back)) in
    let all : c.hold-in-loop-used.new.self.bytes ≡ c.args.held.now.bytes ++ take (c.loop-used.used + c.want-wanted.result) c.args.piece.now =
    next ∙ (ap (λ (t : List ℕ). t ++ take c.want-wanted.result (drop c.loop-used.used c.args.piece.now)) c.loop-used.invariant.bytes ∙ next_bytes c.args.held.now.bytes c.args.piece.now c.loop-used.used c.want-wanted.result) in
    let wants : Wants c.args.limits c.loop-used.held.bytes c.want-wanted.result = subst (λ (b : List ℕ). Wants c.args.limits b c.want-wanted.result) c.want-wanted.ensures.bytes c.want-wanted.ensures.exact in
    let alone : IsAlone c.args.limits c.hold-in-loop-used.new.self.bytes =
    held_alone c.args.limits c.loop-used.held.bytes c.args.piece.now c.hold-in-loop-used.new.self.bytes c.loop-used.used c.want-wanted.result c.want-wanted.result next (omega arith) wants c.loop-used.invariant.pending in
    let front = rw (c.in_ok-found.was, c.in-Some.is) at c.take.ensures.front in
    subst (λ (b : List ℕ). ReadsWithin c.args.limits c.in-Some.found.0 b) all (alone_reads c.args.limits c.hold-in-loop-used.new.self.bytes c.in-Some.found.0 c.in-Some.found.1 alone front)

pub loop-used-preserved : goal.loop-used-preserved
loop-used-preserved c =
    let next : c.hold-in-loop-used.new.self.bytes ≡ c.loop-used.held.bytes ++ take c.want-wanted.result (drop c.loop-used.used c.args.piece.now) =
    c.in_ok-hold-2.ensures.ok ∙ (ap (λ (t : List ℕ). t ++ c.split_at-in-loop-used.result.0.now) c.want-wanted.ensures.bytes
    ∙ ap (λ (t : List ℕ). c.loop-used.held.bytes ++ t) (c.split_at-in-loop-used.ensures.front ∙ ap (take c.want-wanted.result) c.split_at.ensures.back)) in
    let all : c.hold-in-loop-used.new.self.bytes ≡ c.args.held.now.bytes ++ take (c.loop-used.used + c.want-wanted.result) c.args.piece.now =
    next ∙ (ap (λ (t : List ℕ). t ++ take c.want-wanted.result (drop c.loop-used.used c.args.piece.now)) c.loop-used.invariant.bytes ∙ next_bytes c.args.held.now.bytes c.args.piece.now c.loop-used.used c.want-wanted.result) in
    let size : length c.split_at-in-loop-used.result.0.now ≡ c.want-wanted.result = omega (arith, c.split_at-in-loop-used.ensures.front_len) in
    let kept : c.take.new.self.bytes ≡ c.hold-in-loop-used.new.self.bytes = rw c.in_default.is at c.in_ok-found.ensures.kept in
    let pending : Pending c.args.limits c.hold-in-loop-used.new.self.bytes = rw c.in_default.is at c.in_ok-found.ensures.front in
    let counted : c.take.new.self.copied ≡ counted_more c.loop-used.held.copied (length c.split_at-in-loop-used.result.0.now) =
    c.take.ensures.copied ∙ (c.in_ok-hold-2.ensures.copied ∙ ap (λ (t : ℕ). counted_more t (length c.split_at-in-loop-used.result.0.now)) c.want-wanted.ensures.copied) in
    record {
      within = omega (arith, c.split_at.ensures.back_len);
      pending = subst (Pending c.args.limits) (sym kept) pending;
      wants = wants_nothing c.args.limits c.take.new.self.bytes c.take.new.self.wants (omega (arith, c.take.ensures.wants, c.in_ok-hold-2.ensures.wants, c.want-wanted.ensures.wants, size));
      bytes = kept ∙ all;
      counted = counts_part c.args.held.now.copied c.loop-used.used c.want-wanted.result c.loop-used.held.copied c.take.new.self.copied c.split_at-in-loop-used.result.0.now size c.loop-used.invariant.counted counted;
    }
