use Rattle.std.proofs.Common.{List, subst, sym}
use Rattle.mq_format.specs.declared.piece.Piece.{Piece}
use Rattle.mq_format.specs.Reading.{Reads}
use Rattle.mq_format.proofs.ReadingLemmas.{Reads-append_at}
use Rattle.mq_format.proofs.format.Format.parse.Goals as goal

-- One more piece was read and pushed.
pub loop-rest-preserved : goal.loop-rest-preserved
loop-rest-preserved c =
    let pushed = rw (c.is_err.ensures.negation, c.if-is_err.false) at c.push.ensures.items in
    let IsRead : List Piece → Type 0 = λ pieces. Reads pieces c.args.text.now c.in_ok-piece.more.now in
    subst IsRead (sym pushed)
    (Reads-append_at c.loop-rest.pieces.items c.args.text.now c.loop-rest.rest.now c.in_ok-piece.piece c.in_ok-piece.more.now
    c.loop-rest.invariant c.in-len1-up.len_at_least c.in_ok-piece.ensures.read)
