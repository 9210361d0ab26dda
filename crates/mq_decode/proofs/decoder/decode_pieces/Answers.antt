use Rattle.std.proofs.Common.{◌∙◌}
use Rattle.std.proofs.lemmas.Result.{err_from_is_err_and}
use Rattle.mq_decode.proofs.Streams.{pieces_more, pieces_stop}
use Rattle.mq_decode.proofs.decoder.decode_pieces.Goals as goal

pub loop-piece-preserved : goal.loop-piece-preserved
loop-piece-preserved c = record {
  limit = c.in_ok-feed.ensures.limit ∙ c.loop-piece.invariant.limit;
  going = c.in_ok-feed.ensures.failed;
  goes = pieces_more (λ piece. piece.now) c.args.pieces.now c.loop-piece.piece-index _ c.loop-piece.decoder.limit c.args.limits c.args.out.now.items c.loop-piece.out.items c.feed.new.out.items c.loop-piece.decoder.held c.feed.new.self.held
      c.loop-piece-test.true c.loop-piece.invariant.limit c.loop-piece.invariant.goes c.in_ok-feed.ensures.ok;
}

pub returns-in_err-feed-clause-err : goal.returns-in_err-feed-clause-err
returns-in_err-feed-clause-err c =
    let p = err_from_is_err_and c.from_residual.result c.from_residual.ensures.1 in
    rw (p.1, p.2) (pieces_stop (λ piece. piece.now) c.args.pieces.now c.loop-piece.piece-index _ c.loop-piece.decoder.limit c.args.limits c.args.out.now.items c.loop-piece.out.items c.feed.new.out.items c.loop-piece.decoder.held
    c.in_err-feed.field-0.0 c.loop-piece-test.true c.loop-piece.invariant.limit c.loop-piece.invariant.goes (c.in_err-feed.ensures.err c.loop-piece.invariant.going))
