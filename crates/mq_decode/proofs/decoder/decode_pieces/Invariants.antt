use Rattle.std.proofs.Common.{◌≡◌, None, take}
use Rattle.std.specs.List.{flat_map}
use Rattle.mq_decode.specs.Grammar.{Goes}
use Rattle.mq_decode.proofs.decoder.decode_pieces.Given as goal

abbrev pub invariant-loop-piece : goal.invariant-loop-piece
invariant-loop-piece l = record {
  limit : l.decoder.limit ≡ l.fn.limits;
  going : l.decoder.failed ≡ None;
  goes : Goes l.fn.limits (flat_map (λ piece. piece.now) (take l.piece-index l.pieces)) l.fn.out.items l.out.items l.decoder.held;
}
