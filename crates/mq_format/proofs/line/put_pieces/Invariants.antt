use Rattle.std.proofs.Common.{◌≡◌, ◌++◌, take, flat_map}
use Rattle.mq_format.specs.Format.{piece_text}
use Rattle.mq_format.proofs.line.put_pieces.Given as goal

abbrev pub invariant-loop-piece : goal.invariant-loop-piece
invariant-loop-piece l =
    l.out.items ≡ l.initial.out.items ++ flat_map (piece_text l.envelope) (take l.piece-index l.pieces)
