-- One more piece.
use Rattle.std.proofs.Common.{◌≡◌, ◌≤◌, ◌-◌, ℕ, List, [], ◌∷◌, ◌++◌, Ok, refl, length, get_or, take, drop, subst, arith}
use Rattle.std.proofs.lemmas.Grind.{common_steps}
use Rattle.mq_format.specs.declared.piece.Piece.{Piece}
use Rattle.mq_format.specs.Reading.{Reads, piece_at}

-- the pieces before it, and then a piece
pub Reads-append : (before : List Piece) (text : List ℕ) (byte : ℕ) (rest : List ℕ) (piece : Piece) (behind : List ℕ) → Reads before text (byte ∷ rest) → piece_at byte rest ≡ Ok (piece, behind) → Reads (before ++ piece ∷ []) text behind
Reads-append [] text byte rest piece behind same read = (byte, rest, behind, same, read, refl)
Reads-append (first ∷ before) text byte rest piece behind reads read =
    (reads.0, reads.1, reads.2, reads.3, reads.4, Reads-append before reads.2 byte rest piece behind reads.5 read)

-- the text behind the first byte, as a slice pattern gives it
behind_first : (byte : ℕ) (rest : List ℕ) → take (length (byte ∷ rest) - 1) (drop 1 (byte ∷ rest)) ≡ rest
behind_first byte rest = grind (arith, common_steps)

-- the same of a text that has a byte
pub Reads-append_at : (before : List Piece) (text left : List ℕ) (piece : Piece) (behind : List ℕ) → Reads before text left → 1 ≤ length left → piece_at (get_or left 0 0) (take (length left - 1) (drop 1 left)) ≡ Ok (piece, behind) → Reads (before ++ piece ∷ []) text behind
Reads-append_at before text [] piece behind reads some read = absurd (omega arith)
Reads-append_at before text (byte ∷ rest) piece behind reads some read =
    let IsPiece : List ℕ → Type 0 = λ after. piece_at byte after ≡ Ok (piece, behind) in
    Reads-append before text byte rest piece behind reads (subst IsPiece (behind_first byte rest) read)
