-- The lines of rows.
use Rattle.std.proofs.Common.{◌≡◌, ℕ, ◌+◌, ◌<◌, List, [], ◌∷◌, ◌++◌, OnOk, Option, Result, Ok, Err, codes, length, take, get_or, refl, sym, ap, subst, ◌∙◌, append_assoc, arith}
use Rattle.std.proofs.lemmas.List.{append-nil, length-take-le, take_more}
use Rattle.std.proofs.KnownBytes.{Appends-trans}
use Rattle.std.specs.Io.KnownBytes.{Appends}
use Rattle.mq_picture.specs.declared.rows.Row.{Row}
use Rattle.mq_packet.specs.Lines.{Prints}
use Rattle.mq_picture.specs.Image.{IsHead, IsImage, body_lines, first_text, lines_from, lines_text, row_lines}

-- a row more at the end
pub lines_more : (n : ℕ) (rows : List Row) (row : Row) → lines_from n (rows ++ row ∷ []) ≡ lines_from n rows ++ row_lines (n + length rows) row
lines_more n [] row = append-nil (row_lines n row) ∙ ap (λ k. row_lines k row) (omega arith)
lines_more n (first ∷ rows) row =
    let place : n + 1 + length rows ≡ n + length (first ∷ rows) = omega arith in
    ap (λ t. row_lines n first ++ t) (lines_more (n + 1) rows row ∙ ap (λ k. lines_from (n + 1) rows ++ row_lines k row) place)
    ∙ sym (append_assoc (row_lines n first) (lines_from (n + 1) rows) (row_lines (n + length (first ∷ rows)) row))

-- the lines of the next row
pub lines_next : (rows : List Row) (k : ℕ) (row : Row) (old mid new : Option (List ℕ)) → k < length rows → row ≡ get_or rows k row
    → Appends old mid (body_lines (take k rows)) → Appends mid new (row_lines k row) → Appends old new (body_lines (take (k + 1) rows))
lines_next rows k row old mid new below at before next =
    let size : length (take k rows) ≡ k = length-take-le k rows (omega (arith, below)) in
    let place : length (take k rows) ≡ 0 + length (take k rows) = omega arith in
    let more : take k rows ++ row ∷ [] ≡ take (k + 1) rows = ap (λ z. take k rows ++ z ∷ []) at ∙ sym (take_more rows k row below) in
    let lines : body_lines (take k rows) ++ row_lines k row ≡ body_lines (take (k + 1) rows) =
    ap (λ n. body_lines (take k rows) ++ row_lines n row) (sym size) ∙ ap (λ n. body_lines (take k rows) ++ row_lines n row) place ∙ sym (lines_more 0 (take k rows) row) ∙ ap body_lines more in
    subst (Appends old new) lines (Appends-trans old mid new (body_lines (take k rows)) (row_lines k row) before next)

-- the head from its three parts
pub head_lines : (style : List ℕ) (rows height : ℕ) (a b c d : Option (List ℕ)) → Appends a b (first_text height) → Appends b c style → Appends c d (lines_text rows height) → Prints a d (IsHead style rows)
head_lines style rows height a b c d first colors lines = (
  first_text height ++ (style ++ lines_text rows height),
  Appends-trans a b d (first_text height) (style ++ lines_text rows height) first (Appends-trans b c d style (lines_text rows height) colors lines),
  (height, refl),
)

-- the image from its head, its rows and its last line
pub image_lines : {A E : Type 0} (r : Result A E) (style : List ℕ) (rows : List Row) (a b c d : Option (List ℕ)) → Prints a b (IsHead style (length rows)) → Appends b c (body_lines rows) → OnOk r (Appends c d (codes "</svg>\n")) → OnOk r (Prints a d (IsImage rows))
image_lines (Ok x) style rows a b c d head body end =
    let last : List ℕ = codes "</svg>\n" in (
      head.0 ++ (body_lines rows ++ last),
      Appends-trans a b d head.0 (body_lines rows ++ last) head.1 (Appends-trans b c d (body_lines rows) last body end),
      record { style = style; head = head.0; is_head = head.2; text_is = refl },
    )
image_lines (Err x) style rows a b c d head body end = tt
