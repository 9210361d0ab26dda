-- The image of a diagram.
use Rattle.std.specs.Prelude.{◌≡◌, ℕ, ◌+◌, Bool, true, false, List, [], ◌∷◌, ◌++◌, length, codes, decimal}
use Rattle.mq_world.specs.declared.side.Side.{Side}
use Rattle.mq_world.specs.declared.side.Side.TheVariants.{Client, Server}
use Rattle.mq_schedule.specs.declared.schedule.Schedule.{Schedule}
use Rattle.mq_picture.specs.declared.entry.RecordEntry.{RecordEntry}
use Rattle.mq_picture.specs.declared.entry.Note.{Note}
use Rattle.mq_picture.specs.declared.entry.Note.TheVariants as notes
use Rattle.mq_picture.specs.declared.rows.Arrow.{Arrow}
use Rattle.mq_picture.specs.declared.rows.Fate.{Fate}
use Rattle.mq_picture.specs.declared.rows.Fate.TheVariants as fates
use Rattle.mq_picture.specs.declared.rows.Row.{Row}
use Rattle.mq_picture.specs.declared.rows.Row.TheVariants as drawn
use Rattle.mq_picture.specs.Records.{IsRecord}
use Rattle.mq_picture.specs.Rows.{Draws, reaches}
use Rattle.mq_picture.specs.Texts.{arrow_text, note_text}

-- ---- The head

abbrev pub first_text : ℕ → List ℕ
first_text height = codes "<svg xmlns=\"http://www.w3.org/2000/svg\" width=\"880\" viewBox=\"0 -200 2800 " ++ (decimal height ++ codes "00\" role=\"img\">\n")

abbrev pub lines_text : ℕ → ℕ → List ℕ
lines_text rows height =
    codes "<rect class=\"back\" y=\"-200\" width=\"2800\" height=\"" ++ (decimal height
    ++ (codes "00\"/>\n<text class=\"head\" x=\"850\" y=\"-100\">client</text>\n<text class=\"head\" x=\"1950\" y=\"-100\">server</text>\n<path d=\"M850 -60V" ++ (decimal rows
    ++ (codes "50M1950 -60V" ++ (decimal rows ++ codes "50\"/>\n")))))

-- The head depends on the number of rows alone: on no text of the record.
abbrev pub IsHead : List ℕ → ℕ → List ℕ → Type 0
IsHead style rows text = (height : ℕ) × (text ≡ first_text height ++ (style ++ lines_text rows height))

-- ---- Arrows

abbrev pub line_class : Fate → List ℕ
line_class fates.Arrived = codes "whole"
line_class fates.Discarded = codes "cut"
line_class fates.Cut = codes "cut"
line_class fates.InFlight = codes "flying"

-- The line ends at the other side only if the packet reaches it.
abbrev pub line_ends : Side → Bool → ℕ → List ℕ
line_ends Server true sent = codes "\" d=\"M860 " ++ (decimal sent ++ codes "00L1940 ")
line_ends Server false sent = codes "\" d=\"M860 " ++ (decimal sent ++ codes "00L1330 ")
line_ends Client true sent = codes "\" d=\"M1940 " ++ (decimal sent ++ codes "00L860 ")
line_ends Client false sent = codes "\" d=\"M1940 " ++ (decimal sent ++ codes "00L1470 ")

abbrev pub arrow_line : Side → Fate → ℕ → List ℕ
arrow_line to fate sent = codes "<path class=\"" ++ (line_class fate ++ line_ends to (reaches fate) sent)

abbrev pub text_place : Side → Bool → ℕ → List ℕ
text_place Server true row = codes "50\"/>\n<text class=\"left\" x=\"1890\" y=\"" ++ (decimal row ++ codes "20\">")
text_place Server false row = codes "50\"/>\n<text x=\"1370\" y=\"" ++ (decimal row ++ codes "62\">")
text_place Client true row = codes "50\"/>\n<text x=\"910\" y=\"" ++ (decimal row ++ codes "20\">")
text_place Client false row = codes "50\"/>\n<text class=\"left\" x=\"1430\" y=\"" ++ (decimal row ++ codes "62\">")

abbrev pub arrow_place : Side → Fate → ℕ → List ℕ
arrow_place to fate row = decimal row ++ text_place to (reaches fate) row

abbrev pub arrow_label : Arrow → List ℕ
arrow_label arrow = arrow_text arrow ++ codes "</text>\n"

abbrev pub arrow_lines : ℕ → Arrow → List ℕ
arrow_lines row arrow = arrow_line arrow.to arrow.fate arrow.sent ++ (arrow_place arrow.to arrow.fate row ++ arrow_label arrow)

-- ---- Notes

abbrev pub note_look : Note → List ℕ
note_look (notes.Up present) = codes "note"
note_look (notes.Delivered message) = codes "good"
note_look (notes.Accepted id) = codes "note"
note_look (notes.Refused why) = codes "bad"
note_look (notes.Closed why) = codes "bad"
note_look notes.Dropped = codes "bad"
note_look notes.Restarted = codes "note"
note_look notes.Pong = codes "note"

abbrev pub note_lines : ℕ → Side → Note → List ℕ
note_lines row Client note =
    codes "<circle cx=\"850\" cy=\"" ++ (decimal row
    ++ (codes "50\" r=\"12\"/>\n<text class=\"left " ++ (note_look note
    ++ (codes "\" x=\"800\" y=\"" ++ (decimal row
    ++ (codes "62\">" ++ (note_text note ++ codes "</text>\n")))))))
note_lines row Server note =
    codes "<circle cx=\"1950\" cy=\"" ++ (decimal row
    ++ (codes "50\" r=\"12\"/>\n<text class=\"" ++ (note_look note
    ++ (codes "\" x=\"2000\" y=\"" ++ (decimal row
    ++ (codes "62\">" ++ (note_text note ++ codes "</text>\n")))))))

-- ---- Rows

abbrev pub row_lines : ℕ → Row → List ℕ
row_lines number (drawn.Arrow arrow) = arrow_lines number arrow
row_lines number (drawn.Note side note) = note_lines number side note

-- rows from the one with this number
abbrev pub lines_from : ℕ → List Row → List ℕ
lines_from number [] = []
lines_from number (row ∷ rows) = row_lines number row ++ lines_from (number + 1) rows

abbrev pub body_lines : List Row → List ℕ
body_lines rows = lines_from 0 rows

-- The image of rows: a head, each row, and the end.
pub record IsImage (rows : List Row) (text : List ℕ) : Type 0 where
  pub style : List ℕ
  pub head : List ℕ
  pub is_head : IsHead style (length rows) head
  pub text_is : text ≡ head ++ (body_lines rows ++ codes "</svg>\n")

-- The image of the diagram of a record of this schedule.
pub record IsPicture (schedule : Schedule) (text : List ℕ) : Type 0 where
  pub history : List RecordEntry
  pub recorded : IsRecord schedule history
  pub rows : List Row
  pub draws : Draws history rows
  pub image : IsImage rows text
