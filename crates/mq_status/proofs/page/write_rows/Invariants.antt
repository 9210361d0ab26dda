use Rattle.std.proofs.Common.{take, flat_map}
use Rattle.std.specs.Io.KnownBytes.{Appends}
use Rattle.mq_status.specs.Page.{row_text}
use Rattle.mq_status.proofs.page.write_rows.Given as goal

abbrev pub invariant-loop-row : goal.invariant-loop-row
invariant-loop-row g l = Appends (g.W.Write.contents l.initial.output) (g.W.Write.contents l.output) (flat_map row_text (take l.row-index l.rows))
