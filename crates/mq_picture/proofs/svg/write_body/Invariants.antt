use Rattle.std.proofs.Common.{take}
use Rattle.std.specs.Io.KnownBytes.{Appends}
use Rattle.mq_picture.specs.Image.{body_lines}
use Rattle.mq_picture.proofs.svg.write_body.Given as goal

abbrev pub invariant-loop-number : goal.invariant-loop-number
invariant-loop-number g l = Appends (g.W.Write.contents l.initial.output) (g.W.Write.contents l.output) (body_lines (take l.number l.rows))
