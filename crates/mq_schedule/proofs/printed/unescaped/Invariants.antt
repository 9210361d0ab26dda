use Rattle.std.proofs.Common.{◌≡◌, ◌++◌, length}
use Rattle.hex.specs.Hex.{IsBytes}
use Rattle.mq_packet.specs.Lines.{escaped}
use Rattle.mq_schedule.proofs.printed.unescaped.Given as goal

-- The printed form is the text read, followed by the rest.
abbrev pub invariant-bytes : goal.invariant-bytes
invariant-bytes l = record {
  are : IsBytes l.text.items;
  passed : l.fn.printed ≡ escaped l.text.items ++ l.left;
}

abbrev pub decreases-bytes : goal.decreases-bytes
decreases-bytes l = length l.left
