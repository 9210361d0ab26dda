use Rattle.std.proofs.Common.{◌≡◌, ◌++◌, length}
use Rattle.hex.specs.Hex.{IsBytes}
use Rattle.mq_packet.specs.Lines.{hex_of}
use Rattle.mq_schedule.proofs.printed.hex_bytes.Given as goal

-- The digits are those of the bytes read, followed by the rest.
abbrev pub invariant-pairs : goal.invariant-pairs
invariant-pairs l = record {
  are : IsBytes l.bytes.items;
  passed : l.fn.digits ≡ hex_of l.bytes.items ++ l.left;
}

abbrev pub decreases-pairs : goal.decreases-pairs
decreases-pairs l = length l.left
