use Rattle.std.proofs.Common.{◌≡◌, ◌-◌, ◌≤◌, ◌++◌, length, map, drop}
use Rattle.mq_log.specs.Blocks.{entries, rest}
use Rattle.mq_log.proofs.reader.read_journal.Given as goal

abbrev pub invariant-loop-entry : goal.invariant-loop-entry
invariant-loop-entry l = record {
  read : map (λ v. v.items) l.entries.items ++ entries l.left ≡ entries l.bytes;
  same_rest : rest l.left ≡ rest l.bytes;
  suffix : drop (length l.bytes - length l.left) l.bytes ≡ l.left;
  within : length l.left ≤ length l.bytes;
}

abbrev pub decreases-loop-entry : goal.decreases-loop-entry
decreases-loop-entry l = length l.left
