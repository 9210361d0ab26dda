use Rattle.std.proofs.Common.{◌≡◌, ◌+◌, ◌-◌, ◌^◌, ◌≤◌, length}
use Rattle.std.specs.Prelude.{min}
use Rattle.mq_topic.specs.ClientRows.{rows_of}
use Rattle.mq_topic.proofs.client_rows.ClientRows.len.Given as goal

abbrev pub invariant-loop-own : goal.invariant-loop-own
invariant-loop-own l =
    (min (l.count + length (rows_of l.own-iterator)) (2 ^ 64 - 1) ≡ min (length l.self) (2 ^ 64 - 1))
    × (l.count ≤ 2 ^ 64 - 1)
