use Rattle.std.proofs.Common.{◌≡◌, ◌≤◌, ◌+◌, take, drop}
use Rattle.std.specs.List.{All}
use Rattle.mq_pubsub_options.specs.Seconds.{IsDigit, fraction}
use Rattle.mq_pubsub_options.proofs.seconds.fraction_of.Given as goal

-- what the digits so far count
abbrev pub invariant-loop-byte : goal.invariant-loop-byte
invariant-loop-byte l = record {
  value : l.total + fraction l.unit (drop l.byte-index l.byte-items) ≡ fraction 1000 l.byte-items;
  bound : l.total + l.unit ≤ 1000;
  all_digits : All IsDigit (take l.byte-index l.byte-items);
}
