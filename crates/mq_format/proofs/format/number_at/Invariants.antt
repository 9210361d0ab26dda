use Rattle.std.proofs.Common.{◌≡◌, ◌≤◌, length}
use Rattle.mq_format.specs.Reading.{number_at}
use Rattle.mq_format.proofs.format.number_at.Given as goal

abbrev pub invariant-loop-rest : goal.invariant-loop-rest
invariant-loop-rest l = record {
  same : number_at 0 l.text ≡ number_at l.number l.rest;
  small : l.number ≤ 65535;
  shorter : length l.rest ≤ length l.text;
}

abbrev pub decreases-loop-rest : goal.decreases-loop-rest
decreases-loop-rest l = length l.rest
