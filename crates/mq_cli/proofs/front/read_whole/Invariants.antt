use Rattle.std.proofs.Common.{◌≡◌}
use Rattle.std.specs.Io.KnownBytes.{Consumes}
use Rattle.mq_cli.proofs.front.read_whole.Given as goal

abbrev pub invariant-loop : goal.invariant-loop
invariant-loop g l = record {
  taken : Consumes (g.R.JobInput.remaining l.fn.input) (g.R.JobInput.remaining l.input) l.bytes;
  stays : g.R.JobInput.may_fail l.input ≡ g.R.JobInput.may_fail l.fn.input;
}
