use Rattle.std.specs.Io.KnownBytes.{Keeps}
use Rattle.std.proofs.Common.{◌≡◌}
use Rattle.mq_cli.proofs.front.read_some.Given as goal

abbrev pub invariant-loop : goal.invariant-loop
invariant-loop g l = record {
  keeps : Keeps (g.R.JobInput.remaining l.fn.reader) (g.R.JobInput.remaining l.reader);
  stays : g.R.JobInput.may_fail l.reader ≡ g.R.JobInput.may_fail l.fn.reader;
}
