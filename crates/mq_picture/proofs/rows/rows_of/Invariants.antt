use Rattle.mq_picture.specs.Inside.Lanes.{IsChart}
use Rattle.mq_picture.proofs.rows.rows_of.Given as goal

abbrev pub invariant-loop-entry : goal.invariant-loop-entry
invariant-loop-entry l = IsChart l.yielded l.chart
