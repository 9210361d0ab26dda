use Rattle.std.proofs.Common.{◌≡◌, ◌++◌}
use Rattle.indexmap.specs.IndexMap.{values}
use Rattle.mq_route.specs.Copies.{retained_for}
use Rattle.mq_tables.proofs.retained.copies_of.Given as goal

abbrev pub invariant-loop-message : goal.invariant-loop-message
invariant-loop-message l = l.copies.items ++ retained_for l.filter l.qos l.message-iterator ≡ retained_for l.filter l.qos (values l.by_name)
