use Rattle.std.proofs.Common.{arith}
use Rattle.mq_flow.proofs.Tables.{both_kinds}
use Rattle.mq_flow.proofs.table.Table.released.Goals as goal

pub overflow_sub-result : goal.overflow_sub-result
overflow_sub-result c = omega (arith, both_kinds c.args.self.now.pairs)

pub returns : goal.returns
returns c = omega (arith, both_kinds c.args.self.now.pairs)
