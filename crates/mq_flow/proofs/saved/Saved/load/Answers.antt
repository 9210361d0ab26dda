use Rattle.std.proofs.Common.{arith}
use Rattle.mq_flow.proofs.WholeTwo.{loads_saved, loads_value}
use Rattle.mq_flow.proofs.saved.Saved.load.Goals as goal

pub returns-clause-loads : goal.returns-clause-loads
returns-clause-loads c = loads_saved c.text_laws.ensures c.read.result c.args.bytes.now (λ i. omega (arith, c.type_inv.bytes i)) c.read.ensures.reads

pub returns-clause-saved : goal.returns-clause-saved
returns-clause-saved c = loads_value c.text_laws.ensures c.read.result c.args.bytes.now c.read.ensures.reads
