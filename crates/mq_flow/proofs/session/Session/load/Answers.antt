use Rattle.std.proofs.Common.{arith}
use Rattle.mq_flow.proofs.Whole.{loads_saved, loads_session}
use Rattle.mq_flow.proofs.session.Session.load.Goals as goal

pub returns-clause-loads : goal.returns-clause-loads
returns-clause-loads c = loads_saved c.read.result c.args.bytes.now (λ i. omega (arith, c.type_inv.bytes i)) c.read.ensures.reads

pub returns-clause-session : goal.returns-clause-session
returns-clause-session c = loads_session c.read.result c.args.bytes.now c.read.ensures.reads
