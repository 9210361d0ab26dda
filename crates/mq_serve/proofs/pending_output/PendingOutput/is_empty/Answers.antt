use Rattle.mq_serve.proofs.Pendings.{empty_if}
use Rattle.mq_serve.proofs.pending_output.PendingOutput.is_empty.Goals as goal

pub returns : goal.returns
returns c = rw (c.is_empty.ensures, ← c.self.view_is) (empty_if c.self.inside.front.items c.self.inside.later.items c.self.invariant)
