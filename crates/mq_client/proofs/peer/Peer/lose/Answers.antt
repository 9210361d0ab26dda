use Rattle.std.proofs.KnownBytes.{Keeps-refl}
use Rattle.mq_client.proofs.Courses.{lost}
use Rattle.mq_client.proofs.peer.Peer.lose.Goals as goal

pub returns-clause-went : goal.returns-clause-went
returns-clause-went g c = rw (← c.self.view_is) (lost _ _ _ _ _ _ _ _ _ c.dropped.ensures.end c.dropped.ensures.output c.dropped.ensures.held (Keeps-refl _) (Keeps-refl _))
