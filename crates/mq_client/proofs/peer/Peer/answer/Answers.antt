use Rattle.mq_client.proofs.Courses.{closes_none}
use Rattle.mq_client.proofs.peer.Peer.answer.Goals as goal

pub returns-in-None-clause-closes : goal.returns-in-None-clause-closes
returns-in-None-clause-closes g c = rw c.in-None.is (closes_none _ c.write-written.ensures.goes_on)
