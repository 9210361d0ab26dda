use Rattle.mq_route.proofs.Accepting.{laws}
use Rattle.mq_route.proofs.laws.accept_laws.Goals as goal

pub returns : goal.returns
returns c = laws c.identifier_laws.ensures c.next_laws.ensures c.sound_laws.ensures
