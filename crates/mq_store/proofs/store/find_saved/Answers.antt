use Rattle.mq_store.proofs.Opens.{found_saved}
use Rattle.mq_store.proofs.store.find_saved.Goals as goal

pub returns-clause-found : goal.returns-clause-found
returns-clause-found g c = found_saved _ _ _ _ _ c.in_ok-hub.ensures.restored
