use Rattle.mq_store.proofs.Opens.{opened}
use Rattle.mq_store.proofs.store.begin_store.Goals as goal

pub returns-in-Ok-clause-opened : goal.returns-in-Ok-clause-opened
returns-in-Ok-clause-opened g c =
    λ config found.
    opened config c.args.found.hub c.new.result c.in-Ok.journal.disk c.args.found.events c.clock-clock.result c.new.ensures c.in-Ok.ensures.begun
    c.may_begin.ensures c.clock-clock.ensures found
