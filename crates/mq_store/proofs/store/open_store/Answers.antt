use Rattle.mq_store.proofs.store.open_store.Goals as goal

pub returns-clause-opened : goal.returns-clause-opened
returns-clause-opened g c = c.in_ok-store.ensures.opened c.args.config c.in_ok-found.ensures.found
