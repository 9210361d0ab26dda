use Rattle.mq_serve.proofs.server.Server.open.Goals as goal

pub returns-clause-numbers : goal.returns-clause-numbers
returns-clause-numbers g c = rw (c.in_ok-starts.ensures) c.in_ok-shared.ensures.numbers

pub returns-clause-fresh : goal.returns-clause-fresh
returns-clause-fresh g c = rw (c.in_ok-starts.ensures) c.in_ok-shared.ensures.fresh
