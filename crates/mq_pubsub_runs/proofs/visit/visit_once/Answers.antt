use Rattle.mq_pubsub_runs.proofs.visit.visit_once.Goals as goal

pub returns-in-Ok-true : goal.returns-in-Ok-true
returns-in-Ok-true g c = (c.new-peer.result, c.visit-visited.new.peer, c.new-peer.ensures.client, c.in-Ok-true.ensures c.in-Ok-true.field-0-test)
