use Rattle.mq_topic.proofs.Inside.{no_clients}
use Rattle.mq_topic.proofs.clients.Clients.is_empty.Goals as goal

pub returns-in-Several : goal.returns-in-Several
returns-in-Several c = rw c.in-Several.is (no_clients c.in-Several.clients.entries c.is_empty.result c.is_empty.ensures)
