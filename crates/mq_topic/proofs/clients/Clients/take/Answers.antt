use Rattle.std.proofs.Common.{sym}
use Rattle.mq_topic.proofs.Nodes.{is_client-other}
use Rattle.mq_topic.proofs.clients.Clients.take.Goals as goal

pub returns-in-Several : goal.returns-in-Several
returns-in-Several c =
    let h = c.remove.ensures.updates in
    rw c.in-Several.is (record { same = h.1; others = λ d ne. h.2 d (is_client-other c.args.client d (λ e. ne (sym e))) })
