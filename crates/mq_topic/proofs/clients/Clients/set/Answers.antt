use Rattle.std.proofs.Common.{sym}
use Rattle.mq_topic.proofs.Nodes.{is_client-other}
use Rattle.mq_topic.proofs.clients.Clients.set.Goals as goal

pub returns-in_ok-insert-in-Several-clause-set : goal.returns-in_ok-insert-in-Several-clause-set
returns-in_ok-insert-in-Several-clause-set c =
    let h = c.in_ok-insert-in-Several.ensures.updates in
    rw c.in-Several.is (record { same = h.1; others = λ d ne. h.2 d (is_client-other c.args.client d (λ e. ne (sym e))) })
