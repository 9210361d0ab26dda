use Rattle.std.proofs.Common.{subst}
use Rattle.mq_topic.specs.Rows.{IsAscending}
use Rattle.mq_topic.proofs.ClientMaps.{ascending}
use Rattle.mq_topic.proofs.client_rows.ClientRows.list.Goals as goal

pub returns-in_err-list-clause-ascending : goal.returns-in_err-list-clause-ascending
returns-in_err-list-clause-ascending c = subst IsAscending c.self.view_is (ascending c.self.inside.clients.entries c.self.invariant)

pub returns-in_err-list_own-clause-ascending : goal.returns-in_err-list_own-clause-ascending
returns-in_err-list_own-clause-ascending c = subst IsAscending c.self.view_is (ascending c.self.inside.clients.entries c.self.invariant)

pub returns-clause-ascending : goal.returns-clause-ascending
returns-clause-ascending c = subst IsAscending c.self.view_is (ascending c.self.inside.clients.entries c.self.invariant)
