use Rattle.mq_flow.proofs.Tables.{given_in_order}
use Rattle.mq_flow.proofs.table.Table.releases.Goals as goal

pub returns-clause-runs : goal.returns-clause-runs
returns-clause-runs c = given_in_order
