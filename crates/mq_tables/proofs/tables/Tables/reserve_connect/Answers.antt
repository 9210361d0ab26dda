use Rattle.std.proofs.Common.{subst}
use Rattle.mq_tables.specs.Publishing.{AreStillReady}
use Rattle.mq_tables.specs.Tables.{HubTables}
use Rattle.mq_tables.proofs.tables.Tables.reserve_connect.Goals as goal

pub returns-clause-still : goal.returns-clause-still
returns-clause-still g c =
    subst (λ (v : HubTables). AreStillReady v.sessions.list c.reserve_connect.new.self.list) c.self.view_is c.reserve_connect.ensures.still
