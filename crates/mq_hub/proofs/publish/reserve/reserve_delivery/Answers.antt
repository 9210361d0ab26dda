use Rattle.std.proofs.Common.{subst}
use Rattle.mq_tables.specs.Publishing.{AreStillReady}
use Rattle.mq_tables.specs.Tables.{HubTables}
use Rattle.mq_hub.proofs.publish.reserve.reserve_delivery.Goals as goal

pub returns-clause-still : goal.returns-clause-still
returns-clause-still g c =
    subst (λ (v : HubTables). AreStillReady v.sessions.list c.make_room.new.sessions.list) c.tables.view_is c.make_room.ensures.still
