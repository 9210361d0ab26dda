use Rattle.std.proofs.Common.{[], ◌∷◌}
use Rattle.mq_route.specs.Copies.{will_message}
use Rattle.mq_hub.proofs.RoomToConnect.{leaves_same}
use Rattle.mq_hub.proofs.will.last_will.deliver_will.Goals as goal

pub returns-in_err-message-clause-connect_end : goal.returns-in_err-message-clause-connect_end
returns-in_err-message-clause-connect_end g c = leaves_same (will_message c.args.will.now ∷ []) c.args.tables.now
