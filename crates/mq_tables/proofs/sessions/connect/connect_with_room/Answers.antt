use Rattle.std.proofs.Common.{◌∙◌, ap}
use Rattle.mq_tables.specs.Connecting.{connected_end}
use Rattle.mq_tables.proofs.FirstPackets.{err_any}
use Rattle.mq_tables.proofs.sessions.connect.connect_with_room.Goals as goal

pub returns-clause-ok : goal.returns-clause-ok
returns-clause-ok c = (c.reserve_connect.new.self.room, c.connect_end.ensures ∙ ap (connected_end c.args.connect c.args.now) c.reserve_connect.ensures.same)

pub returns-in_err-reserve_connect-clause-err : goal.returns-in_err-reserve_connect-clause-err
returns-in_err-reserve_connect-clause-err c =
    err_any c.from_residual.result (c.reserve_connect.new.self.room, c.reserve_connect.ensures.same)
