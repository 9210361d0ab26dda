use Rattle.std.proofs.Common.{◌∙◌, refl, ap}
use Rattle.mq_route.specs.Hub.{knows, with_connection}
use Rattle.mq_tables.proofs.ClosedConnection.{closed, known_closed}
use Rattle.mq_tables.proofs.RefusedConnect.{changed_twice, filled}
use Rattle.mq_tables.proofs.connections.table.Connections.shut_with.Goals as goal

pub swap_waiting-requires : goal.swap_waiting-requires
swap_waiting-requires c =
    let k = c.args.conn in
    record { known = ap (knows k) c.shut-stage.ensures.connections ∙ known_closed k k c.args.self.now.connections ∙ c.requires }

pub returns-clause-connections : goal.returns-clause-connections
returns-clause-connections c =
    let k = c.args.conn in
    let b = c.args.waiting in
    c.swap_waiting.ensures.connections ∙ ap (with_connection (filled b) k) c.shut-stage.ensures.connections
    ∙ changed_twice k closed (filled b) (λ x. refl) c.args.self.now.connections
