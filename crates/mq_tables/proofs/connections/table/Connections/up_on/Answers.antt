use Rattle.std.proofs.Common.{◌∙◌, sym, ap}
use Rattle.mq_route.specs.Hub.{up_on}
use Rattle.mq_tables.specs.Connections.{ConnectionList}
use Rattle.mq_tables.proofs.ConnectionTable.{up_is}
use Rattle.mq_tables.proofs.connections.table.Connections.up_on.Goals as goal

pub returns : goal.returns
returns c =
    c.copied.ensures ∙ c.get.ensures.value ∙ c.self.invariant.found c.args.key ∙ sym (up_is c.args.key c.self.inside.by_conn.entries)
    ∙ ap (λ (v : ConnectionList). up_on c.args.key v.connections) c.self.view_is
