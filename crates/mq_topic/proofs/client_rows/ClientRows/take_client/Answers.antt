use Rattle.std.proofs.Common.{◌≡◌, subst}
use Rattle.mq_topic.specs.ClientRows.{rows_of}
use Rattle.mq_topic.specs.Rows.{without_client}
use Rattle.mq_topic.proofs.ClientMaps.{clients_ascend, drop_rows, filters_removed, own_given}
use Rattle.mq_topic.proofs.Nodes.{is_client}
use Rattle.mq_topic.proofs.client_rows.ClientRows.take_client.Goals as goal

pub invariant_of-self : goal.invariant_of-self
invariant_of-self c = record {
  clients = clients_ascend c.remove.new.self.entries c.remove.ensures.ordered;
  filters = rw c.remove.ensures.entries (filters_removed (is_client c.args.client) c.self.inside.clients.entries c.self.invariant.filters);
}

pub returns-clause-rest : goal.returns-clause-rest
returns-clause-rest c =
    let old = c.self.inside.clients.entries in
    let new = c.remove.new.self.entries in
    subst (λ rows. rows_of new ≡ without_client c.args.client rows) c.self.view_is
    (drop_rows c.args.client old new c.self.invariant
    (record {
      clients = clients_ascend new c.remove.ensures.ordered;
      filters = rw c.remove.ensures.entries (filters_removed (is_client c.args.client) old c.self.invariant.filters);
    })
    (λ d. c.remove.ensures.updates.0 d))

pub returns-clause-own : goal.returns-clause-own
returns-clause-own c = own_given c.args.client c.self.inside.clients.entries c.args.self.now c.remove.result c.self.invariant c.self.view_is c.remove.ensures.value
