use Rattle.std.proofs.Common.{◌∙◌, ℕ, List, length, sym, ap}
use Rattle.mq_tables.specs.declared.connections.connection.Connection.{Connection}
use Rattle.mq_tables.proofs.FoundConnection.{lacks_seen, waiting_seen}
use Rattle.mq_tables.proofs.PendingLengths.{unknown_waits}
use Rattle.mq_tables.proofs.connections.table.Connections.own_pending.Goals as goal

pub returns-in-Some : goal.returns-in-Some
returns-in-Some c =
    c.len.ensures ∙ ap (λ (b : List ℕ). length b) (ap (λ (x : Connection). x.waiting) c.connection.ensures ∙ waiting_seen c.self.invariant c.self.view_is c.args.conn c.in-Some.ensures.value)

pub returns-in-None : goal.returns-in-None
returns-in-None c =
    ap (λ (b : List ℕ). length b) (sym (unknown_waits c.args.conn c.args.self.now.connections (lacks_seen c.self.invariant c.self.view_is c.args.conn c.in-None.ensures.value)))
