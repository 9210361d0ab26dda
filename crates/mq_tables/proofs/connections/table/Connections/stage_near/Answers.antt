use Rattle.std.proofs.Common.{◌∙◌, List, is_some, slice_get, sym, ap}
use Rattle.mq_tables.specs.declared.connections.connection.Connection.{Connection}
use Rattle.mq_tables.proofs.ConnectionTable.{Entry, found_at, symm}
use Rattle.mq_tables.proofs.FoundConnection.{known_seen, stage_seen}
use Rattle.mq_tables.proofs.connections.table.Connections.stage_near.Goals as goal

pub returns-in-Some-clause-known : goal.returns-in-Some-clause-known
returns-in-Some-clause-known c =
    let here : Entry = (c.in-Some.name.now, c.in-Some.boxed.now) in
    let there = ap (λ (xs : List Entry). slice_get xs c.args.place) (sym c.as_slice.ensures.entries) ∙ sym c.in-Some.ensures.entry in
    let found = found_at c.args.conn c.args.place c.self.inside.by_conn.entries here c.self.invariant.distinct there (symm c.args.conn here.0 ∙ (sym c.eq.ensures ∙ c.if-eq.true)) in
    ap is_some (sym found) ∙ known_seen c.self.invariant c.self.view_is c.args.conn

pub returns-in-Some-clause-stage : goal.returns-in-Some-clause-stage
returns-in-Some-clause-stage c =
    let here : Entry = (c.in-Some.name.now, c.in-Some.boxed.now) in
    let there = ap (λ (xs : List Entry). slice_get xs c.args.place) (sym c.as_slice.ensures.entries) ∙ sym c.in-Some.ensures.entry in
    let found = found_at c.args.conn c.args.place c.self.inside.by_conn.entries here c.self.invariant.distinct there (symm c.args.conn here.0 ∙ (sym c.eq.ensures ∙ c.if-eq.true)) in
    ap (λ (x : Connection). x.stage) c.connection.ensures ∙ stage_seen c.self.invariant c.self.view_is c.args.conn (sym found)
