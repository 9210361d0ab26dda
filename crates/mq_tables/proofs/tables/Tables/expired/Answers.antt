use Rattle.std.proofs.Common.{◌∙◌, not, sym, ap}
use Rattle.mq_tables.proofs.ExpiredSessions.{never_gone}
use Rattle.mq_tables.proofs.tables.Tables.expired.Goals as goal

pub returns-then-is_none : goal.returns-then-is_none
returns-then-is_none g c =
    let t = c.args.self.now in
    c.new.ensures.items ∙ sym (never_gone c.args.expiry c.args.now t.connections.connections t.sessions.list (c.is_none.ensures ∙ ap not c.if-is_none.true))
