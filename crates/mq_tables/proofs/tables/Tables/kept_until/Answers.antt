use Rattle.std.proofs.Common.{ℕ, List, Option, Some, sym, subst}
use Rattle.mq_tables.specs.declared.sessions.session.BrokerSession.{BrokerSession}
use Rattle.mq_tables.specs.Expiry.{AreKept}
use Rattle.mq_tables.specs.Tables.{HubTables}
use Rattle.mq_tables.proofs.ExpiredSessions.{no_limit}
use Rattle.mq_tables.proofs.tables.Tables.kept_until.Goals as goal

pub returns-in-Some : goal.returns-in-Some
returns-in-Some g c = λ now soon.
    let t = c.args.self.now in
    let most = c.in-Some.expiry in
    subst (λ (limit : Option ℕ). AreKept limit now t.connections.connections t.sessions.list) (sym c.in-Some.is)
    (subst (λ (v : HubTables). AreKept (Some most) now v.connections.connections v.sessions.list) c.self.view_is
    (subst (λ (ts : List BrokerSession). AreKept (Some most) now c.self.inside.connections.connections ts) c.as_slice.ensures (c.kept_until.ensures now soon)))

pub returns-in-None : goal.returns-in-None
returns-in-None g c = λ now soon.
    let t = c.args.self.now in
    subst (λ (limit : Option ℕ). AreKept limit now t.connections.connections t.sessions.list) (sym c.in-None.is)
    (no_limit now t.connections.connections t.sessions.list)
