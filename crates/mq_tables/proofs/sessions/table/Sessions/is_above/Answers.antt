use Rattle.std.proofs.Common.{◌≡◌, ◌<◌, ◌-◌, Some, length, slice_get, rules}
use Rattle.mq_tables.specs.declared.sessions.session.BrokerSession.{BrokerSession}
use Rattle.mq_tables.proofs.LoadedParts.{below_above}
use Rattle.mq_tables.proofs.sessions.table.Sessions.is_above.Goals as goal

pub returns-in-Some : goal.returns-in-Some
returns-in-Some c = λ less.
    let ts = c.args.self.now.list in
    let t : BrokerSession = c.in-Some.last.now in
    let at : slice_get ts (length ts - 1) ≡ Some t = search rules in
    let below : t.key < c.args.key = search rules in
    below_above c.args.key ts t c.requires at below
