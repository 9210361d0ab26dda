use Rattle.std.proofs.Common.{◌≡◌, ◌∙◌, List, IfSome, ap, subst}
use Rattle.std.specs.List.{AllByRecursion}
use Rattle.mq_tables.specs.declared.sessions.session.BrokerSession.{BrokerSession}
use Rattle.mq_tables.specs.Publishing.{MayGo}
use Rattle.mq_tables.specs.Rules.{has_room}
use Rattle.mq_tables.specs.Sessions.{AreAscending, SessionTable, session_at}
use Rattle.mq_tables.proofs.sessions.table.Sessions.has_room.Goals as goal

pub returns-clause-room : goal.returns-clause-room
returns-clause-room c =
    let same = c.as_slice.ensures.value ∙ ap (λ (v : SessionTable). v.list) c.self.view_is in
    subst (λ (ts : List BrokerSession). IfSome (session_at c.args.key ts) (λ t. AllByRecursion (λ m. MayGo m t.end) c.args.messages.now
    → c.has_room_in.result ≡ has_room c.args.most_stored c.args.messages.now t.end)) same c.has_room_in.ensures

pub returns-clause-ascending : goal.returns-clause-ascending
returns-clause-ascending c = subst (λ (v : SessionTable). AreAscending v.list) c.self.view_is c.self.invariant.ascending
