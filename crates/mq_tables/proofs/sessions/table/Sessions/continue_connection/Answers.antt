use Rattle.std.proofs.Common.{◌∙◌, List, ap}
use Rattle.std.specs.Option.{is_some}
use Rattle.mq_tables.specs.declared.sessions.session.BrokerSession.{BrokerSession}
use Rattle.mq_tables.specs.Sessions.{session_at}
use Rattle.mq_tables.proofs.ConnectedSession.{swapped}
use Rattle.mq_tables.proofs.LoadedConnections.{down_end, has_continued}
use Rattle.mq_tables.proofs.OtherEnd.{stands_served}
use Rattle.mq_tables.proofs.sessions.table.Sessions.continue_connection.Goals as goal

pub continue_connection-requires : goal.continue_connection-requires
continue_connection-requires c =
    down_end c.args.key c.args.self.now.list c.swap_end.new.end c.requires.there c.swap_end.ensures.end c.requires.down

pub swap_end-requires-2 : goal.swap_end-requires-2
swap_end-requires-2 c =
    ap (λ (ts : List BrokerSession). is_some (session_at c.args.key ts)) c.swap_end.ensures.list
    ∙ stands_served c.args.key c.args.blank c.args.key c.args.self.now.list ∙ c.requires.there

pub returns-clause-list : goal.returns-clause-list
returns-clause-list c =
    let ts = c.args.self.now.list in
    let vs = c.swap_end-2.new.self.list in
    let taken = c.swap_end.new.end in
    let back = c.continue_connection.new.self in
    has_continued c.args.terms.now c.args.last_activity c.args.key taken back ts vs
    (swapped c.args.key ts c.swap_end.new.self.list vs c.args.blank taken back c.swap_end.ensures.list c.requires.there c.swap_end.ensures.end c.swap_end-2.ensures.list)
    c.continue_connection.ensures
