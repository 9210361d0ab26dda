use Rattle.std.proofs.Common.{◌∙◌, List, ap}
use Rattle.std.specs.Option.{is_some}
use Rattle.mq_tables.specs.declared.sessions.session.BrokerSession.{BrokerSession}
use Rattle.mq_tables.specs.Sessions.{session_at}
use Rattle.mq_tables.proofs.FirstPackets.{err_by, ok_by}
use Rattle.mq_tables.proofs.ConnectedSession.{is_greeted, is_roomed, swapped}
use Rattle.mq_tables.proofs.OtherEnd.{stands_served}
use Rattle.mq_tables.proofs.sessions.table.Sessions.resume_session.Goals as goal

pub swap_end-requires-2 : goal.swap_end-requires-2
swap_end-requires-2 c =
    ap (λ (ts : List BrokerSession). is_some (session_at c.args.key ts)) c.swap_end.ensures.list
    ∙ stands_served c.args.key c.args.blank c.args.key c.args.self.now.list ∙ c.requires

pub returns-clause-ok : goal.returns-clause-ok
returns-clause-ok c =
    let ts = c.args.self.now.list in
    let vs = c.swap_end-2.new.self.list in
    let taken = c.swap_end.new.end in
    let back = c.connect_with_room-answer.new.end in
    ok_by c.connect_with_room-answer.result
    (is_greeted c.args.connect c.args.now c.args.key taken back ts vs
    (swapped c.args.key ts c.swap_end.new.self.list vs c.args.blank taken back c.swap_end.ensures.list c.requires c.swap_end.ensures.end c.swap_end-2.ensures.list))
    c.connect_with_room-answer.ensures.ok

pub returns-clause-err : goal.returns-clause-err
returns-clause-err c =
    let ts = c.args.self.now.list in
    let vs = c.swap_end-2.new.self.list in
    let taken = c.swap_end.new.end in
    let back = c.connect_with_room-answer.new.end in
    err_by c.connect_with_room-answer.result
    (is_roomed c.args.key taken back ts vs
    (swapped c.args.key ts c.swap_end.new.self.list vs c.args.blank taken back c.swap_end.ensures.list c.requires c.swap_end.ensures.end c.swap_end-2.ensures.list))
    c.connect_with_room-answer.ensures.err
