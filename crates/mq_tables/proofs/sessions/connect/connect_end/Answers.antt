use Rattle.std.proofs.Common.{◌≡◌, [], true, refl, ap}
use Rattle.mq_end.specs.End.{End, is_live}
use Rattle.mq_tables.proofs.EndPublishes.{in_ok}
use Rattle.mq_tables.proofs.ConnectedSession.{risen_is}
use Rattle.mq_tables.proofs.sessions.connect.connect_end.Goals as goal

pub returns : goal.returns
returns c =
    let says = c.opened.ensures in
    let live : is_live c.opened.new.self.end.state ≡ true = ap (λ (e : End). is_live e.state) says.end in
    let ready = c.take_packet.ensures.connects c.args.connect refl says.waits [] 0 (says.connect_end c.args.connect [] 0 c.requires) in
    let a = in_ok c.take_packet.result ready.0 (c.take_packet.ensures.open live) in
    risen_is c.encoding_laws.ensures c.args.connect c.args.now a.0 c.args.end.now c.opened.new.self c.take_packet.new.self says.end says.output says.held says.limit says.capacity says.last_activity
    says.room a.1
