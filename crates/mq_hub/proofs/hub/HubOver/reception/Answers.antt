use Rattle.std.proofs.Common.{subst}
use Rattle.mq_route.specs.Hub.{HubState, end_of}
use Rattle.mq_hub.specs.Inside.Reception.{IsReceived}
use Rattle.mq_hub.proofs.GrantedRows.{on_seen}
use Rattle.mq_hub.proofs.PublishClass.{can_receive}
use Rattle.mq_hub.proofs.hub.HubOver.reception.Goals as goal

pub class_of-requires : goal.class_of-requires
class_of-requires g c =
    let h = c.self.inside in
    let on = on_seen h.config h.clock h.next_key h.tables c.args.self.now c.args.key c.self.view_is c.requires in
    can_receive h.config h.next_key h.tables c.self.invariant c.args.key on.conn on.is

pub returns : goal.returns
returns g c =
    subst (λ (s : HubState). IsReceived c.class_of.result c.args.publish.now (end_of c.args.key s.sessions)) c.self.view_is c.class_of.ensures
