use Rattle.mq_hub.proofs.Begins.{begins}
use Rattle.mq_hub.proofs.hub.HubOver.may_begin.Goals as goal

pub returns : goal.returns
returns g c =
    let h = c.self.inside in
    begins h.config h.clock h.next_key h.tables c.args.self.now c.self.invariant c.self.view_is c.requires
