use Rattle.mq_loop.proofs.CarriedBytes.{tick_served}
use Rattle.mq_loop.proofs.served.Served.tick.Goals as goal

pub invariant_of-self : goal.invariant_of-self
invariant_of-self g c =
    let s = c.self.inside in
    tick_served (g.B.Broker.state s.base.value) (g.B.Broker.state s.broker) (g.B.Broker.state c.step.new.self) s.connections.items c.args.now c.step.result c.self.invariant c.step.ensures.step c.step.ensures.err
