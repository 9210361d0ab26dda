use Rattle.std.proofs.Common.{◌∙◌}
use Rattle.mq_loop.proofs.Calling.{collecting_then}
use Rattle.mq_loop.proofs.watched.Watched.give_all.Goals as goal

pub loop-preserved : goal.loop-preserved
loop-preserved g c =
    let e = c.give_next.ensures in
    let i = c.loop.invariant in
    record {
      connections = e.connections ∙ i.connections;
      committed = e.still;
      calls = collecting_then c.args.self.now.served.calls c.loop.self.served.calls c.give_next.new.self.served.calls i.calls e.calls;
      base = e.base ∙ i.base;
    }

pub returns-clause-calls : goal.returns-clause-calls
returns-clause-calls g c =
    collecting_then c.args.self.now.served.calls c.loop.self.served.calls c.give_next.new.self.served.calls c.loop.invariant.calls c.give_next.ensures.calls
