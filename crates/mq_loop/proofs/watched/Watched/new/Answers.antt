use Rattle.std.proofs.Common.{nat_eq, refl}
use Rattle.std.specs.HashMap.{get}
use Rattle.mq_loop.proofs.Watching.{new_watched}
use Rattle.mq_loop.proofs.watched.Watched.new.Goals as goal

pub invariant_of-result : goal.invariant_of-result
invariant_of-result g c =
    record {
      watched = rw (c.new.ensures, c.new-2.ensures.marked, c.new-2.ensures.over)
          (new_watched c.args.most_owed (g.B.Broker.state c.args.broker) (g.B.Broker.committed c.args.broker) (g.B.Broker.calls c.args.broker) (g.B.Broker.notes c.args.broker) (get nat_eq c.new-2.result.clients) c.requires);
      counted = rw c.new.ensures refl;
    }
