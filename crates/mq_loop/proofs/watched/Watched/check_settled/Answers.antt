use Rattle.std.proofs.Common.{nat_eq, subst}
use Rattle.std.specs.HashMap.{get}
use Rattle.mq_loop.specs.Rounds.{AreBounded, IsEmpty, WatchedState}
use Rattle.mq_loop.specs.Inside.Rounds.{AreEnded}
use Rattle.mq_loop.proofs.Watching.{bounded_is}
use Rattle.mq_loop.proofs.watched.Watched.check_settled.Goals as goal

pub returns-clause-bounded : goal.returns-clause-bounded
returns-clause-bounded g c =
    let s = c.self.inside in
    subst (λ (v : WatchedState). IsEmpty v.marked → AreEnded v → AreBounded v) c.self.view_is
    (bounded_is s.most_owed s.served (get nat_eq s.notes.clients) s.notes.marked s.notes.over s.notes.has_failed c.self.invariant.watched)
