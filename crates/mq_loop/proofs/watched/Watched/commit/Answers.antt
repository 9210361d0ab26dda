use Rattle.std.proofs.Common.{◌∙◌, List, Option, ap, nat_eq, sym}
use Rattle.std.specs.HashMap.{get}
use Rattle.mq_loop.specs.Accounts.{Line}
use Rattle.mq_loop.specs.Rounds.{connections_in}
use Rattle.mq_loop.proofs.Watching.{commit_watched}
use Rattle.mq_loop.proofs.watched.Watched.commit.Goals as goal

pub invariant_of-self : goal.invariant_of-self
invariant_of-self g c =
    let s = c.self.inside in
    let e = c.commit.ensures in
    record {
      watched = commit_watched s.most_owed s.served c.commit.new.self (get nat_eq s.notes.clients) s.notes.marked s.notes.over c.self.invariant.watched e.base e.hub e.lines;
      counted = c.self.invariant.counted ∙ sym (ap (λ (l : List (Option Line)). connections_in l) e.lines);
    }
