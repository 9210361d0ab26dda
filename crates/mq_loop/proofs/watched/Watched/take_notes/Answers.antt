use Rattle.std.proofs.Common.{◌∙◌, List, Option, ap, nat_eq, sym}
use Rattle.std.specs.HashMap.{get}
use Rattle.mq_loop.specs.Accounts.{Line, ServedState}
use Rattle.mq_loop.specs.Rounds.{connections_in}
use Rattle.mq_loop.proofs.Watching.{commit_watched}
use Rattle.mq_loop.proofs.watched.Watched.take_notes.Goals as goal

pub invariant_of-self : goal.invariant_of-self
invariant_of-self g c =
    let s = c.self.inside in
    let e = c.take_notes.ensures in
    let lines = ap (λ (s : ServedState). s.lines) e.left in
    record {
      watched = commit_watched s.most_owed s.served c.take_notes.new.self (get nat_eq s.notes.clients) s.notes.marked s.notes.over c.self.invariant.watched
          (ap (λ (s : ServedState). s.base) e.left) (ap (λ (s : ServedState). s.hub) e.left) lines;
      counted = c.self.invariant.counted ∙ sym (ap (λ (l : List (Option Line)). connections_in l) lines);
    }
