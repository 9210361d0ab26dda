use Rattle.std.proofs.Common.{◌∙◌, List, Option, ap, nat_eq, sym}
use Rattle.std.specs.HashMap.{get}
use Rattle.mq_loop.specs.Accounts.{Line}
use Rattle.mq_loop.specs.Rounds.{connections_in}
use Rattle.mq_loop.proofs.Watching.{tick_watched}
use Rattle.mq_loop.proofs.watched.Watched.tick.Goals as goal

pub invariant_of-self-2 : goal.invariant_of-self-2
invariant_of-self-2 g c =
    let s = c.self.inside in
    let e = c.in-Ok.ensures in
    let n = c.note.new.self in
    let noted = rw c.as_slice.ensures at c.note.ensures.noted in
    record {
      watched = tick_watched c.begun_laws.ensures s.most_owed s.served c.tick.new.self c.args.now c.in-Ok.reply (get nat_eq s.notes.clients) (get nat_eq n.clients)
          s.notes.marked s.notes.over n.marked n.over c.self.invariant.watched c.laws.ensures e.base e.lines e.step noted;
      counted = c.self.invariant.counted ∙ sym (ap (λ (l : List (Option Line)). connections_in l) e.lines);
    }
