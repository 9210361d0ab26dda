use Rattle.std.proofs.Common.{◌≡◌, nat_eq, take}
use Rattle.std.specs.HashMap.{get}
use Rattle.mq_loop.specs.Rounds.{IsNoted}
use Rattle.mq_loop.proofs.notes.Notes.note.Given as goal

abbrev pub invariant-loop-act : goal.invariant-loop-act
invariant-loop-act l = record {
  failed : l.self.has_failed ≡ l.initial.self.has_failed;
  noted : IsNoted (take l.act-index l.acts) (get nat_eq l.initial.self.clients) l.initial.self.marked l.initial.self.over (get nat_eq l.self.clients) l.self.marked l.self.over;
}
