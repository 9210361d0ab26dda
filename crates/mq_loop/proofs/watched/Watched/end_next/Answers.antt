use Rattle.std.proofs.Common.{◌∙◌, ap, arith, nat_eq, sym}
use Rattle.std.specs.HashMap.{get}
use Rattle.mq_loop.specs.Accounts.{ServedState}
use Rattle.mq_loop.specs.Rounds.{output_at}
use Rattle.mq_loop.proofs.Watching.{end_watched, kept_watched, vacant_watched}
use Rattle.mq_loop.proofs.watched.Watched.end_next.Goals as goal

pub invariant_of-self-in-Ok-Some : goal.invariant_of-self-in-Ok-Some
invariant_of-self-in-Ok-Some g c =
    let s = c.self.inside in
    let e = c.in-Ok-Some.ensures in
    let n = c.note.new.self in
    let noted = rw (c.as_slice.ensures, c.in-Some.ensures.some) at c.note.ensures.noted in
    let step = rw c.in-Ok-Some.field-0-is at e.step in
    let fewer = rw c.in-Ok-Some.field-0-is at e.fewer in
    record {
      watched = rw (c.leave.ensures.clients, c.leave.ensures.marked, c.leave.ensures.over)
          (end_watched c.begun_laws.ensures s.most_owed s.served c.end.new.self c.in-Some.place c.in-Ok-Some.reply (get nat_eq s.notes.clients) (get nat_eq n.clients)
          s.notes.marked s.notes.over n.marked n.over c.self.invariant.watched c.laws.ensures e.same e.others e.ended step noted);
      counted = omega (arith, c.self.invariant.counted, fewer);
    }

pub invariant_of-self-in-Ok-Some-2 : goal.invariant_of-self-in-Ok-Some-2
invariant_of-self-in-Ok-Some-2 g c =
    let s = c.self.inside in
    let e = c.in-Ok-Some.ensures in
    let n = c.note.new.self in
    let noted = rw (c.as_slice.ensures, c.in-Some.ensures.some) at c.note.ensures.noted in
    let step = rw c.in-Ok-Some.field-0-is at e.step in
    let fewer = rw c.in-Ok-Some.field-0-is at e.fewer in
    record {
      watched = rw (c.leave.ensures.clients, c.leave.ensures.marked, c.leave.ensures.over)
          (end_watched c.begun_laws.ensures s.most_owed s.served c.end.new.self c.in-Some.place c.in-Ok-Some.reply (get nat_eq s.notes.clients) (get nat_eq n.clients)
          s.notes.marked s.notes.over n.marked n.over c.self.invariant.watched c.laws.ensures e.same e.others e.ended step noted);
      counted = omega (arith, c.self.invariant.counted, fewer);
    }

pub invariant_of-self-in-Ok-None : goal.invariant_of-self-in-Ok-None
invariant_of-self-in-Ok-None g c =
    let s = c.self.inside in
    let q = c.in-Some.place in
    let same = rw c.in-Ok-None.field-0-is at c.in-Ok-None.ensures.none in
    record {
      watched = rw (same, c.in-Some.ensures.some) (vacant_watched s.most_owed s.served q (get nat_eq s.notes.clients) s.notes.marked s.notes.over c.self.invariant.watched
          (ap (λ (x : ServedState). output_at q x.lines) (sym same) ∙ c.in-Ok-None.ensures.ended));
      counted = rw same c.self.invariant.counted;
    }

pub invariant_of-self-in-Err : goal.invariant_of-self-in-Err
invariant_of-self-in-Err g c =
    let s = c.self.inside in
    record {
      watched = rw (c.in-Err.ensures.err, c.put.ensures, c.in-Some.ensures.some) (kept_watched s.most_owed s.served c.in-Some.place (get nat_eq s.notes.clients) s.notes.marked s.notes.over c.self.invariant.watched);
      counted = rw c.in-Err.ensures.err c.self.invariant.counted;
    }
