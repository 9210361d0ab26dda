use Rattle.std.proofs.Common.{◌∙◌, nat_eq, sym}
use Rattle.std.specs.HashMap.{get}
use Rattle.mq_loop.proofs.Watching.{connections_same, over_watched, read_watched, stays_watched}
use Rattle.mq_loop.proofs.watched.Watched.read.Goals as goal

pub invariant_of-self : goal.invariant_of-self
invariant_of-self g c =
    let s = c.self.inside in
    let e = c.read-heard.ensures in
    let n = c.note.new.self in
    let noted = rw c.as_slice.ensures at c.note.ensures.noted in
    let step = rw c.in-Step.is at e.step in
    record {
      watched = rw c.put.ensures (read_watched c.begun_laws.ensures s.most_owed s.served c.read-heard.new.self c.args.place step.0 c.in-Step.reply (get nat_eq s.notes.clients) (get nat_eq n.clients)
          s.notes.marked s.notes.over n.marked n.over c.self.invariant.watched c.laws.ensures e.same e.others e.exists step.1 noted);
      counted = c.self.invariant.counted ∙ sym (connections_same s.served c.read-heard.new.self c.args.place e.same e.others e.exists);
    }

pub invariant_of-self-in-Nothing : goal.invariant_of-self-in-Nothing
invariant_of-self-in-Nothing g c =
    let s = c.self.inside in
    let e = c.read-heard.ensures in
    record {
      watched = stays_watched s.most_owed s.served c.read-heard.new.self c.args.place (get nat_eq s.notes.clients) s.notes.marked s.notes.over c.self.invariant.watched (rw c.in-Nothing.is at e.step) e.same
          (rw c.in-Nothing.is at e.nothing);
      counted = c.self.invariant.counted ∙ sym (connections_same s.served c.read-heard.new.self c.args.place e.same e.others e.exists);
    }

pub invariant_of-self-in-Over : goal.invariant_of-self-in-Over
invariant_of-self-in-Over g c =
    let s = c.self.inside in
    let e = c.read-heard.ensures in
    record {
      watched = rw c.put-in-Over.ensures (over_watched s.most_owed s.served c.read-heard.new.self c.args.place (get nat_eq s.notes.clients) s.notes.marked s.notes.over c.self.invariant.watched (rw c.in-Over.is at e.step) e.same
          e.others e.exists);
      counted = c.self.invariant.counted ∙ sym (connections_same s.served c.read-heard.new.self c.args.place e.same e.others e.exists);
    }
