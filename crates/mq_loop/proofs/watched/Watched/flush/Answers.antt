use Rattle.std.proofs.Common.{◌∙◌, nat_eq, sym}
use Rattle.std.specs.HashMap.{get}
use Rattle.mq_loop.specs.Rounds.{IsFlushed, output_at}
use Rattle.mq_loop.proofs.Outputs.{at_exists}
use Rattle.mq_loop.proofs.Watching.{blocked_watched, connections_same, marked_watched, over_watched}
use Rattle.mq_loop.proofs.watched.Watched.flush.Goals as goal

pub invariant_of-self : goal.invariant_of-self
invariant_of-self g c =
    let s = c.self.inside in
    let e = c.flush.ensures in
    let q = c.args.place in
    let new = c.flush.new.self in
    let here = at_exists (output_at q s.served.lines) (output_at q new.lines) (IsFlushed c.flush.result) e.here in
    record {
      watched = rw c.put.ensures (marked_watched s.most_owed s.served new q (get nat_eq s.notes.clients) s.notes.marked s.notes.over c.self.invariant.watched e.hub e.same e.others here);
      counted = c.self.invariant.counted ∙ sym (connections_same s.served new q e.same e.others here);
    }

pub invariant_of-self-in-Blocked : goal.invariant_of-self-in-Blocked
invariant_of-self-in-Blocked g c =
    let s = c.self.inside in
    let e = c.flush.ensures in
    let q = c.args.place in
    let new = c.flush.new.self in
    let here = at_exists (output_at q s.served.lines) (output_at q new.lines) (IsFlushed c.flush.result) e.here in
    record {
      watched = blocked_watched s.most_owed s.served new q (get nat_eq s.notes.clients) s.notes.marked s.notes.over c.self.invariant.watched e.hub e.same e.others here (rw c.in-Blocked.is at e.here);
      counted = c.self.invariant.counted ∙ sym (connections_same s.served new q e.same e.others here);
    }

pub invariant_of-self-in-Failed : goal.invariant_of-self-in-Failed
invariant_of-self-in-Failed g c =
    let s = c.self.inside in
    let e = c.flush.ensures in
    let q = c.args.place in
    let new = c.flush.new.self in
    let here = at_exists (output_at q s.served.lines) (output_at q new.lines) (IsFlushed c.flush.result) e.here in
    record {
      watched = rw c.put-in-Failed.ensures (over_watched s.most_owed s.served new q (get nat_eq s.notes.clients) s.notes.marked s.notes.over c.self.invariant.watched e.hub e.same e.others here);
      counted = c.self.invariant.counted ∙ sym (connections_same s.served new q e.same e.others here);
    }
