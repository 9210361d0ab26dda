use Rattle.std.proofs.Common.{◌≤◌, ℕ, true, inl, inr, refl, sym, ap, subst, ◌∙◌, length, length-set, nat_eq, set}
use Rattle.std.specs.HashMap.{get}
use Rattle.mq_loop.specs.Rounds.{WatchedState, connections_in, output_at, waiting_at}
use Rattle.mq_loop.proofs.Noting.{put_all, put_in, same_all}
use Rattle.mq_loop.proofs.Outputs.{full_within, written_within}
use Rattle.mq_loop.proofs.Watching.{connections_same, give_watched, over_within}
use Rattle.mq_loop.proofs.watched.Watched.give_next.Goals as goal

pub invariant_of-self-in-Written : goal.invariant_of-self-in-Written
invariant_of-self-in-Written g c =
    let s = c.self.inside in
    let e = c.in-Written.ensures in
    let q = c.in-Some.place in
    let new = c.give.new.self in
    record {
      watched = rw c.in-Some.ensures.some
          (give_watched c.begun_laws.ensures s.most_owed s.served new q (get nat_eq s.notes.clients) s.notes.marked s.notes.over s.notes.over
          c.self.invariant.watched c.laws.ensures e.same e.hub e.others e.exists refl (same_all s.notes.over)
          (λ there. inl (written_within s.most_owed (waiting_at q new) (output_at q new.lines) e.given)));
      counted = c.self.invariant.counted ∙ sym (connections_same s.served c.give.new.self q e.same e.others e.exists);
    }

pub invariant_of-self-then-is_lost : goal.invariant_of-self-then-is_lost
invariant_of-self-then-is_lost g c =
    let s = c.self.inside in
    let e = c.in-Full.ensures in
    let q = c.in-Some.place in
    let f = get nat_eq s.notes.clients in
    record {
      watched = rw (c.is_lost.ensures.clients, c.is_lost.ensures.marked, c.in-Some.ensures.some, c.put.ensures, c.is_lost.ensures.over)
          (give_watched c.begun_laws.ensures s.most_owed s.served c.give.new.self q f s.notes.marked s.notes.over (set s.notes.over q true)
          c.self.invariant.watched c.laws.ensures e.same e.hub e.others e.exists (length-set s.notes.over q true) (put_all s.notes.over q)
          (λ there. inr (put_in s.notes.over q (over_within s.most_owed s.served c.give.new.self q f s.notes.marked s.notes.over c.self.invariant.watched e.same there))));
      counted = c.self.invariant.counted ∙ sym (connections_same s.served c.give.new.self q e.same e.others e.exists);
    }

pub invariant_of-self-else-is_lost : goal.invariant_of-self-else-is_lost
invariant_of-self-else-is_lost g c =
    let s = c.self.inside in
    let e = c.in-Full.ensures in
    let q = c.in-Some.place in
    let new = c.give.new.self in
    let few : c.waiting-bytes.result ≤ s.most_owed = c.is_lost.ensures.within c.if-is_lost.false in
    let within : length (waiting_at q new) ≤ s.most_owed = subst (λ (n : ℕ). n ≤ s.most_owed) c.waiting-bytes.ensures few in
    record {
      watched = rw (c.is_lost.ensures.clients, c.is_lost.ensures.marked, c.in-Some.ensures.some, c.is_lost.ensures.over)
          (give_watched c.begun_laws.ensures s.most_owed s.served new q (get nat_eq s.notes.clients) s.notes.marked s.notes.over s.notes.over
          c.self.invariant.watched c.laws.ensures e.same e.hub e.others e.exists refl (same_all s.notes.over)
          (λ there. inl (full_within s.most_owed (waiting_at q new) (output_at q new.lines) e.given within)));
      counted = c.self.invariant.counted ∙ sym (connections_same s.served c.give.new.self q e.same e.others e.exists);
    }

pub invariant_of-self-in-Finished : goal.invariant_of-self-in-Finished
invariant_of-self-in-Finished g c =
    let s = c.self.inside in
    let e = c.in-Finished.ensures in
    let q = c.in-Some.place in
    let f = get nat_eq s.notes.clients in
    record {
      watched = rw (c.in-Some.ensures.some, c.put-in-Finished.ensures)
          (give_watched c.begun_laws.ensures s.most_owed s.served c.give.new.self q f s.notes.marked s.notes.over (set s.notes.over q true)
          c.self.invariant.watched c.laws.ensures e.same e.hub e.others e.exists (length-set s.notes.over q true) (put_all s.notes.over q)
          (λ there. inr (put_in s.notes.over q (over_within s.most_owed s.served c.give.new.self q f s.notes.marked s.notes.over c.self.invariant.watched e.same there))));
      counted = c.self.invariant.counted ∙ sym (connections_same s.served c.give.new.self q e.same e.others e.exists);
    }

pub returns-in-Written-clause-connections : goal.returns-in-Written-clause-connections
returns-in-Written-clause-connections g c =
    let e = c.in-Written.ensures in
    connections_same c.self.inside.served c.give.new.self c.in-Some.place e.same e.others e.exists ∙ ap (λ (v : WatchedState). connections_in v.served.lines) c.self.view_is

pub returns-then-is_lost-clause-connections : goal.returns-then-is_lost-clause-connections
returns-then-is_lost-clause-connections g c =
    let e = c.in-Full.ensures in
    connections_same c.self.inside.served c.give.new.self c.in-Some.place e.same e.others e.exists ∙ ap (λ (v : WatchedState). connections_in v.served.lines) c.self.view_is

pub returns-else-is_lost-clause-connections : goal.returns-else-is_lost-clause-connections
returns-else-is_lost-clause-connections g c =
    let e = c.in-Full.ensures in
    connections_same c.self.inside.served c.give.new.self c.in-Some.place e.same e.others e.exists ∙ ap (λ (v : WatchedState). connections_in v.served.lines) c.self.view_is

pub returns-in-Finished-clause-connections : goal.returns-in-Finished-clause-connections
returns-in-Finished-clause-connections g c =
    let e = c.in-Finished.ensures in
    connections_same c.self.inside.served c.give.new.self c.in-Some.place e.same e.others e.exists ∙ ap (λ (v : WatchedState). connections_in v.served.lines) c.self.view_is
