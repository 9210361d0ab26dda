use Rattle.std.proofs.Common.{◌∙◌, ◌+◌, ℕ, List, Option, ap, sym, false, [], nat_eq, arith}
use Rattle.std.specs.HashMap.{get}
use Rattle.mq_loop.specs.Accounts.{Line}
use Rattle.mq_loop.specs.Rounds.{connections_in}
use Rattle.mq_loop.proofs.Counts.{one_more_line, place_left}
use Rattle.mq_loop.proofs.Watching.{open_watched}
use Rattle.mq_loop.proofs.watched.Watched.open.Goals as goal

pub invariant_of-self : goal.invariant_of-self
invariant_of-self g c =
    let s = c.self.inside in
    let e = c.in-Ok.ensures in
    let n = c.note.new.self in
    let noted = rw c.as_slice.ensures at c.note.ensures.noted in
    let line : Line = record {
      came = g.S.Socket.came c.args.socket;
      went = g.S.Socket.went c.args.socket;
      unread = [];
      kept = [];
      broken = false;
      full = g.S.Socket.full c.args.socket;
      finished = false;
    } in
    record {
      watched = rw (c.sit.ensures.clients, c.put.ensures, c.sit.ensures.marked, c.sit.ensures.over)
          (open_watched c.begun_laws.ensures s.most_owed s.served c.open.new.self c.args.place line c.in-Ok.reply (get nat_eq s.notes.clients) (get nat_eq n.clients)
          s.notes.marked s.notes.over n.marked n.over c.self.invariant.watched c.laws.ensures e.same e.line e.step noted);
      counted = c.one_more-self-inside.ensures ∙ ap (λ (n : ℕ). n + 1) c.self.invariant.counted ∙ sym (ap (λ (l : List (Option Line)). connections_in l) e.line ∙ one_more_line s.served.lines c.args.place line e.within e.vacant);
    }

pub one_more-self-inside-requires : goal.one_more-self-inside-requires
one_more-self-inside-requires g c =
    let s = c.self.inside in
    let e = c.in-Ok.ensures in
    let line : Line = record {
      came = g.S.Socket.came c.args.socket;
      went = g.S.Socket.went c.args.socket;
      unread = [];
      kept = [];
      broken = false;
      full = g.S.Socket.full c.args.socket;
      finished = false;
    } in
    let left = place_left s.served.lines c.args.place line e.within e.vacant in
    omega (arith, left, c.self.invariant.counted, c.places-places.ensures)
