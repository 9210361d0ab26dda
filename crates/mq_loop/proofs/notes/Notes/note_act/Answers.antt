use Rattle.std.proofs.Common.{nat_eq, refl}
use Rattle.std.specs.HashMap.{get}
use Rattle.mq_loop.proofs.Noting.{other_noted, removed_noted}
use Rattle.mq_loop.proofs.notes.Notes.note_act.Goals as goal

pub returns-in-Up-clause-noted : goal.returns-in-Up-clause-noted
returns-in-Up-clause-noted c = rw c.in-Up.is (c.note_up.ensures.noted c.in-Up.field-2)

pub returns-in-Placed-clause-noted : goal.returns-in-Placed-clause-noted
returns-in-Placed-clause-noted c = rw c.in-Placed.is (c.note_copy.ensures.noted c.in-Placed.field-1)

pub returns-in-Removed-clause-noted : goal.returns-in-Removed-clause-noted
returns-in-Removed-clause-noted c =
    let s = c.args.self.now in
    rw (c.in-Removed.is, c.note_removed.ensures.clients, c.note_removed.ensures.marked, c.note_removed.ensures.over)
    (removed_noted c.in-Removed.key (get nat_eq s.clients) s.marked s.over)

pub returns-in_default : goal.returns-in_default
returns-in_default c =
    let s = c.args.self.now in
    record {
      failed = refl;
      noted = other_noted c.args.act.now (get nat_eq s.clients) s.marked s.over c.in_default.not-Up c.in_default.not-Placed c.in_default.not-Closed;
    }
