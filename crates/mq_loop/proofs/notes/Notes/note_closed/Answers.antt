use Rattle.std.proofs.Common.{nat_eq, inl, refl}
use Rattle.std.specs.HashMap.{get}
use Rattle.mq_loop.proofs.Noting.{closed_noted, closed_away_noted}
use Rattle.mq_loop.proofs.notes.Notes.note_closed.Goals as goal

pub returns-in_default-clause-noted : goal.returns-in_default-clause-noted
returns-in_default-clause-noted c =
    let s = c.args.self.now in
    closed_away_noted c.args.conn c.args.why (get nat_eq s.clients) s.marked s.over

pub returns-in-Some-close_seat-clause-noted : goal.returns-in-Some-close_seat-clause-noted
returns-in-Some-close_seat-clause-noted c =
    let s = c.args.self.now in
    let found = rw c.report.ensures.clients at c.remove_client.ensures in
    rw (c.report.ensures.marked, c.put.ensures, c.report.ensures.over) (closed_noted c.args.conn c.args.why c.in-Some.place (get nat_eq s.clients)
    (get nat_eq c.remove_client.new.clients) s.marked s.over c.in-Some.ensures.some found)

pub returns-in_default-close_seat-clause-noted : goal.returns-in_default-close_seat-clause-noted
returns-in_default-close_seat-clause-noted c =
    let s = c.args.self.now in
    rw (c.report.ensures.clients, c.report.ensures.marked, c.put.ensures, c.report.ensures.over) (closed_noted c.args.conn c.args.why c.in-Some.place (get nat_eq s.clients)
    (get nat_eq s.clients) s.marked s.over c.in-Some.ensures.some (λ n. inl refl))
