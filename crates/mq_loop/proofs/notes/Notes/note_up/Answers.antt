use Rattle.std.proofs.Common.{nat_eq}
use Rattle.std.specs.HashMap.{get}
use Rattle.mq_loop.proofs.Noting.{up_away_noted, up_fresh_noted, up_moved_noted, up_over_noted}
use Rattle.mq_loop.proofs.notes.Notes.note_up.Goals as goal
use Rattle.mq_loop.proofs.notes.Notes.note_up.Goals.{in-Ok-Some, in-Ok-None, in-Err}

pub returns-in_default-clause-noted : goal.returns-in_default-clause-noted
returns-in_default-clause-noted c present =
    let s = c.args.self.now in
    up_away_noted c.args.conn c.args.key present (get nat_eq s.clients) s.marked s.over c.in_default.ensures.none

pub returns-clause-noted : goal.returns-clause-noted
returns-clause-noted c present =
    let s = c.args.self.now in
    let key = c.args.key in
    let place = c.in-Some.place in
    let f = get nat_eq s.clients in
    let g = get nat_eq c.add_client.new.clients in
    let is = c.in-Some.ensures.some in
    elim c.match-add_client.branch [
      | in-Ok-Some w ↦
          rw (c.put-2.ensures, w.self-is, w.put.ensures)
          (up_moved_noted c.args.conn key place present f g s.marked s.over is w.in-Ok-Some.former (rw w.in-Ok-Some.field-0-is at w.in-Ok-Some.ensures.former) w.in-Ok-Some.ensures.found)
      | in-Ok-None w ↦
          rw (c.put-2.ensures, w.self-is) (up_fresh_noted c.args.conn key place present f g s.marked s.over is (rw w.in-Ok-None.field-0-is at w.in-Ok-None.ensures.former) w.in-Ok-None.ensures.found)
      | in-Err w ↦
          rw (c.put-2.ensures, w.self-is, w.put-in-Err.ensures) (up_over_noted c.args.conn key place present f g s.marked s.over is w.in-Err.ensures.err)
    ]
