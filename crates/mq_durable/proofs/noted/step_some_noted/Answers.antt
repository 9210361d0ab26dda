use Rattle.std.proofs.Common.{◌≡◌, length, rules, arith}
use Rattle.mq_durable.proofs.Kept.{front_noted, front_short}
use Rattle.mq_durable.proofs.noted.step_some_noted.Goals as goal

pub returns-in-Ok-clause-noted : goal.returns-in-Ok-clause-noted
returns-in-Ok-clause-noted c =
    let at_is : length c.args.entry.now.items ≡ c.len-before.result = search (rules, arith) in
    front_noted c.args.entry.now.items c.note_piece.new.entry.items c.shorten_piece.new.out.items c.args.conn c.args.piece.now c.len-before.result c.in-Ok.taken at_is
    c.in_ok-note_piece.ensures.noted c.in-Ok.ensures.step.within c.shorten_piece.ensures

pub returns-in-Ok-clause-short : goal.returns-in-Ok-clause-short
returns-in-Ok-clause-short c =
    let at_is : length c.args.entry.now.items ≡ c.len-before.result = search (rules, arith) in
    front_short c.args.entry.now.items c.note_piece.new.entry.items c.shorten_piece.new.out.items c.args.conn c.args.piece.now c.in-Ok.taken
    c.in_ok-note_piece.ensures.noted c.in-Ok.ensures.step.within
    (front_noted c.args.entry.now.items c.note_piece.new.entry.items c.shorten_piece.new.out.items c.args.conn c.args.piece.now c.len-before.result c.in-Ok.taken at_is
    c.in_ok-note_piece.ensures.noted c.in-Ok.ensures.step.within c.shorten_piece.ensures)
    c.in_ok-note_piece.ensures.short
