use Rattle.std.proofs.Common.{◌≤◌, arith}
use Rattle.mq_flow.proofs.Moves.{puback_moves}
use Rattle.mq_flow.proofs.sender.Sender.on_puback.Goals as goal

pub invariant_of-self : goal.invariant_of-self
invariant_of-self c =
    let move = puback_moves c.self.inside.table.pairs c.take.new.self.pairs c.self.inside.claimed.items c.self.inside.capacity c.self.inside.last c.self.inside.room c.args.id c.args.self.now c.self.invariant.0 c.self.invariant.1 c.self.view_is c.awaits.result c.awaits.ensures c.if-not-awaits.false c.take.ensures.pairs in
    (move.keeps c.self.inside.room, move.under, c.self.invariant.2, (let spare = c.take.ensures.spare in let room = c.self.invariant.3 in omega arith))

pub returns-clause-book : goal.returns-clause-book
returns-clause-book c =
    let move = puback_moves c.self.inside.table.pairs c.take.new.self.pairs c.self.inside.claimed.items c.self.inside.capacity c.self.inside.last c.self.inside.room c.args.id c.args.self.now c.self.invariant.0 c.self.invariant.1 c.self.view_is c.awaits.result c.awaits.ensures c.if-not-awaits.false c.take.ensures.pairs in
    move.after
