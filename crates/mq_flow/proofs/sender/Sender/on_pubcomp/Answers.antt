use Rattle.std.proofs.Common.{◌≡◌, ℕ, ◌∙◌, false, eqb, List, sym, ap, ◌≤◌, arith}
use Rattle.std.specs.List.{list_any}
use Rattle.mq_flow.proofs.Kept.{absent_released}
use Rattle.mq_flow.proofs.Moves.{pubcomp_moves}
use Rattle.mq_flow.proofs.sender.Sender.on_pubcomp.Goals as goal

pub returns-then-not-is_released-clause-book : goal.returns-then-not-is_released-clause-book
returns-then-not-is_released-clause-book c =
    let b = c.args.self.now.book in
    let none : list_any (λ j. eqb j c.args.id) b.released ≡ false = sym c.is_released.ensures ∙ c.if-not-is_released.true in
    sym (ap (λ (js : List ℕ). record b { released = js }) (absent_released c.args.id b none))

pub invariant_of-self : goal.invariant_of-self
invariant_of-self c =
    let move = pubcomp_moves c.self.inside.table.pairs c.take.new.self.pairs c.self.inside.claimed.items c.self.inside.capacity c.self.inside.last c.self.inside.room c.args.id c.args.self.now c.self.invariant.0 c.self.invariant.1 c.self.view_is c.is_released.result c.is_released.ensures c.if-not-is_released.false c.take.ensures.pairs in
    (move.keeps c.self.inside.room, move.under, c.self.invariant.2, (let spare = c.take.ensures.spare in let room = c.self.invariant.3 in omega arith))

pub returns-clause-book : goal.returns-clause-book
returns-clause-book c =
    let move = pubcomp_moves c.self.inside.table.pairs c.take.new.self.pairs c.self.inside.claimed.items c.self.inside.capacity c.self.inside.last c.self.inside.room c.args.id c.args.self.now c.self.invariant.0 c.self.invariant.1 c.self.view_is c.is_released.result c.is_released.ensures c.if-not-is_released.false c.take.ensures.pairs in
    move.after
