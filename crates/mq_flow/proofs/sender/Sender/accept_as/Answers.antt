use Rattle.std.proofs.Common.{◌≡◌, ◌+◌, ◌≤◌, length, arith, sym, subst}
use Rattle.mq_flow.specs.Sender.{uses, times}
use Rattle.mq_flow.specs.Sending.{Sending}
use Rattle.mq_flow.proofs.Kept.{free_absent, length_used}
use Rattle.mq_flow.proofs.Moves.{accept_moves}
use Rattle.mq_flow.proofs.sender.Sender.accept_as.Goals as goal

pub add-requires-clause-few : goal.add-requires-clause-few
add-requires-clause-few c =
    let used = length_used c.self.inside.table.pairs c.self.inside.claimed.items in
    let within = c.self.invariant.0.sound.within in
    let most = c.self.invariant.0.most in
    omega arith

pub add-requires-clause-other : goal.add-requires-clause-other
add-requires-clause-other c = free_absent c.args.id c.self.inside.table.pairs c.self.inside.claimed.items c.self.invariant.1 (subst (λ (v : Sending). times c.args.id (uses v.book) ≡ 0) (sym c.self.view_is) c.requires.free.1)

pub invariant_of-self-2 : goal.invariant_of-self-2
invariant_of-self-2 c =
    let move = accept_moves c.self.inside.table.pairs c.add.new.self.pairs c.self.inside.claimed.items c.self.inside.capacity c.self.inside.last c.self.inside.room c.args.id c.args.self.now c.self.invariant.0 c.self.invariant.1 c.self.view_is c.args.message c.args.sent c.requires.free c.requires.room c.requires.kept c.in_ok-add.ensures.ok in
    rw (c.get-self-inside.ensures.value) (move.keeps _, move.under, c.self.invariant.2, (let left = c.saturating_sub-self-inside.ensures in let spare = c.add.ensures.spare in let room = c.self.invariant.3 in omega arith))
