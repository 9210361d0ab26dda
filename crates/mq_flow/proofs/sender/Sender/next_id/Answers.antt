use Rattle.std.proofs.Common.{◌≡◌, ◌≤◌, false, sym, subst, arith}
use Rattle.mq_flow.specs.Sender.{is_full}
use Rattle.mq_flow.specs.Held.{book_of}
use Rattle.mq_flow.specs.Sending.{Sending}
use Rattle.mq_flow.proofs.Round.{Passed, passed_none, all_passed, room_left}
use Rattle.mq_flow.proofs.sender.Sender.next_id.Goals as goal

pub loop-init : goal.loop-init
loop-init c =
    let s : Sending = record { book = book_of c.self.inside.table.pairs c.self.inside.claimed.items; capacity = c.self.inside.capacity; last = c.self.inside.last; room = c.self.inside.room } in
    let room = room_left c.args.self.now c.left.result c.left.ensures c.if-left-eq0.false in
    let left = subst (λ (v : Sending). is_full v.capacity v.book ≡ false) (sym c.self.view_is) room in
    let last : c.self.inside.last ≤ 65535 = omega arith in
    subst (λ (v : Sending). Passed v 0 c.self.inside.last) c.self.view_is (passed_none s last c.self.invariant.0.most left)

pub returns-clause-some : goal.returns-clause-some
returns-clause-some c = absurd (all_passed c.args.self.now c.loop.counter c.loop.number (omega (arith, c.loop-test.false)) c.loop.invariant)
