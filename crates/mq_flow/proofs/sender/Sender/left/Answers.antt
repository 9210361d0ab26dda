use Rattle.std.proofs.Common.{◌≡◌, ℕ, ◌+◌, ◌-◌, ◌∙◌, length, ap, arith}
use Rattle.mq_flow.specs.Sender.{uses}
use Rattle.mq_flow.specs.Held.{book_of}
use Rattle.mq_flow.specs.Sending.{Sending}
use Rattle.mq_flow.proofs.Kept.{length_used}
use Rattle.mq_flow.proofs.sender.Sender.left.Goals as goal

pub overflow_add-used : goal.overflow_add-used
overflow_add-used c =
    let used = length_used c.self.inside.table.pairs c.self.inside.claimed.items in
    let within = c.self.invariant.0.sound.within in
    let most = c.self.invariant.0.most in
    omega (arith, c.len.ensures, c.len-2.ensures)

pub overflow_sub-result : goal.overflow_sub-result
overflow_sub-result c =
    let used = length_used c.self.inside.table.pairs c.self.inside.claimed.items in
    let within = c.self.invariant.0.sound.within in
    omega (arith, c.len.ensures, c.len-2.ensures)

pub returns : goal.returns
returns c =
    let ps = c.self.inside.table.pairs in
    let cs = c.self.inside.claimed.items in
    let all = length_used ps cs in
    let used : c.len.result + c.len-2.result ≡ length (uses (book_of ps cs)) = omega (arith, c.len.ensures, c.len-2.ensures) in
    ap (λ (n : ℕ). c.self.inside.capacity - n) used ∙ ap (λ (v : Sending). v.capacity - length (uses v.book)) c.self.view_is
