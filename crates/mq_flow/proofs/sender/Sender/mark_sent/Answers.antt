use Rattle.std.proofs.Common.{◌≡◌, ℕ, ◌∙◌, List, sym, ap, subst, ◌≤◌, arith}
use Rattle.mq_flow.specs.declared.table.Held.{Held}
use Rattle.mq_flow.specs.Sender.{SenderBook, all_sent}
use Rattle.mq_flow.specs.Held.{book_of, AreUnder}
use Rattle.mq_flow.specs.Sending.{Sending, Keeps}
use Rattle.mq_flow.proofs.Holding.{under_gone}
use Rattle.mq_flow.proofs.Kept.{table_sent, keeps_sent}
use Rattle.mq_flow.proofs.sender.Sender.mark_sent.Goals as goal

pub invariant_of-self : goal.invariant_of-self
invariant_of-self c =
    let ps = c.self.inside.table.pairs in
    let cs = c.self.inside.claimed.items in
    let s : Sending = record { book = book_of ps cs; capacity = c.self.inside.capacity; last = c.self.inside.last; room = c.self.inside.room } in
    let after : book_of c.mark_all.new.self.pairs cs ≡ all_sent (book_of ps cs) = ap (λ (ts : List (ℕ × Held)). book_of ts cs) c.mark_all.ensures.pairs ∙ table_sent ps cs in
    (subst (λ (b : SenderBook). Keeps (record s { book = b })) (sym after) (keeps_sent s c.self.invariant.0), subst AreUnder (sym c.mark_all.ensures.pairs) (under_gone ps c.self.invariant.1), c.self.invariant.2, (let spare = c.mark_all.ensures.spare in let room = c.self.invariant.3 in omega arith))

pub returns-clause-book : goal.returns-clause-book
returns-clause-book c =
    let ps = c.self.inside.table.pairs in
    let cs = c.self.inside.claimed.items in
    ap (λ (ts : List (ℕ × Held)). book_of ts cs) c.mark_all.ensures.pairs ∙ table_sent ps cs ∙ ap (λ (v : Sending). all_sent v.book) c.self.view_is
