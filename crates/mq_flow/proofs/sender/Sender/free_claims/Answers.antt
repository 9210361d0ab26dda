use Rattle.std.proofs.Common.{eqb, ap}
use Rattle.std.specs.List.{list_any}
use Rattle.mq_flow.specs.Held.{book_of}
use Rattle.mq_flow.specs.Sending.{Sending}
use Rattle.mq_flow.proofs.Kept.{keeps_no_claims}
use Rattle.mq_flow.proofs.sender.Sender.free_claims.Goals as goal

pub invariant_of-self : goal.invariant_of-self
invariant_of-self c =
    let ps = c.self.inside.table.pairs in
    let cs = c.self.inside.claimed.items in
    let s : Sending = record { book = book_of ps cs; capacity = c.self.inside.capacity; last = c.self.inside.last; room = c.self.inside.room } in
    rw (c.clear-2.ensures.items) (keeps_no_claims s c.self.invariant.0, c.self.invariant.1, λ i. ap (list_any (eqb i)) c.clear.ensures.empty, c.self.invariant.3)
