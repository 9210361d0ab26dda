use Rattle.std.proofs.lemmas.Result.{on_ok_weaker}
use Rattle.mq_flow.specs.Saved.{AreWithin}
use Rattle.mq_flow.specs.Inside.Saved.{IsSenderWithin}
use Rattle.mq_flow.proofs.Live.{sender_within}
use Rattle.std.proofs.Common.{subst, arith}
use Rattle.mq_flow.specs.Held.{book_of}
use Rattle.mq_flow.specs.Sending.{Sending}
use Rattle.mq_flow.proofs.sender.Sender.put.Goals as goal

pub returns-clause-sender : goal.returns-clause-sender
returns-clause-sender c =
    let ps = c.self.inside.table.pairs in
    let cs = c.self.inside.claimed.items in
    let s : Sending = record { book = book_of ps cs; capacity = c.self.inside.capacity; last = c.self.inside.last; room = c.self.inside.room } in
    on_ok_weaker c.put_released.result
    (λ done. subst (λ (v : Sending). AreWithin 268435455 v.book.entries → IsSenderWithin 268435455 v) c.self.view_is
    (sender_within 268435455 s c.self.invariant.0 (omega arith) c.in_ok-put_entries.ensures.topics))
    c.put_released.ensures.ok
