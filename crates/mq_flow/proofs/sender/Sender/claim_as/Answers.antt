use Rattle.std.proofs.Common.{◌≡◌, ℕ, false, sym, subst}
use Rattle.mq_flow.specs.Sender.{IsFree, is_full}
use Rattle.mq_flow.specs.Held.{book_of}
use Rattle.mq_flow.specs.Sending.{Sending}
use Rattle.mq_flow.proofs.Kept.{keeps_claim}
use Rattle.mq_flow.proofs.Claims.{Puts, claimed_more}
use Rattle.mq_flow.proofs.sender.Sender.claim_as.Goals as goal

pub invariant_of-self-2 : goal.invariant_of-self-2
invariant_of-self-2 c =
    let ps = c.self.inside.table.pairs in
    let cs = c.self.inside.claimed.items in
    let s : Sending = record { book = book_of ps cs; capacity = c.self.inside.capacity; last = c.self.inside.last; room = c.self.inside.room } in
    let i = c.args.id in
    let free = subst (λ (v : Sending). IsFree v.book i) (sym c.self.view_is) c.requires.free in
    let room = subst (λ (v : Sending). is_full v.capacity v.book ≡ false) (sym c.self.view_is) c.requires.room in
    let put = subst (λ (j : ℕ). Puts j c.self.inside.claimed_ids.keys c.insert.new.self.keys) c.get.ensures.value c.in_ok-insert.ensures.updates.0 in
    rw (c.push_reserved.ensures.items, c.in_ok-reserve.ensures.items, c.get-self-inside.ensures.value) (
      keeps_claim s i c.args.kind c.args.count c.self.invariant.0 room free,
      c.self.invariant.1,
      claimed_more c.self.inside.claimed_ids.keys c.insert.new.self.keys cs (record { id = i; kind = c.args.kind; count = c.args.count }) put c.self.invariant.2,
      c.self.invariant.3,
    )
