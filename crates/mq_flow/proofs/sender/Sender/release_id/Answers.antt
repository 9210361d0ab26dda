use Rattle.std.proofs.Common.{◌≡◌, ℕ, ◌<◌, ◌∙◌, false, eqb, List, length, sym, ap, subst}
use Rattle.std.specs.List.{list_any, HoldsAt}
use Rattle.mq_flow.specs.declared.claim.Claimed.{Claimed}
use Rattle.mq_flow.specs.Sender.{SenderBook, release}
use Rattle.mq_flow.specs.Held.{book_of}
use Rattle.mq_flow.specs.Sending.{Sending}
use Rattle.mq_flow.proofs.Kept.{keeps_release, claim_out, absent_claimed, once_claimed}
use Rattle.mq_flow.proofs.Claims.{Takes, claimed_fewer}
use Rattle.mq_flow.proofs.sender.Sender.release_id.Goals as goal

pub invariant_of-self : goal.invariant_of-self
invariant_of-self c =
    let ps = c.self.inside.table.pairs in
    let cs = c.self.inside.claimed.items in
    let s : Sending = record { book = book_of ps cs; capacity = c.self.inside.capacity; last = c.self.inside.last; room = c.self.inside.room } in
    let i = c.args.id in
    let place = subst (λ (xs : List Claimed). c.in-Some.at < length xs) c.deref.ensures.value c.in-Some.ensures.place in
    let found = subst (λ (xs : List Claimed). HoldsAt (λ e. e.id ≡ i) xs c.in-Some.at) c.deref.ensures.value c.in-Some.ensures.claim in
    let out = c.remove.ensures.items ∙ claim_out s i c.in-Some.at c.self.invariant.0 place found in
    let taken = subst (λ (j : ℕ). Takes j c.self.inside.claimed_ids.keys c.remove-in-Some.new.self.keys) c.get.ensures.value c.remove-in-Some.ensures.updates.0 in (
      rw out (keeps_release s i c.self.invariant.0),
      c.self.invariant.1,
      rw c.remove.ensures.items (claimed_fewer c.self.inside.claimed_ids.keys c.remove-in-Some.new.self.keys cs i c.in-Some.at taken (once_claimed s.capacity i s.book c.self.invariant.0.sound) place found c.self.invariant.2),
      c.self.invariant.3,
    )

pub returns-in-Some-clause-book : goal.returns-in-Some-clause-book
returns-in-Some-clause-book c =
    let ps = c.self.inside.table.pairs in
    let cs = c.self.inside.claimed.items in
    let s : Sending = record { book = book_of ps cs; capacity = c.self.inside.capacity; last = c.self.inside.last; room = c.self.inside.room } in
    let i = c.args.id in
    let place = subst (λ (xs : List Claimed). c.in-Some.at < length xs) c.deref.ensures.value c.in-Some.ensures.place in
    let found = subst (λ (xs : List Claimed). HoldsAt (λ e. e.id ≡ i) xs c.in-Some.at) c.deref.ensures.value c.in-Some.ensures.claim in
    let out = c.remove.ensures.items ∙ claim_out s i c.in-Some.at c.self.invariant.0 place found in
    ap (λ (xs : List Claimed). book_of ps xs) out ∙ ap (λ (v : Sending). release i v.book) c.self.view_is

pub returns-in_default-clause-book : goal.returns-in_default-clause-book
returns-in_default-clause-book c =
    let b : SenderBook = book_of c.self.inside.table.pairs c.self.inside.claimed.items in
    let none = subst (λ (xs : List Claimed). list_any (λ e. eqb e.id c.args.id) xs ≡ false) c.deref.ensures.value (sym c.in_default.ensures.there) in
    subst (λ (v : Sending). v.book ≡ release c.args.id v.book) c.self.view_is (sym (ap (λ (xs : List Claimed). record b { claimed = xs }) (absent_claimed c.args.id b none)))
