use Rattle.std.proofs.Common.{◌≡◌, ℕ, ◌-◌, ◌∙◌, length, sym, ap, subst, arith}
use Rattle.mq_flow.specs.Held.{Kept, messages, pairs_in}
use Rattle.mq_flow.specs.Inside.Held.{bytes_found, bytes_under}
use Rattle.mq_flow.specs.Stored.{AreCounted}
use Rattle.mq_flow.proofs.Slots.{length_removed}
use Rattle.mq_flow.proofs.StoredBytes.{bytes_taken, counted_taken}
use Rattle.mq_flow.proofs.table.Table.take.Goals as goal

pub overflow_sub-self : goal.overflow_sub-self
overflow_sub-self c =
    let ps = pairs_in c.self.inside.slots.items in
    let own : c.taken_bytes.result ≡ bytes_under c.args.id ps = c.taken_bytes.ensures ∙ ap bytes_found c.take_out-taken.ensures.taken in
    let all = bytes_taken c.args.id ps in
    let sum = c.self.invariant.2.sum in
    omega arith

pub invariant_of-self : goal.invariant_of-self
invariant_of-self c =
    let e = ap length c.take_out-taken.ensures.pairs in
    let l = length_removed c.args.id (pairs_in c.self.inside.slots.items) in
    let w = c.self.invariant.1 in
    let k = c.take_out-taken.ensures.capacity in
    let ps = pairs_in c.self.inside.slots.items in
    let own : c.taken_bytes.result ≡ bytes_under c.args.id ps = c.taken_bytes.ensures ∙ ap bytes_found c.take_out-taken.ensures.taken in
    let counted = counted_taken c.self.inside.bytes c.args.id ps (pairs_in c.take_out-taken.new.slots.items) c.take_out-taken.ensures.pairs c.self.invariant.2 in
    (c.take_out-taken.ensures.placed, omega arith, subst (λ (n : ℕ). AreCounted (c.self.inside.bytes - n) (messages (pairs_in c.take_out-taken.new.slots.items))) (sym own) counted)

pub returns-clause-spare : goal.returns-clause-spare
returns-clause-spare c =
    let e = ap length c.take_out-taken.ensures.pairs in
    let l = length_removed c.args.id (pairs_in c.self.inside.slots.items) in
    let k = c.take_out-taken.ensures.capacity in
    let v = ap (λ (v : Kept). v.spare) c.self.view_is in
    omega arith
