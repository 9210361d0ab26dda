use Rattle.std.proofs.Common.{◌≡◌, ℕ, ◌≤◌, ◌-◌, ◌∙◌, List, map, length, nat_eq, vec_capacity, sym, ap, subst, arith}
use Rattle.std.specs.Option.{option_map}
use Rattle.std.specs.HashMap.{get, hash_map_len}
use Rattle.mq_flow.specs.declared.table.Held.{Held}
use Rattle.mq_flow.specs.Held.{Kept, pairs_in}
use Rattle.mq_flow.specs.Inside.Held.{gone_out}
use Rattle.mq_flow.proofs.Slots.{marked_placed, pairs_marked, length_marked}
use Rattle.mq_flow.proofs.StoredBytes.{counted_gone}
use Rattle.mq_flow.proofs.table.Table.mark_all.Goals as goal

pub invariant_of-self : goal.invariant_of-self
invariant_of-self c =
    let xs = c.self.inside.slots.items in
    let e = length_marked xs in
    let w = c.self.invariant.1 in
    let k = c.mark_slots.ensures.capacity in
    rw c.mark_slots.ensures.items (marked_placed xs (get nat_eq c.self.inside.places) (hash_map_len c.self.inside.places) c.self.invariant.0, omega arith, counted_gone c.self.inside.bytes (pairs_in xs) (pairs_in (map (option_map gone_out) xs)) (pairs_marked xs) c.self.invariant.2)

pub returns-clause-pairs : goal.returns-clause-pairs
returns-clause-pairs c = ap pairs_in c.mark_slots.ensures.items ∙ pairs_marked c.self.inside.slots.items ∙ ap (λ (v : Kept). map (λ (p : ℕ × Held). (p.0, gone_out p.1)) v.pairs) c.self.view_is

pub returns-clause-spare : goal.returns-clause-spare
returns-clause-spare c =
    let xs = c.self.inside.slots.items in
    let e = ap (λ (l : _). length (pairs_in l)) c.mark_slots.ensures.items ∙ length_marked xs in
    let k = c.mark_slots.ensures.capacity in
    let v = ap (λ (v : Kept). v.spare) c.self.view_is in
    omega arith
