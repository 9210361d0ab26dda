use Rattle.std.proofs.Common.{◌≡◌, ℕ, ◌≤◌, ◌-◌, ◌∙◌, IsSome, List, ◌∷◌, [], length, nat_eq, ap, subst, sym, arith}
use Rattle.std.proofs.lemmas.List.{length-append}
use Rattle.std.specs.Map.{lookup, remove_entry}
use Rattle.mq_flow.specs.declared.table.Held.TheVariants.{Released}
use Rattle.mq_flow.specs.Held.{Kept, messages, pairs_in}
use Rattle.mq_flow.specs.Inside.Held.{bytes_under}
use Rattle.mq_flow.specs.Stored.{AreCounted}
use Rattle.mq_flow.proofs.Slots.{length_turned}
use Rattle.mq_flow.proofs.StoredBytes.{counted_released}
use Rattle.mq_flow.proofs.table.Table.release.Goals as goal

pub invariant_of-self : goal.invariant_of-self
invariant_of-self c =
    let ps = pairs_in c.self.inside.slots.items in
    let there : IsSome (lookup (nat_eq c.args.id) ps) = subst (λ (v : Kept). IsSome (lookup (nat_eq c.args.id) v.pairs)) (sym c.self.view_is) c.requires in
    let e = ap length c.turn_last.ensures.pairs ∙ length-append (remove_entry (nat_eq c.args.id) ps) ((c.args.id, Released c.args.id) ∷ []) in
    let l = length_turned c.args.id ps there in
    let w = c.self.invariant.1 in
    let k = c.turn_last.ensures.capacity in
    let own : c.bytes_of.result ≡ bytes_under c.args.id ps = c.bytes_of.ensures.value ∙ ap (λ (v : Kept). bytes_under c.args.id v.pairs) (sym c.self.view_is) in
    let counted = counted_released c.self.inside.bytes c.args.id ps (pairs_in c.turn_last.new.slots.items) c.turn_last.ensures.pairs c.self.invariant.2 in
    (c.turn_last.ensures.placed, omega arith, subst (λ (n : ℕ). AreCounted (c.self.inside.bytes - n) (messages (pairs_in c.turn_last.new.slots.items))) (sym own) counted)

pub returns-clause-spare : goal.returns-clause-spare
returns-clause-spare c =
    let ps = pairs_in c.self.inside.slots.items in
    let there : IsSome (lookup (nat_eq c.args.id) ps) = subst (λ (v : Kept). IsSome (lookup (nat_eq c.args.id) v.pairs)) (sym c.self.view_is) c.requires in
    let e = ap length c.turn_last.ensures.pairs ∙ length-append (remove_entry (nat_eq c.args.id) ps) ((c.args.id, Released c.args.id) ∷ []) in
    let l = length_turned c.args.id ps there in
    let k = c.turn_last.ensures.capacity in
    let v = ap (λ (v : Kept). v.spare) c.self.view_is in
    omega arith
