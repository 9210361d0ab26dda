use Rattle.std.proofs.Common.{rules, ◌≡◌, ℕ, ◌∙◌, Option, Some, None, cond, nat_eq, sym, ap}
use Rattle.std.specs.HashMap.{get, hash_map_len}
use Rattle.std.specs.Map.{lookup}
use Rattle.mq_flow.specs.Held.{id_in, pairs_in}
use Rattle.mq_flow.proofs.Slots.{put_placed, free_place, unfound}
use Rattle.mq_flow.proofs.table.push.Goals as goal

pub write_place-requires-clause-other : goal.write_place-requires-clause-other
write_place-requires-clause-other c =
    let none : lookup (nat_eq (id_in c.args.held)) (pairs_in c.move_up.new.slots.items) ≡ None = ap (lookup (nat_eq (id_in c.args.held))) c.move_up.ensures.pairs ∙ c.requires.other in
    ap (get nat_eq c.move_up.new.places) c.id.ensures ∙ free_place c.move_up.new.slots.items (get nat_eq c.move_up.new.places) (hash_map_len c.move_up.new.places) (id_in c.args.held) c.move_up.ensures.placed none

pub returns-clause-placed : goal.returns-clause-placed
returns-clause-placed c =
    let xs = c.move_up.new.slots.items in
    let place : ℕ → Option ℕ = get nat_eq c.move_up.new.places in
    let none : lookup (nat_eq (id_in c.args.held)) (pairs_in xs) ≡ None = ap (lookup (nat_eq (id_in c.args.held))) c.move_up.ensures.pairs ∙ c.requires.other in
    rw c.push_reserved.ensures.items (put_placed xs place (get nat_eq c.write_place.new.places) (hash_map_len c.move_up.new.places) (hash_map_len c.write_place.new.places) c.args.held c.move_up.ensures.placed
    (unfound (id_in c.args.held) (pairs_in xs) none)
    (λ i. c.write_place.ensures.placed i ∙ ap (λ (j : ℕ). cond (nat_eq j i) (Some c.len.result) (place i)) c.id.ensures ∙ ap (λ (n : ℕ). cond (nat_eq (id_in c.args.held) i) (Some n) (place i)) (c.len.ensures ∙ (search rules)))
    c.write_place.ensures.len)
