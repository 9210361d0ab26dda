use Rattle.std.proofs.Common.{rules, refl, ◌≡◌, ℕ, ◌+◌, ◌∙◌, Option, Some, None, IsSome, cond, nat_eq, length, List, [], ◌∷◌, ◌++◌, sym, ap, subst}
use Rattle.std.specs.HashMap.{get, hash_map_len}
use Rattle.std.specs.Map.{lookup, remove_entry}
use Rattle.mq_flow.specs.declared.table.Held.{Held}
use Rattle.mq_flow.specs.Held.{id_in, pairs_in}
use Rattle.mq_flow.proofs.Slots.{holds, turn_placed, never_found}
use Rattle.mq_flow.proofs.table.turn_last.Goals as goal

-- nothing is no something
never : (o : Option Held) → o ≡ None → IsSome o → ⊥
never (Some h) e s = absurd cc
never None e s = absurd cc

pub empty-requires : goal.empty-requires
empty-requires c =
    let place = get nat_eq c.move_up.new.places in
    let at : place (id_in c.args.held) ≡ Some c.in-Some.at = ap place (sym c.id.ensures) ∙ sym c.move_place.ensures.old ∙ c.in-Some.is in
    (holds c.move_up.new.slots.items place (hash_map_len c.move_up.new.places) (id_in c.args.held) c.in-Some.at c.move_up.ensures.placed at).within

pub returns-in-Some-clause-placed : goal.returns-in-Some-clause-placed
returns-in-Some-clause-placed c =
    let place : ℕ → Option ℕ = get nat_eq c.move_up.new.places in
    let at : place (id_in c.args.held) ≡ Some c.in-Some.at = ap place (sym c.id.ensures) ∙ sym c.move_place.ensures.old ∙ c.in-Some.is in
    let done = turn_placed c.move_up.new.slots.items place (get nat_eq c.move_place.new.places) (hash_map_len c.move_up.new.places) (hash_map_len c.move_place.new.places) (id_in c.args.held) c.in-Some.at c.args.held c.move_up.ensures.placed at refl
    (λ i. c.in-Some.ensures.moved i ∙ ap (λ (j : ℕ). cond (nat_eq j i) (Some c.len.result) (place i)) c.id.ensures ∙ ap (λ (n : ℕ). cond (nat_eq (id_in c.args.held) i) (Some n) (place i)) (c.len.ensures ∙ (search rules)))
    c.move_place.ensures.len in
    rw (c.push_reserved.ensures.items, c.empty.ensures.items) done.0

pub returns-in-Some-clause-pairs : goal.returns-in-Some-clause-pairs
returns-in-Some-clause-pairs c =
    let place : ℕ → Option ℕ = get nat_eq c.move_up.new.places in
    let at : place (id_in c.args.held) ≡ Some c.in-Some.at = ap place (sym c.id.ensures) ∙ sym c.move_place.ensures.old ∙ c.in-Some.is in
    let done = turn_placed c.move_up.new.slots.items place (get nat_eq c.move_place.new.places) (hash_map_len c.move_up.new.places) (hash_map_len c.move_place.new.places) (id_in c.args.held) c.in-Some.at c.args.held c.move_up.ensures.placed at refl
    (λ i. c.in-Some.ensures.moved i ∙ ap (λ (j : ℕ). cond (nat_eq j i) (Some c.len.result) (place i)) c.id.ensures ∙ ap (λ (n : ℕ). cond (nat_eq (id_in c.args.held) i) (Some n) (place i)) (c.len.ensures ∙ (search rules)))
    c.move_place.ensures.len in
    ap pairs_in (c.push_reserved.ensures.items ∙ ap (λ (l : List (Option Held)). l ++ Some c.args.held ∷ []) c.empty.ensures.items) ∙ done.1
    ∙ ap (λ (ps : List (ℕ × Held)). remove_entry (nat_eq (id_in c.args.held)) ps ++ (id_in c.args.held, c.args.held) ∷ []) c.move_up.ensures.pairs

pub returns-in_default-clause-placed : goal.returns-in_default-clause-placed
returns-in_default-clause-placed c =
    let place : ℕ → Option ℕ = get nat_eq c.move_up.new.places in
    let none : place (id_in c.args.held) ≡ None = ap place (sym c.id.ensures) ∙ sym c.move_place.ensures.old ∙ c.in_default.is in
    let gone : lookup (nat_eq (id_in c.args.held)) (pairs_in c.args.slots.now.items) ≡ None = ap (lookup (nat_eq (id_in c.args.held))) (sym c.move_up.ensures.pairs) ∙ never_found c.move_up.new.slots.items place (hash_map_len c.move_up.new.places) (id_in c.args.held) c.move_up.ensures.placed none in
    absurd (never (lookup (nat_eq (id_in c.args.held)) (pairs_in c.args.slots.now.items)) gone c.requires.there)

pub returns-in_default-clause-pairs : goal.returns-in_default-clause-pairs
returns-in_default-clause-pairs c =
    let place : ℕ → Option ℕ = get nat_eq c.move_up.new.places in
    let none : place (id_in c.args.held) ≡ None = ap place (sym c.id.ensures) ∙ sym c.move_place.ensures.old ∙ c.in_default.is in
    let gone : lookup (nat_eq (id_in c.args.held)) (pairs_in c.args.slots.now.items) ≡ None = ap (lookup (nat_eq (id_in c.args.held))) (sym c.move_up.ensures.pairs) ∙ never_found c.move_up.new.slots.items place (hash_map_len c.move_up.new.places) (id_in c.args.held) c.move_up.ensures.placed none in
    absurd (never (lookup (nat_eq (id_in c.args.held)) (pairs_in c.args.slots.now.items)) gone c.requires.there)
