use Rattle.std.proofs.Common.{◌≡◌, ℕ, ◌+◌, ◌∙◌, Some, None, is_some, cond, nat_eq, sym, ap}
use Rattle.std.specs.HashMap.{get, hash_map_len}
use Rattle.mq_flow.specs.Held.{pairs_in}
use Rattle.mq_flow.proofs.Slots.{holds, holds_none, never_found, no_pairs, no_slots, remove_absent, take_placed}
use Rattle.mq_flow.proofs.table.take_out.Goals as goal

pub returns-in_err-at-clause-taken : goal.returns-in_err-at-clause-taken
returns-in_err-at-clause-taken c =
    let place = get nat_eq c.args.places.now in
    let none : place c.args.id ≡ None = ap place (sym c.get.ensures.value) ∙ sym c.remove.ensures.value ∙ c.in_err-at.was in
    c.from_residual.ensures ∙ sym (never_found c.args.slots.now.items place (hash_map_len c.args.places.now) c.args.id c.requires none)

pub returns-in_err-at-clause-pairs : goal.returns-in_err-at-clause-pairs
returns-in_err-at-clause-pairs c =
    let place = get nat_eq c.args.places.now in
    let none : place c.args.id ≡ None = ap place (sym c.get.ensures.value) ∙ sym c.remove.ensures.value ∙ c.in_err-at.was in
    sym (remove_absent c.args.id (pairs_in c.args.slots.now.items) (holds_none c.args.slots.now.items place (hash_map_len c.args.places.now) c.args.id c.requires none))

pub empty-held-requires : goal.empty-held-requires
empty-held-requires c =
    let place = get nat_eq c.args.places.now in
    let at : place c.args.id ≡ Some c.in_ok-at.at = ap place (sym c.get.ensures.value) ∙ sym c.remove.ensures.value ∙ c.in_ok-at.was in
    (holds c.args.slots.now.items place (hash_map_len c.args.places.now) c.args.id c.in_ok-at.at c.requires at).within

pub returns-then-is_empty-clause-taken : goal.returns-then-is_empty-clause-taken
returns-then-is_empty-clause-taken c =
    let place = get nat_eq c.args.places.now in
    let at : place c.args.id ≡ Some c.in_ok-at.at = ap place (sym c.get.ensures.value) ∙ sym c.remove.ensures.value ∙ c.in_ok-at.was in
    let there = holds c.args.slots.now.items place (hash_map_len c.args.places.now) c.args.id c.in_ok-at.at c.requires at in
    c.empty-held.ensures.was ∙ there.here None ∙ sym there.found

pub returns-else-is_empty-clause-taken : goal.returns-else-is_empty-clause-taken
returns-else-is_empty-clause-taken c =
    let place = get nat_eq c.args.places.now in
    let at : place c.args.id ≡ Some c.in_ok-at.at = ap place (sym c.get.ensures.value) ∙ sym c.remove.ensures.value ∙ c.in_ok-at.was in
    let there = holds c.args.slots.now.items place (hash_map_len c.args.places.now) c.args.id c.in_ok-at.at c.requires at in
    c.empty-held.ensures.was ∙ there.here None ∙ sym there.found

pub returns-else-is_empty-clause-placed : goal.returns-else-is_empty-clause-placed
returns-else-is_empty-clause-placed c =
    let place = get nat_eq c.args.places.now in
    let at : place c.args.id ≡ Some c.in_ok-at.at = ap place (sym c.get.ensures.value) ∙ sym c.remove.ensures.value ∙ c.in_ok-at.was in
    let fewer = sym (ap (λ o. hash_map_len c.remove.new.self + cond (is_some o) 1 0) c.in_ok-at.was) ∙ c.remove.ensures.len in
    rw c.empty-held.ensures.items (take_placed c.args.slots.now.items place (get nat_eq c.remove.new.self) (hash_map_len c.args.places.now) (hash_map_len c.remove.new.self) c.args.id c.in_ok-at.at c.requires at
    (λ i. c.remove.ensures.updates.0 i ∙ ap (λ (j : ℕ). cond (nat_eq j i) None (place i)) c.get.ensures.value) fewer).placed

pub returns-else-is_empty-clause-pairs : goal.returns-else-is_empty-clause-pairs
returns-else-is_empty-clause-pairs c =
    let place = get nat_eq c.args.places.now in
    let at : place c.args.id ≡ Some c.in_ok-at.at = ap place (sym c.get.ensures.value) ∙ sym c.remove.ensures.value ∙ c.in_ok-at.was in
    let fewer = sym (ap (λ o. hash_map_len c.remove.new.self + cond (is_some o) 1 0) c.in_ok-at.was) ∙ c.remove.ensures.len in
    ap pairs_in c.empty-held.ensures.items ∙ (take_placed c.args.slots.now.items place (get nat_eq c.remove.new.self) (hash_map_len c.args.places.now) (hash_map_len c.remove.new.self) c.args.id c.in_ok-at.at c.requires at
    (λ i. c.remove.ensures.updates.0 i ∙ ap (λ (j : ℕ). cond (nat_eq j i) None (place i)) c.get.ensures.value) fewer).pairs

pub returns-then-is_empty-clause-placed : goal.returns-then-is_empty-clause-placed
returns-then-is_empty-clause-placed c =
    let place = get nat_eq c.args.places.now in
    let at : place c.args.id ≡ Some c.in_ok-at.at = ap place (sym c.get.ensures.value) ∙ sym c.remove.ensures.value ∙ c.in_ok-at.was in
    let fewer = sym (ap (λ o. hash_map_len c.remove.new.self + cond (is_some o) 1 0) c.in_ok-at.was) ∙ c.remove.ensures.len in
    let done = take_placed c.args.slots.now.items place (get nat_eq c.remove.new.self) (hash_map_len c.args.places.now) (hash_map_len c.remove.new.self) c.args.id c.in_ok-at.at c.requires at
    (λ i. c.remove.ensures.updates.0 i ∙ ap (λ (j : ℕ). cond (nat_eq j i) None (place i)) c.get.ensures.value) fewer in
    rw c.clear.ensures.items (no_slots _ (get nat_eq c.remove.new.self) (hash_map_len c.remove.new.self) done.placed (c.is_empty.ensures.0 c.if-is_empty.true))

pub returns-then-is_empty-clause-pairs : goal.returns-then-is_empty-clause-pairs
returns-then-is_empty-clause-pairs c =
    let place = get nat_eq c.args.places.now in
    let at : place c.args.id ≡ Some c.in_ok-at.at = ap place (sym c.get.ensures.value) ∙ sym c.remove.ensures.value ∙ c.in_ok-at.was in
    let fewer = sym (ap (λ o. hash_map_len c.remove.new.self + cond (is_some o) 1 0) c.in_ok-at.was) ∙ c.remove.ensures.len in
    let done = take_placed c.args.slots.now.items place (get nat_eq c.remove.new.self) (hash_map_len c.args.places.now) (hash_map_len c.remove.new.self) c.args.id c.in_ok-at.at c.requires at
    (λ i. c.remove.ensures.updates.0 i ∙ ap (λ (j : ℕ). cond (nat_eq j i) None (place i)) c.get.ensures.value) fewer in
    ap pairs_in c.clear.ensures.items ∙ sym (no_pairs _ (get nat_eq c.remove.new.self) (hash_map_len c.remove.new.self) done.placed (c.is_empty.ensures.0 c.if-is_empty.true)) ∙ done.pairs
