use Rattle.std.proofs.Common.{◌≡◌, ℕ, ◌<◌, ◌∙◌, List, Option, Some, None, length, get_or, nat_eq, sym, ap, subst}
use Rattle.std.specs.HashMap.{get, hash_map_len}
use Rattle.std.specs.Map.{lookup}
use Rattle.std.specs.Option.{option_copied}
use Rattle.mq_flow.specs.declared.table.Held.{Held}
use Rattle.mq_flow.specs.Held.{Kept}
use Rattle.mq_flow.proofs.Slots.{holds, never_found}
use Rattle.mq_flow.proofs.table.Table.get.Goals as goal

pub held_at-requires : goal.held_at-requires
held_at-requires c =
    let place = get nat_eq c.self.inside.places in
    let at : place c.args.id ≡ Some c.in-Some.at.now = ap place (sym c.get.ensures.value) ∙ sym c.get-2.ensures.value ∙ ap option_copied c.in-Some.is in
    let there = holds c.self.inside.slots.items place (hash_map_len c.self.inside.places) c.args.id c.in-Some.at.now c.self.invariant.0 at in
    subst (λ (xs : List (Option Held)). c.in-Some.at.now < length xs) (sym c.as_slice.ensures.value) there.within

pub returns-in-Some : goal.returns-in-Some
returns-in-Some c =
    let place = get nat_eq c.self.inside.places in
    let at : place c.args.id ≡ Some c.in-Some.at.now = ap place (sym c.get.ensures.value) ∙ sym c.get-2.ensures.value ∙ ap option_copied c.in-Some.is in
    let there = holds c.self.inside.slots.items place (hash_map_len c.self.inside.places) c.args.id c.in-Some.at.now c.self.invariant.0 at in
    c.held_at.ensures ∙ ap (λ (xs : List (Option Held)). get_or xs c.in-Some.at.now None) c.as_slice.ensures.value ∙ there.here None ∙ sym there.found ∙ ap (λ (v : Kept). lookup (nat_eq c.args.id) v.pairs) c.self.view_is

pub returns-in-None : goal.returns-in-None
returns-in-None c =
    let place = get nat_eq c.self.inside.places in
    let none : place c.args.id ≡ None = ap place (sym c.get.ensures.value) ∙ sym c.get-2.ensures.value ∙ ap option_copied c.in-None.is in
    sym (never_found c.self.inside.slots.items place (hash_map_len c.self.inside.places) c.args.id c.self.invariant.0 none) ∙ ap (λ (v : Kept). lookup (nat_eq c.args.id) v.pairs) c.self.view_is
