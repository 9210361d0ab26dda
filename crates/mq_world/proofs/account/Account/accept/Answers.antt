use Rattle.std.proofs.Common.{◌≡◌, ℕ, ◌∷◌, ◌++◌, [], List, length, Some, cond, eqb, ap, sym, ◌∙◌, nat_eq, rules}
use Rattle.std.specs.HashMap.{get}
use Rattle.mq_packet.specs.declared.message.Message.{Message}
use Rattle.mq_world.specs.Half.{last_place}
use Rattle.mq_world.proofs.Accounts.{places_more}
use Rattle.mq_world.proofs.account.Account.accept.Goals as goal

pub invariant_of-self-in-Q1-Some : goal.invariant_of-self-in-Q1-Some
invariant_of-self-in-Q1-Some c =
    let given = c.args.self.now.accepted_at_least_once.items in
    let p : ℕ × Message = (c.in-Q1-Some.id, c.args.message) in
    let list : c.push_reserved.new.self.items ≡ given ++ p ∷ [] =
    c.push_reserved.ensures.items ∙ ap (λ (xs : List (ℕ × Message)). xs ++ p ∷ []) c.reserve.ensures.items in
    record {
      last_places = λ i.
          let before = get nat_eq c.args.self.now.places i in
          let put : get nat_eq c.insert.new.self i ≡ cond (eqb c.get.result i) (Some c.len-place.result) before =
          c.in_ok-insert-in-Q1-Some.ensures.updates.0 i in
          let same : c.len-place.result ≡ length given = search rules in
          let updates : get nat_eq c.insert.new.self i ≡ cond (eqb c.in-Q1-Some.id i) (Some (length given)) before =
          put ∙ ap (λ (k : ℕ). cond (eqb k i) (Some c.len-place.result) before) c.get.ensures.value ∙
          ap (λ (n : ℕ). cond (eqb c.in-Q1-Some.id i) (Some n) before) same in
          places_more i given p (get nat_eq c.args.self.now.places i) (get nat_eq c.insert.new.self i) (c.args.self.now.last_places i) updates ∙
          sym (ap (last_place i) list);
    }
