use Rattle.std.proofs.Common.{◌≡◌, ◌⊎◌, inl, inr, ℕ, Option, None, Some, nat_eq, Bool, true, false, cond, eqb, eqb-true, refl, sym, ap, subst, ◌∙◌}
use Rattle.std.specs.HashMap.{get}
use Rattle.std.specs.Option.{option_eq}
use Rattle.mq_loop.proofs.notes.remove_client.Goals as goal

is_some_of : (x : Option ℕ) (place : ℕ) → option_eq nat_eq x (Some place) ≡ true → x ≡ Some place
is_some_of None place e = absurd cc
is_some_of (Some y) place e = ap Some (eqb-true y place e)

removed : (key place n : ℕ) (f g : ℕ → Option ℕ) → f key ≡ Some place → g n ≡ cond (eqb key n) None (f n) → (g n ≡ f n) ⊎ ((g n ≡ None) × (f n ≡ Some place))
removed key place n f g at is = go (eqb key n) refl
  where
    go : (b : Bool) → eqb key n ≡ b → (g n ≡ f n) ⊎ ((g n ≡ None) × (f n ≡ Some place))
    go true e =
        let same : key ≡ n = eqb-true key n e in
        inr (is ∙ ap (λ (b : Bool). cond b None (f n)) e, subst (λ (k : ℕ). f k ≡ Some place) same at)
    go false e = inl (is ∙ ap (λ (b : Bool). cond b None (f n)) e)

pub returns-then-eq : goal.returns-then-eq
returns-then-eq c n =
    let old = c.args.clients.now in
    let here = is_some_of c.copied.result c.args.place (sym c.eq.ensures ∙ c.if-eq.true) in
    removed c.args.key c.args.place n (get nat_eq old) (get nat_eq c.remove.new.self)
    (sym (c.copied.ensures ∙ c.get.ensures.value) ∙ here) (c.remove.ensures.updates.0 n)
