-- Turns in the order of their connections' ages.
use Rattle.std.proofs.Common.{◌≡◌, ◌≤◌, ◌==◌, ℕ, Bool, true, false, cond, true≢false, refl, sym, ap, ◌∙◌, arith}
use Rattle.std.proofs.lemmas.Bool.Decides.{nat_tests}
use Rattle.std.specs.declared.cmp.Ordering.{Ordering}
use Rattle.std.specs.declared.cmp.Ordering.TheVariants.{Less, Equal, Greater}
use Rattle.std.specs.Ordering.{is_lt, nat_cmp, ordering_then}
use Rattle.std.specs.Prelude.{nat_lt}

-- a turn that is not before another one is not older
pub older : (a b : ℕ) (places : Ordering) → is_lt (ordering_then (nat_cmp a b) places) ≡ false → b ≤ a
older a b places h = go (nat_lt a b) refl
  where
    go : (t : Bool) → nat_lt a b ≡ t → b ≤ a
    go true e = absurd (true≢false (sym (ap (λ (t : Bool). is_lt (ordering_then (cond t Less (cond (a == b) Equal Greater)) places)) e) ∙ h))
    go false e = grind (arith, nat_tests)
