-- The order of the keys of rows.
use Rattle.std.proofs.Common.{◌≡◌, ℕ, Bool, ◌&&◌, nat_eq, ltb, eqb, true, false, cond, refl, sym, ◌∙◌, ltb-true, eqb-true, arith}
use Rattle.std.proofs.lemmas.Cmp.{nat_cmp_total, nat_list_cmp_total, on_total, then_total}
use Rattle.std.specs.Cmp.{IsTotalOrder}
use Rattle.std.specs.Cmp.Lexicographic.{pointwise, slice_cmp, texts_ties}
use Rattle.std.specs.FinMap.{IsAntisymmetric, nat_cmp-IsAntisymmetric, slice_cmp-IsAntisymmetric}
use Rattle.std.specs.Ordering.{is_eq, nat_cmp, ordering_then}
use Rattle.std.specs.declared.cmp.Ordering.{Ordering}
use Rattle.std.specs.declared.cmp.Ordering.TheVariants.{Less, Equal, Greater}
use Rattle.mq_topic.specs.Rows.{Key, key_cmp}

pub key_cmp-total : IsTotalOrder key_cmp
key_cmp-total = then_total (on_total (λ k. k.0) nat_cmp_total) (on_total (λ k. k.1) nat_list_cmp_total)

-- keys that tie are the same
pub key_cmp-same : IsAntisymmetric key_cmp
key_cmp-same x y e = parts (nat_cmp x.0 y.0) (slice_cmp nat_cmp x.1 y.1) refl refl e
  where
    parts : (r s : Ordering) → nat_cmp x.0 y.0 ≡ r → slice_cmp nat_cmp x.1 y.1 ≡ s → ordering_then r s ≡ Equal → x ≡ y
    parts Less s p q h = absurd cc
    parts Greater s p q h = absurd cc
    parts Equal s p q h = λ i. (nat_cmp-IsAntisymmetric x.0 y.0 p i, slice_cmp-IsAntisymmetric nat_cmp-IsAntisymmetric x.1 y.1 (q ∙ h) i)

nat_ties-by : (a b : ℕ) (less same : Bool) → ltb a b ≡ less → eqb a b ≡ same → same ≡ is_eq (cond less Less (cond same Equal Greater))
nat_ties-by a b true true p q = absurd (omega (arith, ltb-true a b p, eqb-true a b q))
nat_ties-by a b true false p q = refl
nat_ties-by a b false true p q = refl
nat_ties-by a b false false p q = refl

pub nat_ties : (a b : ℕ) → eqb a b ≡ is_eq (nat_cmp a b)
nat_ties a b = nat_ties-by a b (ltb a b) (eqb a b) refl refl

eq-then : (r s : Ordering) → is_eq (ordering_then r s) ≡ (is_eq r && is_eq s)
eq-then Less s = refl
eq-then Equal s = refl
eq-then Greater s = refl

-- the equality of the program's keys is that of the order
pub key_ties : (x y : Key) → (eqb x.0 y.0 && pointwise nat_eq x.1 y.1) ≡ is_eq (key_cmp x y)
key_ties x y =
    (λ i. nat_ties x.0 y.0 i && texts_ties x.1 y.1 i) ∙ sym (eq-then (nat_cmp x.0 y.0) (slice_cmp nat_cmp x.1 y.1))
