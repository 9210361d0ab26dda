-- The members of a set of numbers after an insertion and a removal.
use Rattle.std.proofs.Common.{◌≡◌, ℕ, Bool, true, false, not, cond, ◌&&◌, ◌||◌, List, [], ◌∷◌, length, refl, sym, ap, subst, ◌∙◌}
use Rattle.std.specs.List.{list_any}
use Rattle.std.proofs.lemmas.Bool.{ne_eqb, eqb-true}
use Rattle.std.specs.FinSet.{FinSet, empty, insert, remove, contains, from_list, same_set, nat_cmp-IsAntisymmetric, contains-empty, contains-insert, contains-remove, contains-from_list}
use Rattle.std.specs.Ordering.{nat_cmp, eq_by_cmp}
use Rattle.std.specs.Cmp.{unsigned_tied, nat_cmp_total, nat_eq_equiv}
use Rattle.mq_packet.specs.Identifier.{IsIdentifier}
use Rattle.mq_flow.specs.Receiver.{AreIdentifiers}
use Rattle.mq_flow.specs.Laws.{ReceiverLaws}
use Rattle.mq_flow.proofs.Counting.{eqb_self}

pub insert_same : (S : FinSet nat_cmp) (i : ℕ) → contains (insert S i) i ≡ true
insert_same S i = contains-insert nat_cmp_total S i i ∙ ap (λ b. b || contains S i) (unsigned_tied i i ∙ eqb_self i)

pub insert_other : (S : FinSet nat_cmp) (i j : ℕ) → (j ≡ i → ⊥) → contains (insert S i) j ≡ contains S j
insert_other S i j n = contains-insert nat_cmp_total S i j ∙ ap (λ b. b || contains S j) (unsigned_tied j i ∙ ne_eqb j i n)

pub remove_same : (S : FinSet nat_cmp) (i : ℕ) → contains (remove S i) i ≡ false
remove_same S i = contains-remove nat_cmp_total S i i ∙ ap (λ b. not b && contains S i) (unsigned_tied i i ∙ eqb_self i)

pub remove_other : (S : FinSet nat_cmp) (i j : ℕ) → (j ≡ i → ⊥) → contains (remove S i) j ≡ contains S j
remove_other S i j n = contains-remove nat_cmp_total S i j ∙ ap (λ b. not b && contains S j) (unsigned_tied j i ∙ ne_eqb j i n)

pub receiver : ReceiverLaws
receiver = record {
  at_first = λ i. ap not (contains-empty nat_cmp i);
  stored = λ i r. ap not (insert_same r i);
  forgotten = λ i r. ap not (remove_same r i);
  others_stored = λ i j r n. ap not (insert_other r i j n);
  others_forgotten = λ i j r n. ap not (remove_other r i j n);
}

-- ---- the keys of a tree as a set

tied_symmetric : (q i : ℕ) → eq_by_cmp nat_cmp i q ≡ eq_by_cmp nat_cmp q i
tied_symmetric q i = unsigned_tied i q ∙ nat_eq_equiv.symm i q ∙ sym (unsigned_tied q i)

pub keys_inserted : (ks ns : List ℕ) (i : ℕ) → ((q : ℕ) → list_any (eq_by_cmp nat_cmp q) ns ≡ cond (eq_by_cmp nat_cmp i q) true (list_any (eq_by_cmp nat_cmp q) ks)) → from_list {R = nat_cmp} ns ≡ insert (from_list ks) i
keys_inserted ks ns i h =
    same_set nat_cmp_total nat_cmp-IsAntisymmetric (from_list ns) (insert (from_list ks) i)
    (λ q.
    contains-from_list nat_cmp_total ns q
    ∙ h q
    ∙ ap (λ b. cond b true (list_any (eq_by_cmp nat_cmp q) ks)) (tied_symmetric q i)
    ∙ sym (contains-insert nat_cmp_total (from_list ks) i q ∙ ap (λ b. eq_by_cmp nat_cmp q i || b) (contains-from_list nat_cmp_total ks q) ∙ either (eq_by_cmp nat_cmp q i) (list_any (eq_by_cmp nat_cmp q) ks)))
  where
    either : (a b : Bool) → (a || b) ≡ cond a true b
    either true b = refl
    either false b = refl

pub keys_removed : (ks ns : List ℕ) (i : ℕ) → ((q : ℕ) → list_any (eq_by_cmp nat_cmp q) ns ≡ cond (eq_by_cmp nat_cmp i q) false (list_any (eq_by_cmp nat_cmp q) ks)) → from_list {R = nat_cmp} ns ≡ remove (from_list ks) i
keys_removed ks ns i h =
    same_set nat_cmp_total nat_cmp-IsAntisymmetric (from_list ns) (remove (from_list ks) i)
    (λ q.
    contains-from_list nat_cmp_total ns q
    ∙ h q
    ∙ ap (λ b. cond b false (list_any (eq_by_cmp nat_cmp q) ks)) (tied_symmetric q i)
    ∙ sym (contains-remove nat_cmp_total (from_list ks) i q ∙ ap (λ b. not (eq_by_cmp nat_cmp q i) && b) (contains-from_list nat_cmp_total ks q) ∙ but (eq_by_cmp nat_cmp q i) (list_any (eq_by_cmp nat_cmp q) ks)))
  where
    but : (a b : Bool) → (not a && b) ≡ cond a false b
    but true b = refl
    but false b = refl

-- the keys are identifiers after an insertion of one, and after a removal
pub identifiers_inserted : (ks ns : List ℕ) (i : ℕ) → ((q : ℕ) → list_any (eq_by_cmp nat_cmp q) ns ≡ cond (eq_by_cmp nat_cmp i q) true (list_any (eq_by_cmp nat_cmp q) ks)) → IsIdentifier i → AreIdentifiers ks → AreIdentifiers ns
identifiers_inserted ks ns i h id are q e =
    elim (eq_by_cmp nat_cmp i q) as (λ b. eq_by_cmp nat_cmp i q ≡ b → cond b true (list_any (eq_by_cmp nat_cmp q) ks) ≡ true → IsIdentifier q) [
      | true ↦ λ t _. subst IsIdentifier (eqb-true i q (sym (unsigned_tied i q) ∙ t)) id
      | false ↦ λ _ there. are q there
    ] refl (sym (h q) ∙ e)

pub identifiers_removed : (ks ns : List ℕ) (i : ℕ) → ((q : ℕ) → list_any (eq_by_cmp nat_cmp q) ns ≡ cond (eq_by_cmp nat_cmp i q) false (list_any (eq_by_cmp nat_cmp q) ks)) → AreIdentifiers ks → AreIdentifiers ns
identifiers_removed ks ns i h are q e =
    elim (eq_by_cmp nat_cmp i q) as (λ b. cond b false (list_any (eq_by_cmp nat_cmp q) ks) ≡ true → IsIdentifier q) [
      | true ↦ λ clash. absurd cc
      | false ↦ λ there. are q there
    ] (sym (h q) ∙ e)

pub no_keys : (ks : List ℕ) → from_list {R = nat_cmp} ks ≡ empty → length ks ≡ 0
no_keys [] e = refl
no_keys (k ∷ ks) e =
    let one = insert_same (from_list ks) k in
    let none = contains-empty nat_cmp k in
    let s = ap (λ (t : FinSet nat_cmp). contains t k) e in
    let clash : true ≡ false = sym one ∙ s ∙ none in
    absurd cc
