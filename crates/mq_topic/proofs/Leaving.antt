-- The rows of a client are taken away one by one.
use Rattle.std.proofs.Common.{◌≡◌, ℕ, Bool, true, false, ◌&&◌, cond, eqb, T, List, [], ◌∷◌, Some, None, refl, sym, ap, ◌∙◌, eqb-true}
use Rattle.std.specs.Cmp.Lexicographic.{slice_cmp}
use Rattle.std.specs.FinMap.{find, is_sorted}
use Rattle.std.specs.FinMap.Entries.{below_all}
use Rattle.std.specs.Ordering.{is_eq, is_lt, nat_cmp}
use Rattle.std.proofs.lemmas.Cmp.{eq_by_cmp_equiv, nat_cmp_total, nat_list_cmp_total}
use Rattle.mq_topic.specs.Tree.{IsTrieOf, RowMap, Tree, without}
use Rattle.mq_topic.specs.Inside.Tree.{without_all}
use Rattle.mq_topic.specs.declared.qos.Qos.{Qos}
use Rattle.mq_topic.proofs.Changes.{trie_rows}
use Rattle.mq_topic.proofs.ClientMaps.{equal_number, is_filter, key_parts}
use Rattle.mq_topic.proofs.Keys.{nat_ties}
use Rattle.mq_topic.proofs.Nodes.{is_client}
use Rattle.mq_topic.proofs.Placing.{first, less, second}

-- the rows of the others, and those of the remaining client
abbrev pub left_of : RowMap → ℕ → List (List ℕ × Qos) → RowMap
left_of row c rest d g = cond (is_client c d) (find (slice_cmp nat_cmp) g rest) (row d g)

-- a filter below all is none of them
absent : (f g : List ℕ) (es : List (List ℕ × Qos)) → is_filter f g ≡ true → T (below_all (slice_cmp nat_cmp) f es) → find (slice_cmp nat_cmp) g es ≡ None
absent f g [] e h = refl
absent f g (x ∷ es) e h =
    let lt = less (slice_cmp nat_cmp f x.0) (first (is_lt (slice_cmp nat_cmp f x.0)) (below_all (slice_cmp nat_cmp) f es) h) in
    let same : is_filter g x.0 ≡ is_filter f x.0 = sym ((eq_by_cmp_equiv nat_list_cmp_total).congr f g x.0 e) in
    ap (λ b. cond b (Some x.1) (find (slice_cmp nat_cmp) g es)) (same ∙ ap is_eq lt) ∙ absent f g es e (second (is_lt (slice_cmp nat_cmp f x.0)) (below_all (slice_cmp nat_cmp) f es) h)

module _ (row : RowMap) (c : ℕ) (f : List ℕ) (q : Qos) (rest : List (List ℕ × Qos)) (s : T (is_sorted (slice_cmp nat_cmp) ((f, q) ∷ rest))) where
  one-by : (d : ℕ) (g : List ℕ) (a b : Bool) → is_filter f g ≡ b → cond (a && b) None (cond a (cond (is_filter g f) (Some q) (find (slice_cmp nat_cmp) g rest)) (row d g)) ≡ cond a (find (slice_cmp nat_cmp) g rest) (row d g)
  one-by d g false b e = refl
  one-by d g true true e = sym (absent f g rest e (first (below_all (slice_cmp nat_cmp) f rest) (is_sorted (slice_cmp nat_cmp) rest) s))
  one-by d g true false e = ap (λ x. cond x (Some q) (find (slice_cmp nat_cmp) g rest)) ((eq_by_cmp_equiv nat_list_cmp_total).symm g f ∙ e)

  one_less : (d : ℕ) (g : List ℕ) → without c f (left_of row c ((f, q) ∷ rest)) d g ≡ left_of row c rest d g
  one_less d g =
      ap (λ b. cond b None (left_of row c ((f, q) ∷ rest) d g)) (key_parts d g c f)
      ∙ one-by d g (is_client c d) (is_filter f g) refl

  pub leaves_one : (t : Tree) → IsTrieOf (without c f (left_of row c ((f, q) ∷ rest))) t → IsTrieOf (left_of row c rest) t
  leaves_one t h = trie_rows (without c f (left_of row c ((f, q) ∷ rest))) (left_of row c rest) t one_less h

-- all of them are left
all-by : (row : RowMap) (c d : ℕ) (g : List ℕ) (own : List (List ℕ × Qos)) (b : Bool) → is_client c d ≡ b → row c g ≡ find (slice_cmp nat_cmp) g own → row d g ≡ cond b (find (slice_cmp nat_cmp) g own) (row d g)
all-by row c d g own true e h = ap (λ x. row x g) (sym (equal_number c d e)) ∙ h
all-by row c d g own false e h = refl

pub leaves_all : (row : RowMap) (c : ℕ) (own : List (List ℕ × Qos)) (t : Tree) → ((g : List ℕ) → row c g ≡ find (slice_cmp nat_cmp) g own) → IsTrieOf row t → IsTrieOf (left_of row c own) t
leaves_all row c own t h trie = trie_rows row (left_of row c own) t (λ d g. all-by row c d g own (is_client c d) refl (h g)) trie

-- none is left
pub leaves_none : (row : RowMap) (c : ℕ) (t : Tree) → IsTrieOf (left_of row c []) t → IsTrieOf (without_all c row) t
leaves_none row c t h = trie_rows (left_of row c []) (without_all c row) t (λ d g. ap (λ b. cond b None (row d g)) ((eq_by_cmp_equiv nat_cmp_total).symm c d ∙ sym (nat_ties d c))) h

pub no_rows : (row : RowMap) (c : ℕ) → ((g : List ℕ) → row c g ≡ None) → (d : ℕ) (g : List ℕ) → row d g ≡ without_all c row d g
no_rows row c none d g = by_client (eqb d c) refl
  where
    by_client : (b : Bool) → eqb d c ≡ b → row d g ≡ cond b None (row d g)
    by_client true e = ap (λ x. row x g) (eqb-true d c e) ∙ none g
    by_client false e = refl
