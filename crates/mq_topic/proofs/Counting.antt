-- The number of nodes of a trie: each node represents the first levels of some filter.
use Rattle.std.proofs.Common.{◌≡◌, ◌⊎◌, inl, inr, ℕ, zero, suc, ◌+◌, ◌≤◌, List, [], ◌∷◌, ◌++◌, length, get_or, map, Option, Some, None, IsSome, is_some, count_by, sum_by, refl, sym, ap, subst, ◌∙◌, arith, zero-add, length-append, Bool, true, false, cond}
use Rattle.std.proofs.lemmas.List.Sums.{sum_by-cons}
use Rattle.slab.specs.Slab.{slab_len}
use Rattle.std.specs.Option.{option_map}
use Rattle.std.specs.Ordering.{eq_by_cmp, is_eq}
use Rattle.std.specs.declared.cmp.Ordering.{Ordering}
use Rattle.std.specs.declared.cmp.Ordering.TheVariants.{Equal, Greater, Less}
use Rattle.mq_topic.specs.Rows.{Key, Row, key_cmp, row_qos}
use Rattle.mq_topic.specs.Topic.{levels}
use Rattle.mq_topic.specs.Tree.{IsRowPath, IsTrieOf, Leads, Tree}
use Rattle.mq_topic.specs.TrieView.{link_in, node_of, tree}
use Rattle.mq_topic.specs.declared.qos.Qos.{Qos}
use Rattle.mq_topic.specs.declared.trie_nodes.Node.{Node}
use Rattle.mq_topic.specs.declared.trie_nodes.NodeId.{NodeId}
use Rattle.mq_topic.specs.declared.trie_nodes.Trie.{Trie}
use Rattle.mq_topic.proofs.Keys.{key_cmp-same}

-- ---- a list has a path

In : List (List ℕ) → List (List (List ℕ)) → Type 0
In p [] = ⊥
In p (x ∷ xs) = (p ≡ x) ⊎ In p xs

in_first : (p : List (List ℕ)) (xs ys : List (List (List ℕ))) → In p xs → In p (xs ++ ys)
unfolding In
in_first p [] ys h = absurd h
in_first p (x ∷ xs) ys (inl e) = inl e
in_first p (x ∷ xs) ys (inr h) = inr (in_first p xs ys h)

in_second : (p : List (List ℕ)) (xs ys : List (List (List ℕ))) → In p ys → In p (xs ++ ys)
unfolding In
in_second p [] ys h = h
in_second p (x ∷ xs) ys h = inr (in_second p xs ys h)

-- the first levels of a path, at least one
begun : List (List ℕ) → List (List (List ℕ))
begun [] = []
begun (l ∷ path) = (l ∷ []) ∷ map (λ (p : List (List ℕ)). l ∷ p) (begun path)

in_map : (l : List ℕ) (p : List (List ℕ)) (xs : List (List (List ℕ))) → In p xs → In (l ∷ p) (map (λ (q : List (List ℕ)). l ∷ q) xs)
unfolding In
in_map l p [] h = absurd h
in_map l p (x ∷ xs) (inl e) = inl (ap (λ (q : List (List ℕ)). l ∷ q) e)
in_map l p (x ∷ xs) (inr h) = inr (in_map l p xs h)

begun_has : (l : List ℕ) (path rest : List (List ℕ)) → In (l ∷ path) (begun (l ∷ path ++ rest))
unfolding In begun
begun_has l [] rest = inl refl
begun_has l (m ∷ path) rest = inr (in_map l (m ∷ path) (begun (m ∷ path ++ rest)) (begun_has m path rest))

length-map_on : (l : List ℕ) (xs : List (List (List ℕ))) → length (map (λ (p : List (List ℕ)). l ∷ p) xs) ≡ length xs
length-map_on l [] = refl
length-map_on l (x ∷ xs) = ap (λ n. suc n) (length-map_on l xs)

length-begun : (path : List (List ℕ)) → length (begun path) ≡ length path
unfolding begun
length-begun [] = refl
length-begun (l ∷ path) = ap (λ n. suc n) (length-map_on l (begun path) ∙ length-begun path)

all_begun : List Row → List (List (List ℕ))
all_begun [] = []
all_begun (r ∷ rows) = begun (levels r.0.1) ++ all_begun rows

length-all : (rows : List Row) → length (all_begun rows) ≡ sum_by (λ r. length (levels r.0.1)) rows
unfolding all_begun
length-all [] = refl
length-all (r ∷ rows) =
    length-append (begun (levels r.0.1)) (all_begun rows) ∙ (λ i. length-begun (levels r.0.1) i + length-all rows i) ∙ sym (sum_by-cons (λ (x : Row). length (levels x.0.1)) r rows)

row_has-by : (c : ℕ) (f : List ℕ) (q : Qos) (r : Row) (rows : List Row) (p : List (List ℕ)) (same : Bool) → eq_by_cmp key_cmp (c, f) r.0 ≡ same → cond same (Some r.1) (row_qos c f rows) ≡ Some q
    → In p (begun (levels f)) → ((row_qos c f rows ≡ Some q) → In p (all_begun rows)) → In p (begun (levels r.0.1) ++ all_begun rows)
row_has-by c f q r rows p true key e h tail =
    let same = key_cmp-same (c, f) r.0 (equal (key_cmp (c, f) r.0) key) in
    in_first p (begun (levels r.0.1)) (all_begun rows) (subst (λ (k : Key). In p (begun (levels k.1))) same h)
  where
    equal : (o : Ordering) → is_eq o ≡ true → o ≡ Equal
    equal Less e = absurd cc
    equal Equal e = refl
    equal Greater e = absurd cc
row_has-by c f q r rows p false key e h tail = in_second p (begun (levels r.0.1)) (all_begun rows) (tail e)

-- a row's path begins with these
row_has : (c : ℕ) (f : List ℕ) (q : Qos) (rows : List Row) (p : List (List ℕ)) → row_qos c f rows ≡ Some q → In p (begun (levels f)) → In p (all_begun rows)
unfolding all_begun
row_has c f q [] p e h = absurd cc
row_has c f q (r ∷ rows) p e h = row_has-by c f q r rows p (eq_by_cmp key_cmp (c, f) r.0) refl e h (λ tail. row_has c f q rows p tail h)

-- ---- as many places as paths

bind : Option NodeId → (NodeId → Option NodeId) → Option NodeId
bind None f = None
bind (Some k) f = f k

descend : Tree → Option NodeId → List (List ℕ) → Option NodeId
descend t at [] = at
descend t at (l ∷ path) = bind (t.child at l) (λ k. descend t (Some k) path)

descends : (t : Tree) (at to : Option NodeId) (path : List (List ℕ)) → Leads t at path to → descend t at path ≡ to
unfolding descend bind
descends t at to [] h = h
descends t at to (l ∷ path) h = ap (λ o. bind o (λ k. descend t (Some k) path)) h.1 ∙ descends t (Some h.0) to path h.2

clear : List (Option Node) → ℕ → List (Option Node)
clear [] k = []
clear (x ∷ xs) zero = None ∷ xs
clear (x ∷ xs) (suc k) = x ∷ clear xs k

clear_here : (xs : List (Option Node)) (k : ℕ) → get_or (clear xs k) k None ≡ None
unfolding clear
clear_here [] k = refl
clear_here (x ∷ xs) zero = refl
clear_here (x ∷ xs) (suc k) = clear_here xs k

clear_other : (xs : List (Option Node)) (k i : ℕ) → (i ≡ k → ⊥) → get_or (clear xs k) i None ≡ get_or xs i None
unfolding clear
clear_other [] k i ne = refl
clear_other (x ∷ xs) zero zero ne = absurd (ne refl)
clear_other (x ∷ xs) zero (suc i) ne = refl
clear_other (x ∷ xs) (suc k) zero ne = refl
clear_other (x ∷ xs) (suc k) (suc i) ne = clear_other xs k i (λ e. ne (ap (λ n. suc n) e))

pub count_first : (x : Option Node) (xs : List (Option Node)) → count_by is_some (x ∷ xs) ≡ cond (is_some x) 1 0 + count_by is_some xs
count_first x xs = sum_by-cons (λ (y : Option Node). cond (is_some y) 1 0) x xs

count_clear : (xs : List (Option Node)) (k : ℕ) → count_by is_some xs ≤ 1 + count_by is_some (clear xs k)
unfolding clear
count_clear [] k = omega arith
count_clear (None ∷ xs) zero = omega arith
count_clear (Some n ∷ xs) zero = omega (arith, count_first (Some n) xs, count_first None xs)
count_clear (None ∷ xs) (suc k) = omega (arith, count_clear xs k, count_first None xs, count_first None (clear xs k))
count_clear (Some n ∷ xs) (suc k) = omega (arith, count_clear xs k, count_first (Some n) xs, count_first (Some n) (clear xs k))

none_count : (xs : List (Option Node)) → ((i : ℕ) → get_or xs i None ≡ None) → count_by is_some xs ≡ 0
none_count [] h = refl
none_count (None ∷ xs) h = count_first None xs ∙ zero-add (count_by is_some xs) ∙ none_count xs (λ i. h (suc i))
none_count (Some n ∷ xs) h = absurd (let e = h 0 in cc)

abbrev pub number : ℕ → NodeId
number i = record { 0 = i }

pub number_of : (k : NodeId) (i : ℕ) → Some k ≡ Some (number i) → i ≡ k.0
number_of k i e = let same : k ≡ record { 0 = i } = cc in sym (ap (λ (x : NodeId). x.0) same)

counted : (t : Tree) (paths : List (List (List ℕ))) (xs : List (Option Node))
    → ((i : ℕ) → IsSome (get_or xs i None) → (p : List (List ℕ)) × In p paths × (descend t None p ≡ Some (number i))) → count_by is_some xs ≤ length paths
unfolding In
counted t [] xs h = omega (arith, none_count xs (λ i. empty (get_or xs i None) (λ some. (h i some).1)))
  where
    empty : (o : Option Node) → (IsSome o → ⊥) → o ≡ None
    empty None never = refl
    empty (Some n) never = absurd (never refl)
counted t (p ∷ paths) xs h = one (descend t None p) refl (λ ys g. counted t paths ys g)
  where
    other : (o : Option NodeId) → descend t None p ≡ o → (i : ℕ) → (o ≡ Some (number i) → ⊥) → (w : (q : List (List ℕ)) × In q (p ∷ paths) × (descend t None q ≡ Some (number i)))
        → (q : List (List ℕ)) × In q paths × (descend t None q ≡ Some (number i))
    other o e i ne w = elim (w.1) [
      | inl same ↦ absurd (ne (sym e ∙ ap (descend t None) (sym same) ∙ w.2))
      | inr more ↦ (w.0, more, w.2)
    ]

    one : (o : Option NodeId) → descend t None p ≡ o
        → ((ys : List (Option Node)) → ((i : ℕ) → IsSome (get_or ys i None) → (q : List (List ℕ)) × In q paths × (descend t None q ≡ Some (number i))) → count_by is_some ys ≤ length paths)
        → count_by is_some xs ≤ length (p ∷ paths)
    one None e rest = let less = rest xs (λ i some. other None e i (λ c. cc) (h i some)) in omega arith
    one (Some k) e rest =
        let less = rest (clear xs k.0) (λ i some.
        let ne : i ≡ k.0 → ⊥ = λ same. (let gone : is_some (get_or (clear xs k.0) i None) ≡ false = ap (λ j. is_some (get_or (clear xs k.0) j None)) same ∙ ap is_some (clear_here xs k.0) in let never : ⊥ = cc in never) in
        let was : IsSome (get_or xs i None) = ap is_some (sym (clear_other xs k.0 i ne)) ∙ some in
        other (Some k) e i (λ same. ne (number_of k i same)) (h i was)) in
        omega (arith, count_clear xs k.0)

pub node_bound : (rows : List Row) (trie : Trie) → IsTrieOf (λ c f. row_qos c f rows) (tree trie) → slab_len trie.nodes ≤ sum_by (λ r. length (levels r.0.1)) rows
node_bound rows trie h = subst (λ n. slab_len trie.nodes ≤ n) (length-all rows) (counted (tree trie) (all_begun rows) trie.nodes.slots (λ i some. placed i (some_link (node_of trie (number i)) some)))
  where
    some_link : (o : Option Node) → IsSome o → IsSome (option_map link_in o)
    some_link None some = some
    some_link (Some n) some = refl

    placed : (i : ℕ) → IsSome (option_map link_in (node_of trie (number i))) → (p : List (List ℕ)) × In p (all_begun rows) × (descend (tree trie) None p ≡ Some (number i))
    placed i some =
        let w = h.needed (number i) some in
        by_path w.0 w.1 w.2 w.3
      where
        by_path : (path rest : List (List ℕ)) → Leads (tree trie) None path (Some (number i)) → IsRowPath (λ c f. row_qos c f rows) (path ++ rest)
            → (p : List (List ℕ)) × In p (all_begun rows) × (descend (tree trie) None p ≡ Some (number i))
        by_path [] rest leads r = absurd cc
        by_path (l ∷ path) rest leads r =
            (l ∷ path, row_has r.0 r.1 r.2 rows (l ∷ path) r.3 (subst (λ ls. In (l ∷ path) (begun ls)) (sym r.4) (begun_has l path rest)), descends (tree trie) None (Some (number i)) (l ∷ path) leads)
