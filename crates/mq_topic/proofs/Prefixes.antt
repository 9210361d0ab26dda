-- A trie has a node for each distinct prefix of its rows' levels.
use Rattle.std.proofs.Common.{◌≡◌, ◌⊎◌, inl, inr, ℕ, zero, suc, List, [], ◌∷◌, ◌++◌, length, get_or, Option, Some, None, IsSome, is_some, count_by, refl, sym, ap, subst, arith}
use Rattle.std.specs.Prelude.{◌≢◌, All, AllPairs, Contains}
use Rattle.std.specs.Option.{option_map}
use Rattle.std.proofs.lemmas.List.Elements.{Contains-get_or}
use Rattle.std.proofs.lemmas.List.Kept.{AllPairs-cons}
use Rattle.slab.specs.Slab.{slab_len}
use Rattle.mq_topic.specs.Prefixes.{IsPrefix, Path, PrefixCount}
use Rattle.mq_topic.specs.Rows.{Row, row_qos}
use Rattle.mq_topic.specs.Tree.{IsRowPath, IsTrieOf, Leads, Tree}
use Rattle.mq_topic.specs.TrieView.{link_in, node_of, tree}
use Rattle.mq_topic.specs.declared.qos.Qos.{Qos}
use Rattle.mq_topic.specs.declared.trie_nodes.Node.{Node}
use Rattle.mq_topic.specs.declared.trie_nodes.NodeId.{NodeId}
use Rattle.mq_topic.specs.declared.trie_nodes.Trie.{Trie}
use Rattle.mq_topic.proofs.Counting.{count_first, number, number_of}
use Rattle.mq_topic.proofs.Paths.{not_root, once, path_once, place_of}

-- ---- Members of a list

contains_first : (p : Path) (ps : List Path) → Contains (p ∷ ps) p
contains_first p ps = (0, omega arith, refl)

contains_more : (p q : Path) (ps : List Path) → Contains ps q → Contains (p ∷ ps) q
contains_more p q ps h = (suc h.0, omega arith, h.2)

first_or_more : (p q : Path) (ps : List Path) → Contains (p ∷ ps) q → (q ≡ p) ⊎ Contains ps q
first_or_more p q ps (zero, lt, e) = inl (sym e)
first_or_more p q ps (suc k, lt, e) = inr (k, omega arith, e)

-- ---- One path for each used slot

-- A used slot has a path with this property.
abbrev Placed : (ℕ → Path → Type 0) → List (Option Node) → Type 0
Placed P xs = (i : ℕ) → IsSome (get_or xs i None) → (p : Path) × P i p

-- The paths of the used slots, each once.
record Listed (P : ℕ → Path → Type 0) (xs : List (Option Node)) : Type 0 where
  paths : List Path
  count : length paths ≡ count_by is_some xs
  distinct : AllPairs (λ a b. a ≢ b) paths
  sound : (p : Path) → Contains paths p → (i : ℕ) × P i p
  complete : (i : ℕ) → IsSome (get_or xs i None) → (p : Path) × P i p × Contains paths p

abbrev later : (ℕ → Path → Type 0) → ℕ → Path → Type 0
later P i p = P (suc i) p

skip_slot : (P : ℕ → Path → Type 0) (xs : List (Option Node)) → Listed (later P) xs → Listed P (None ∷ xs)
skip_slot P xs rest = record {
  paths = rest.paths;
  count = omega (arith, rest.count, count_first None xs);
  distinct = rest.distinct;
  sound = λ p h. let w = rest.sound p h in (suc w.0, w.1);
  complete = complete;
}
  where
    complete : (i : ℕ) → IsSome (get_or (None ∷ xs) i None) → (p : Path) × P i p × Contains rest.paths p
    complete zero some = absurd cc
    complete (suc i) some = rest.complete i some

add_slot : (P : ℕ → Path → Type 0) (one : (p : Path) (i j : ℕ) → P i p → P j p → i ≡ j) (n : Node) (xs : List (Option Node)) (first : Path) → P 0 first
    → Listed (later P) xs → Listed P (Some n ∷ xs)
add_slot P one n xs first here rest = record {
  paths = first ∷ rest.paths;
  count = omega (arith, rest.count, count_first (Some n) xs);
  distinct = AllPairs-cons (λ a b. a ≢ b) first rest.paths differs rest.distinct;
  sound = λ p h. elim (first_or_more first p rest.paths h) [
    | inl same ↦ (0, subst (P 0) (sym same) here)
    | inr more ↦ (suc (rest.sound p more).0, (rest.sound p more).1)
  ];
  complete = complete;
}
  where
    differs : All (λ b. first ≢ b) rest.paths
    differs k d within same =
        let w = rest.sound (get_or rest.paths k d) (Contains-get_or rest.paths k d within) in
        let e = one (get_or rest.paths k d) 0 (suc w.0) (subst (P 0) same here) w.1 in
        omega arith

    complete : (i : ℕ) → IsSome (get_or (Some n ∷ xs) i None) → (p : Path) × P i p × Contains (first ∷ rest.paths) p
    complete zero some = (first, here, contains_first first rest.paths)
    complete (suc i) some = let w = rest.complete i some in (w.0, w.1, contains_more first w.0 rest.paths w.2)

listed : (P : ℕ → Path → Type 0) (one : (p : Path) (i j : ℕ) → P i p → P j p → i ≡ j) (xs : List (Option Node)) → Placed P xs → Listed P xs
listed P one [] placed = record {
  paths = [];
  count = refl;
  distinct = λ i j d lt within. absurd (omega arith);
  sound = λ p h. absurd (let within = h.1 in omega arith);
  complete = λ i some. absurd cc;
}
listed P one (None ∷ xs) placed = skip_slot P xs (listed (later P) (λ p i j a b. omega (arith, one p (suc i) (suc j) a b)) xs (λ i some. placed (suc i) some))
listed P one (Some n ∷ xs) placed = add_slot P one n xs (placed 0 refl).0 (placed 0 refl).1 (listed (later P) (λ p i j a b. omega (arith, one p (suc i) (suc j) a b)) xs (λ i some. placed (suc i) some))

-- ---- The nodes of a trie

module _ (rows : List Row) (trie : Trie) (h : IsTrieOf (λ c f. row_qos c f rows) (tree trie)) where
  abbrev t : Tree
  t = tree trie

  -- A prefix leads to the node of a slot.
  abbrev IsOf : ℕ → Path → Type 0
  IsOf i p = Leads t None p (Some (number i)) × IsPrefix rows p

  one_slot : (p : Path) (i j : ℕ) → IsOf i p → IsOf j p → i ≡ j
  one_slot p i j a b = sym (number_of (number i) j (once t None (Some (number i)) (Some (number j)) p a.0 b.0))

  used : (o : Option Node) → IsSome o → IsSome (option_map link_in o)
  used None some = some
  used (Some n) some = refl

  unused : (o : Option Node) → IsSome (option_map link_in o) → IsSome o
  unused None some = some
  unused (Some n) some = refl

  has_row : (o : Option Qos) (q : Qos) → o ≡ Some q → IsSome o
  has_row o q e = ap is_some e

  prefix_of : (path rest : Path) (k : NodeId) → Leads t None path (Some k) → IsRowPath (λ c f. row_qos c f rows) (path ++ rest) → IsPrefix rows path
  prefix_of [] rest k leads r = absurd cc
  prefix_of (l ∷ path) rest k leads r = (r.0, r.1, rest, has_row (row_qos r.0 r.1 rows) r.2 r.3, r.4, λ e. cc)

  placed : Placed IsOf trie.nodes.slots
  placed i some =
      let w = h.needed (number i) (used (node_of trie (number i)) some) in
      (w.0, (w.2, prefix_of w.0 w.1 (number i) w.2 w.3))

  -- The first levels of a path lead somewhere.
  begins : (a b : Option NodeId) (p q : Path) → Leads t a (p ++ q) b → (m : Option NodeId) × Leads t a p m
  begins a b [] q g = (a, refl)
  begins a b (l ∷ p) q g = let w = begins (Some g.0) b p q g.2 in (w.0, (g.0, g.1, w.1))

  -- At least one level leads to a node.
  node_at : (p : Path) (m : Option NodeId) → (p ≢ []) → Leads t None p m → (k : NodeId) × Leads t None p (Some k)
  node_at [] m ne g = absurd (ne refl)
  node_at (l ∷ p) None ne g = absurd (not_root t g.0 p g.2)
  node_at (l ∷ p) (Some k) ne g = (k, g)

  all : Listed IsOf trie.nodes.slots
  all = listed IsOf one_slot trie.nodes.slots placed

  some_row : (o : Option Qos) → IsSome o → (q : Qos) × (o ≡ Some q)
  some_row None some = absurd cc
  some_row (Some q) some = (q, refl)

  prefix_is_listed : (p : Path) → IsPrefix rows p → Contains all.paths p
  prefix_is_listed p w =
      let qos = some_row (row_qos w.0 w.1 rows) w.3 in
      let row = h.stands.row w.0 w.1 qos.0 qos.1 in
      let start = begins None (Some row.0) p w.2 (subst (λ ls. Leads t None ls (Some row.0)) w.4 row.1) in
      let node = node_at p start.0 w.5 start.1 in
      let place : IsSome (t.link node.0) = place_of t h.linked None (Some node.0) p tt node.1 in
      let slot = all.complete node.0.0 (unused (node_of trie node.0) place) in
      subst (λ x. Contains all.paths x) (path_once t h.linked (Some node.0) slot.0 p slot.1.0 node.1) slot.2

  pub prefix_count : PrefixCount rows (slab_len trie.nodes)
  prefix_count = record {
    paths = all.paths;
    prefixes = λ p. (λ c. (all.sound p c).1.1, λ w. prefix_is_listed p w);
    distinct = all.distinct;
    length = all.count;
  }
