-- Queries of the nodes after one of them changed.
use Rattle.std.proofs.Common.{◌≡◌, inl, inr, ℕ, Bool, true, false, List, Option, Some, None, IsSome, refl, sym, ap, subst, ◌∙◌}
use Rattle.std.specs.Arc.{arc_str_bytes}
use Rattle.std.specs.Bool.{MatchBool}
use Rattle.std.specs.Option.{option_map, option_map_or}
use Rattle.std.specs.Ordering.{is_eq, nat_cmp}
use Rattle.std.specs.Str.{bytes_eq}
use Rattle.std.proofs.lemmas.Bool.{ne_eqb}
use Rattle.std.proofs.lemmas.Cmp.{nat_cmp_total, tied_itself}
use Rattle.slab.specs.Slab.{Slab, Updates, get, with_value}
use Rattle.slab.proofs.SlabLemmas.{Updates-with_value}
use Rattle.mq_topic.specs.NodeView.{child_in, client_in}
use Rattle.mq_topic.specs.Tree.{Cut, IsPlace}
use Rattle.mq_topic.specs.Inside.Tree.{ChildIs, ClientIs, Grown, IsBare, IsUsed, SameTree}
use Rattle.mq_topic.specs.TrieView.{child_at, child_of, client_at, client_of, link_in, node_of, tree}
use Rattle.mq_topic.specs.declared.qos.Qos.{Qos}
use Rattle.mq_topic.specs.declared.trie_nodes.Node.{Node}
use Rattle.mq_topic.specs.declared.trie_nodes.NodeId.{NodeId}
use Rattle.mq_topic.specs.declared.trie_nodes.Trie.{Trie}
use Rattle.mq_topic.proofs.Keys.{nat_ties}
use Rattle.mq_topic.proofs.Paths.{same_number}
use Rattle.mq_topic.proofs.Standard.{same_bytes}

-- ---- levels, and clients as keys

bytes_differ-by : (l m : List ℕ) (r : Bool) → bytes_eq l m ≡ r → (l ≡ m → ⊥) → r ≡ false
bytes_differ-by l m true e ne = absurd (ne (same_bytes l m e))
bytes_differ-by l m false e ne = refl

pub bytes_differ : (l m : List ℕ) → (l ≡ m → ⊥) → bytes_eq l m ≡ false
bytes_differ l m ne = bytes_differ-by l m (bytes_eq l m) refl ne

-- the test of a client
abbrev pub is_client : ℕ → ℕ → Bool
is_client c d = is_eq (nat_cmp c d)

pub is_client-other : (c d : ℕ) → (c ≡ d → ⊥) → is_client c d ≡ false
is_client-other c d ne = sym (nat_ties c d) ∙ ne_eqb c d ne

pub is_client-itself : (c : ℕ) → is_client c c ≡ true
is_client-itself c = ap is_eq (tied_itself nat_cmp_total c)

-- ---- one node changes

module _ (old new : Trie) (k : NodeId) (n m : Node) (was : node_of old k ≡ Some n) (u : Updates old.nodes new.nodes k.0 (Some m)) where
  other_node : (j : NodeId) → (j ≡ k → ⊥) → node_of new j ≡ node_of old j
  other_node j ne = u.others j.0 (λ e. ne (λ i. record { 0 = e i }))

  -- A query of the changed node that is unchanged is unchanged for every node.
  read : {A : Type 0} (f : Option Node → A) → f (Some m) ≡ f (Some n) → (j : NodeId) → f (node_of new j) ≡ f (node_of old j)
  read f e j =
      elim (same_number j k) [
        | inl s ↦ ap (λ x. f (node_of new x)) s ∙ ap f u.changed ∙ e ∙ sym (ap f was) ∙ sym (ap (λ x. f (node_of old x)) s)
        | inr ne ↦ ap f (other_node j ne)
      ]

  pub child_is : (top : new.top ≡ old.top) → link_in m ≡ link_in n → m.clients ≡ n.clients
      → (level : List ℕ) (x : Option NodeId) → child_at level m ≡ x → ((l : List ℕ) → (l ≡ level → ⊥) → child_at l m ≡ child_at l n)
      → ChildIs (Some k) level x (tree old) (tree new)
  child_is top link clients level x here there = record {
    link = read (option_map link_in) (ap (λ y. Some y) link);
    same = ap (λ (o : Option Node). option_map_or (child_at level) o None) u.changed ∙ here;
    others = others;
    client = λ j c. read (λ o. option_map_or (client_at c) o None) (ap (client_in c) clients) j;
  }
    where
      others : (a : Option NodeId) (l : List ℕ) → ((a ≡ Some k) × (l ≡ level) → ⊥) → child_of new a l ≡ child_of old a l
      others None l ne = ap (child_in l) top
      others (Some j) l ne =
          elim (same_number j k) [
            | inl s ↦ read (λ o. option_map_or (child_at l) o None) (there l (λ e. ne (ap (λ (y : NodeId). Some y) s, e))) j
            | inr differs ↦ ap (λ (o : Option Node). option_map_or (child_at l) o None) (other_node j differs)
          ]

  pub client_is : (top : new.top ≡ old.top) → link_in m ≡ link_in n → m.children ≡ n.children
      → (c : ℕ) (x : Option Qos) → client_at c m ≡ x → ((d : ℕ) → (d ≡ c → ⊥) → client_at d m ≡ client_at d n)
      → ClientIs k c x (tree old) (tree new)
  client_is top link children c x here there = record {
    link = read (option_map link_in) (ap (λ y. Some y) link);
    child = child;
    client = ap (λ (o : Option Node). option_map_or (client_at c) o None) u.changed ∙ here;
    others = λ j d ne. elim (same_number j k) [
      | inl s ↦ read (λ o. option_map_or (client_at d) o None) (there d (λ e. ne (s, e))) j
      | inr differs ↦ ap (λ (o : Option Node). option_map_or (client_at d) o None) (other_node j differs)
    ];
  }
    where
      child : (a : Option NodeId) (l : List ℕ) → child_of new a l ≡ child_of old a l
      child None l = ap (child_in l) top
      child (Some j) l = read (λ o. option_map_or (child_at l) o None) (ap (child_in l) children) j

  pub same_is : (top : new.top ≡ old.top) → link_in m ≡ link_in n → ((l : List ℕ) → child_in l m.children ≡ child_in l n.children) → ((c : ℕ) → client_in c m.clients ≡ client_in c n.clients)
      → SameTree (tree old) (tree new)
  same_is top link children clients = record {
    link = read (option_map link_in) (ap (λ y. Some y) link);
    child = child;
    client = λ j c. read (λ o. option_map_or (client_at c) o None) (clients c) j;
  }
    where
      child : (a : Option NodeId) (l : List ℕ) → child_of new a l ≡ child_of old a l
      child None l = ap (child_in l) top
      child (Some j) l = read (λ o. option_map_or (child_at l) o None) (children l) j

pub some_is : (o : Option Node) (n : Node) → Some n ≡ o → IsSome o
some_is None n e = absurd cc
some_is (Some m) n e = refl

pub written : (t : Trie) (k : NodeId) (n m : Node) → Some n ≡ node_of t k → Updates t.nodes (with_value t.nodes k.0 m) k.0 (Some m)
written t k n m e = Updates-with_value t.nodes k.0 m (some_is (node_of t k) n e)

-- the trie with a node in another's place
abbrev pub put_node : Trie → NodeId → Node → Trie
put_node t k m = record t { nodes = with_value t.nodes k.0 m }

-- the root's children change
pub top_is : (old new : Trie) → new.nodes ≡ old.nodes → (level : List ℕ) (x : Option NodeId) → child_of new None level ≡ x
    → ((l : List ℕ) → (l ≡ level → ⊥) → child_of new None l ≡ child_of old None l) → ChildIs None level x (tree old) (tree new)
top_is old new same level x here there = record {
  link = λ k. ap (λ (s : Slab Node). option_map link_in (get s k.0)) same;
  same = here;
  others = others;
  client = λ k c. ap (λ (s : Slab Node). option_map_or (client_at c) (get s k.0) None) same;
}
  where
    others : (a : Option NodeId) (l : List ℕ) → ((a ≡ None) × (l ≡ level) → ⊥) → child_of new a l ≡ child_of old a l
    others None l ne = there l (λ e. ne (refl, e))
    others (Some j) l ne = ap (λ (s : Slab Node). option_map_or (child_at l) (get s j.0) None) same

-- the root's children are found as before
pub top_same : (old new : Trie) → new.nodes ≡ old.nodes → ((l : List ℕ) → child_of new None l ≡ child_of old None l) → SameTree (tree old) (tree new)
top_same old new same there = record {
  link = λ k. ap (λ (s : Slab Node). option_map link_in (get s k.0)) same;
  child = child;
  client = λ k c. ap (λ (s : Slab Node). option_map_or (client_at c) (get s k.0) None) same;
}
  where
    child : (a : Option NodeId) (l : List ℕ) → child_of new a l ≡ child_of old a l
    child None l = there l
    child (Some j) l = ap (λ (s : Slab Node). option_map_or (child_at l) (get s j.0) None) same

-- ---- a node more

module _ (old mid : Trie) (k : NodeId) (n : Node) (top : mid.top ≡ old.top) (absent : node_of old k ≡ None) (u : Updates old.nodes mid.nodes k.0 (Some n))
    (no_children : (l : List ℕ) → child_in l n.children ≡ None) (no_clients : (c : ℕ) → client_in c n.clients ≡ None) where
  beside : (j : NodeId) → (j ≡ k → ⊥) → node_of mid j ≡ node_of old j
  beside j ne = u.others j.0 (λ e. ne (λ i. record { 0 = e i }))

  -- A query of the new node is that of no node.
  read_new : {A : Type 0} (f : Option Node → A) → f (Some n) ≡ f None → (j : NodeId) → f (node_of mid j) ≡ f (node_of old j)
  read_new f e j =
      elim (same_number j k) [
        | inl s ↦ ap (λ x. f (node_of mid x)) s ∙ ap f u.changed ∙ e ∙ sym (ap f absent) ∙ sym (ap (λ x. f (node_of old x)) s)
        | inr ne ↦ ap f (beside j ne)
      ]

  mid_child : (a : Option NodeId) (l : List ℕ) → child_of mid a l ≡ child_of old a l
  mid_child None l = ap (child_in l) top
  mid_child (Some j) l = read_new (λ o. option_map_or (child_at l) o None) (no_children l) j

  mid_client : (j : NodeId) (c : ℕ) → client_of mid j c ≡ client_of old j c
  mid_client j c = read_new (λ o. option_map_or (client_at c) o None) (no_clients c) j

  pub grown_is : (new : Trie) (at : Option NodeId) (level : List ℕ) → link_in n ≡ (at, level) → ChildIs at level (Some k) (tree mid) (tree new) → Grown at level k (tree old) (tree new)
  grown_is new at level link g = record {
    fresh = ap (option_map link_in) absent;
    link = g.link k ∙ ap (option_map link_in) u.changed ∙ ap (λ (x : Option NodeId × List ℕ). Some x) link;
    links = λ j ne. g.link j ∙ ap (option_map link_in) (beside j ne);
    same = g.same;
    others = λ a l ne. g.others a l ne ∙ mid_child a l;
    client = λ j c. g.client j c ∙ mid_client j c;
  }

  pub undone_is : (post new : Trie) → SameTree (tree mid) (tree post) → new.top ≡ post.top → Updates post.nodes new.nodes k.0 None → SameTree (tree old) (tree new)
  undone_is post new same last v = record { link = link; child = child; client = client }
    where
      after : {A : Type 0} (f : Option Node → A) (j : NodeId) → f None ≡ f (node_of old k) → (f (node_of post j) ≡ f (node_of old j)) → f (node_of new j) ≡ f (node_of old j)
      after f j none kept =
          elim (same_number j k) [
            | inl s ↦ ap (λ x. f (node_of new x)) s ∙ ap f v.changed ∙ none ∙ sym (ap (λ x. f (node_of old x)) s)
            | inr ne ↦ ap f (v.others j.0 (λ e. ne (λ i. record { 0 = e i }))) ∙ kept
          ]

      at_mid : (j : NodeId) → (j ≡ k → ⊥) → option_map link_in (node_of mid j) ≡ option_map link_in (node_of old j)
      at_mid j ne = ap (option_map link_in) (beside j ne)

      link : (j : NodeId) → option_map link_in (node_of new j) ≡ option_map link_in (node_of old j)
      link j =
          elim (same_number j k) [
            | inl s ↦ ap (λ x. option_map link_in (node_of new x)) s ∙ ap (option_map link_in) v.changed ∙ sym (ap (option_map link_in) absent) ∙ sym (ap (λ x. option_map link_in (node_of old x)) s)
            | inr ne ↦ ap (option_map link_in) (v.others j.0 (λ e. ne (λ i. record { 0 = e i }))) ∙ same.link j ∙ at_mid j ne
          ]

      child : (a : Option NodeId) (l : List ℕ) → child_of new a l ≡ child_of old a l
      child None l = ap (child_in l) last ∙ same.child None l ∙ mid_child None l
      child (Some j) l = after (λ o. option_map_or (child_at l) o None) j (sym (ap (λ (o : Option Node). option_map_or (child_at l) o None) absent)) (same.child (Some j) l ∙ mid_child (Some j) l)

      client : (j : NodeId) (c : ℕ) → client_of new j c ≡ client_of old j c
      client j c = after (λ o. option_map_or (client_at c) o None) j (sym (ap (λ (o : Option Node). option_map_or (client_at c) o None) absent)) (same.client j c ∙ mid_client j c)

-- ---- a node less

pub cut_is : (old mid new : Trie) (k : NodeId) (n : Node) → Some n ≡ node_of old k → mid.top ≡ old.top → Updates old.nodes mid.nodes k.0 None → IsBare (tree old) k
    → ChildIs n.parent (arc_str_bytes n.level) None (tree mid) (tree new) → Cut n.parent (arc_str_bytes n.level) k (tree old) (tree new)
cut_is old mid new k n was top u bare g = record {
  link = g.link k ∙ ap (option_map link_in) u.changed;
  links = λ j ne. g.link j ∙ ap (option_map link_in) (u.others j.0 (λ e. ne (λ i. record { 0 = e i })));
  same = g.same;
  others = λ a l ne. g.others a l ne ∙ mid_child a l;
  client = λ j c. g.client j c ∙ gone (λ o. option_map_or (client_at c) o None) j (sym (bare.client c));
}
  where
    gone : {A : Type 0} (f : Option Node → A) (j : NodeId) → f None ≡ f (node_of old k) → f (node_of mid j) ≡ f (node_of old j)
    gone f j none =
        elim (same_number j k) [
          | inl s ↦ ap (λ x. f (node_of mid x)) s ∙ ap f u.changed ∙ none ∙ sym (ap (λ x. f (node_of old x)) s)
          | inr ne ↦ ap f (u.others j.0 (λ e. ne (λ i. record { 0 = e i })))
        ]

    mid_child : (a : Option NodeId) (l : List ℕ) → child_of mid a l ≡ child_of old a l
    mid_child None l = ap (child_in l) top
    mid_child (Some j) l = gone (λ o. option_map_or (child_at l) o None) j (sym (bare.child l))

-- ---- a node with nothing

pub bare_is : (t : Trie) (k : NodeId) (n : Node) → Some n ≡ node_of t k → ((l : List ℕ) → child_in l n.children ≡ None) → ((c : ℕ) → client_in c n.clients ≡ None) → IsBare (tree t) k × IsPlace (tree t) (Some k)
bare_is t k n was children clients = (
  record {
    child = λ l. sym (ap (λ (o : Option Node). option_map_or (child_at l) o None) was) ∙ children l;
    client = λ c. sym (ap (λ (o : Option Node). option_map_or (client_at c) o None) was) ∙ clients c;
  },
  subst (λ (o : Option Node). IsSome (option_map link_in o)) was refl,
)

pub used_by_child : (t : Trie) (k : NodeId) (n : Node) → Some n ≡ node_of t k → (l : List ℕ) × IsSome (child_in l n.children) → IsUsed (tree t) k
used_by_child t k n was w = inl (w.0, subst (λ (o : Option Node). IsSome (option_map_or (child_at w.0) o None)) was w.1)

pub used_by_client : (t : Trie) (k : NodeId) (n : Node) → Some n ≡ node_of t k → (c : ℕ) × IsSome (client_in c n.clients) → IsUsed (tree t) k
used_by_client t k n was w = inr (w.0, subst (λ (o : Option Node). IsSome (option_map_or (client_at w.0) o None)) was w.1)

pub bare-by : (t : Trie) (k : NodeId) (n : Node) (r : Bool) → Some n ≡ node_of t k → ((l : List ℕ) → child_in l n.children ≡ None)
    → MatchBool r ((c : ℕ) → client_in c n.clients ≡ None) ((c : ℕ) × IsSome (client_in c n.clients))
    → MatchBool r (IsBare (tree t) k × IsPlace (tree t) (Some k)) (IsPlace (tree t) (Some k) → IsUsed (tree t) k)
bare-by t k n true was children h = bare_is t k n was children h
bare-by t k n false was children h = λ _. used_by_client t k n was h

pub used-by : (t : Trie) (k : NodeId) (n : Node) (r : Bool) → Some n ≡ node_of t k → r ≡ false
    → MatchBool r ((l : List ℕ) → child_in l n.children ≡ None) ((l : List ℕ) × IsSome (child_in l n.children))
    → MatchBool r (IsBare (tree t) k × IsPlace (tree t) (Some k)) (IsPlace (tree t) (Some k) → IsUsed (tree t) k)
used-by t k n true was e h = absurd cc
used-by t k n false was e h = λ _. used_by_child t k n was h
