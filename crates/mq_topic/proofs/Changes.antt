-- The rows that a trie represents after each change.
use Rattle.std.proofs.Common.{◌≡◌, ◌⊎◌, inl, inr, ℕ, ◌<◌, Bool, true, false, cond, List, [], ◌∷◌, ◌++◌, length, Option, Some, None, IsSome, refl, sym, ap, subst, ◌∙◌, arith, append_assoc}
use Rattle.std.specs.List.{join_with_byte}
use Rattle.std.specs.Ordering.{is_eq}
use Rattle.std.specs.declared.cmp.Ordering.{Ordering}
use Rattle.std.specs.declared.cmp.Ordering.TheVariants.{Less, Equal, Greater}
use Rattle.std.proofs.lemmas.Bool.{cases_eq}
use Rattle.std.proofs.lemmas.Cmp.{tied_itself}
use Rattle.std.proofs.lemmas.List.Splits.{join_with_byte-slice_split}
use Rattle.mq_topic.proofs.Keys.{key_cmp-same, key_cmp-total}
use Rattle.mq_topic.specs.Rows.{Key, is_key, key_cmp}
use Rattle.mq_topic.specs.Topic.{levels}
use Rattle.mq_topic.specs.Tree.{Cut, IsLinked, IsNeeded, IsPlace, IsRowPath, IsTrieOf, Leads, RowMap, StandsFor, Tree, without}
use Rattle.mq_topic.specs.Inside.Tree.{ClientIs, Grown, IsBare, IsTrieUpTo, IsUsed, SameTree, row_with}
use Rattle.mq_topic.specs.declared.qos.Qos.{Qos}
use Rattle.mq_topic.specs.declared.trie_nodes.NodeId.{NodeId}
use Rattle.std.specs.Str.{bytes_eq}
use Rattle.mq_topic.proofs.Standard.{bytes_eq-itself, same_bytes}
use Rattle.mq_topic.proofs.Fitting.{levels_some}
use Rattle.mq_topic.proofs.Paths.{Link, append_nil, is_some-some, join, last, leads_same, longer, not_root, not_some, once, parts, path_once, rest, same_number}

-- ---- nothing changes

same_tree : (old new : Tree) → SameTree old new → new ≡ old
same_tree old new s = λ i. record { link = λ k. s.link k i; child = λ at l. s.child at l i; client = λ k c. s.client k c i }

pub trie_same : (row : RowMap) (old new : Tree) → SameTree old new → IsTrieOf row old → IsTrieOf row new
trie_same row old new s h = subst (IsTrieOf row) (sym (same_tree old new s)) h

pub up_to_same : (at : Option NodeId) (row : RowMap) (old new : Tree) → SameTree old new → IsTrieUpTo at row old → IsTrieUpTo at row new
up_to_same at row old new s h = subst (IsTrieUpTo at row) (sym (same_tree old new s)) h

pub trie_rows : (row other : RowMap) (t : Tree) → ((c : ℕ) (f : List ℕ) → row c f ≡ other c f) → IsTrieOf row t → IsTrieOf other t
trie_rows row other t same h = subst (λ r. IsTrieOf r t) (λ i c f. same c f i) h

pub up_to_rows : (at : Option NodeId) (row other : RowMap) (t : Tree) → ((c : ℕ) (f : List ℕ) → row c f ≡ other c f) → IsTrieUpTo at row t → IsTrieUpTo at other t
up_to_rows at row other t same h = subst (λ r. IsTrieUpTo at r t) (λ i c f. same c f i) h

-- ---- one place on

-- a trie is one up to each place that it has
pub up_to_root : (row : RowMap) (t : Tree) → IsTrieOf row t → IsTrieUpTo None row t
up_to_root row t h = record {
  linked = h.linked;
  stands = h.stands;
  leads = ([], refl);
  needed = λ k some. let w = h.needed k some in (w.0, w.1, w.2, inr w.3);
}

-- the place is that of a child
pub up_to_child : (at : Option NodeId) (l : List ℕ) (k : NodeId) (row : RowMap) (t : Tree) → t.child at l ≡ Some k → IsTrieUpTo at row t → IsTrieUpTo (Some k) row t
up_to_child at l k row t child h = record {
  linked = h.linked;
  stands = h.stands;
  leads = (h.leads.0 ++ l ∷ [], join t None at (Some k) h.leads.0 (l ∷ []) h.leads.1 (k, child, refl));
  needed = λ j some.
      let w = h.needed j some in
      elim (w.3) [
        | inl e ↦
            let on = join t None at (Some k) (w.0 ++ w.1) (l ∷ []) e (k, child, refl) in
            (w.0, w.1 ++ l ∷ [], w.2, inl (subst (λ p. Leads t None p (Some k)) (append_assoc w.0 w.1 (l ∷ [])) on))
        | inr path ↦ (w.0, w.1, w.2, inr path)
      ];
}

-- ---- a new node

same_place : (a b : Option NodeId) → (a ≡ b) ⊎ (a ≡ b → ⊥)
same_place None None = inl refl
same_place None (Some k) = inr (λ e. cc)
same_place (Some j) None = inr (λ e. cc)
same_place (Some j) (Some k) =
    elim (same_number j k) [
      | inl e ↦ inl (ap (λ (n : NodeId). Some n) e)
      | inr ne ↦ inr (λ e. ne cc)
    ]

same_level-by : (l m : List ℕ) (r : Bool) → bytes_eq l m ≡ r → (l ≡ m) ⊎ (l ≡ m → ⊥)
same_level-by l m true e = inl (same_bytes l m e)
same_level-by l m false e = inr (λ same. let h : bytes_eq l m ≡ true = subst (λ x. bytes_eq l x ≡ true) same (bytes_eq-itself l) in cc)

pub same_level : (l m : List ℕ) → (l ≡ m) ⊎ (l ≡ m → ⊥)
same_level l m = same_level-by l m (bytes_eq l m) refl

same_step : (a b : Option NodeId) (l m : List ℕ) → ((a ≡ b) × (l ≡ m)) ⊎ ((a ≡ b) × (l ≡ m) → ⊥)
same_step a b l m =
    elim (same_place a b) [
      | inl e ↦ elim (same_level l m) [
        | inl f ↦ inl (e, f)
        | inr ne ↦ inr (λ h. ne h.1)
      ]
      | inr ne ↦ inr (λ h. ne h.0)
    ]

module _ (at : Option NodeId) (level : List ℕ) (k : NodeId) (old new : Tree) (linked : IsLinked old) (place : IsPlace old at) (none : old.child at level ≡ None) (g : Grown at level k old new) where
  -- An old child still exists.
  child_up : (a : Option NodeId) (l : List ℕ) (j : NodeId) → old.child a l ≡ Some j → new.child a l ≡ Some j
  child_up a l j e = g.others a l (λ same. let clash : None ≡ Some j = sym none ∙ (λ i. old.child (sym same.0 i) (sym same.1 i)) ∙ e in cc) ∙ e

  pub leads_up : (a b : Option NodeId) (p : List (List ℕ)) → Leads old a p b → Leads new a p b
  leads_up a b [] h = h
  leads_up a b (l ∷ p) h = (h.0, child_up a l h.0 h.1, leads_up (Some h.0) b p h.2)

  -- A child that exists now existed before, or is the new one.
  child_down : (a : Option NodeId) (l : List ℕ) (j : NodeId) → new.child a l ≡ Some j → (same : (a ≡ at) × (l ≡ level) → ⊥) → old.child a l ≡ Some j
  child_down a l j e differs = sym (g.others a l differs) ∙ e

  is_not_new : (j : NodeId) → IsSome (old.link j) → j ≡ k → ⊥
  is_not_new j some e = not_some (old.link j) (ap old.link e ∙ g.fresh) some

  place_up : (a : Option NodeId) → IsPlace old a → IsPlace new a
  place_up None h = tt
  place_up (Some j) h = subst (λ (o : Option (Option NodeId × List ℕ)). IsSome o) (sym (g.links j (is_not_new j h))) h

  grown_linked : IsLinked new
  grown_linked = record {
    child = λ a l j e. elim (same_step a at l level) [
      | inl same ↦
          let number : Some k ≡ Some j = sym g.same ∙ (λ i. new.child (sym same.0 i) (sym same.1 i)) ∙ e in
          let same_number : k ≡ j = cc in
          let here : new.link j ≡ Some (at, level) = sym (ap new.link same_number) ∙ g.link in
          here ∙ (λ i. Some (sym same.0 i, sym same.1 i))
      | inr differs ↦
          let was = child_down a l j e differs in
          let link = linked.child a l j was in
          g.links j (λ e. let clash : None ≡ Some (a, l) = sym g.fresh ∙ ap old.link (sym e) ∙ link in cc) ∙ link
    ];
    place = λ a l j e. elim (same_step a at l level) [
      | inl same ↦ subst (IsPlace new) (sym same.0) (place_up at place)
      | inr differs ↦ place_up a (linked.place a l j (child_down a l j e differs))
    ];
  }

  grown_stands : (row : RowMap) → StandsFor row old → StandsFor row new
  grown_stands row h = record {
    row = λ c f q e. let w = h.row c f q e in (w.0, leads_up None (Some w.0) (levels f) w.1, g.client w.0 c ∙ w.2);
    client = λ j c q e. let w = h.client j c q (sym (g.client j c) ∙ e) in (w.0, leads_up None (Some j) (levels w.0) w.1, w.2);
  }

  pub grown_up_to : (row : RowMap) → IsTrieUpTo at row old → IsTrieUpTo (Some k) row new
  grown_up_to row h =
      let to_k : Leads new at (level ∷ []) (Some k) = (k, g.same, refl) in
      let path = h.leads.0 in
      let leads : Leads new None (path ++ level ∷ []) (Some k) = join new None at (Some k) path (level ∷ []) (leads_up None at path h.leads.1) to_k in
      record {
        linked = grown_linked;
        stands = grown_stands row h.stands;
        leads = (path ++ level ∷ [], leads);
        needed = λ j some. elim (same_number j k) [
          | inl e ↦
              let here : Leads new None (path ++ level ∷ []) (Some j) = subst (λ x. Leads new None (path ++ level ∷ []) (Some x)) (sym e) leads in
              (path ++ level ∷ [], [], here, inl (subst (λ p. Leads new None p (Some k)) (sym (append_nil (path ++ level ∷ []))) leads))
          | inr ne ↦
              let w = h.needed j (subst (λ (o : Option (Option NodeId × List ℕ)). IsSome o) (g.links j ne) some) in
              elim (w.3) [
                | inl e ↦
                    let on = join new None at (Some k) (w.0 ++ w.1) (level ∷ []) (leads_up None at (w.0 ++ w.1) e) to_k in
                    (w.0, w.1 ++ level ∷ [], leads_up None (Some j) w.0 w.2, inl (subst (λ p. Leads new None p (Some k)) (append_assoc w.0 w.1 (level ∷ [])) on))
                | inr p ↦ (w.0, w.1, leads_up None (Some j) w.0 w.2, inr p)
              ]
        ];
      }

  pub grown_places : IsLinked new × IsPlace new (Some k)
  grown_places = (grown_linked, is_some-some (new.link k) (at, level) g.link)

-- ---- a node less

module _ (at : Option NodeId) (level : List ℕ) (k : NodeId) (old new : Tree) (linked : IsLinked old) (bare : IsBare old k) (link : old.link k ≡ Some (at, level)) (g : Cut at level k old new) where
  child_kept : (a : Option NodeId) (l : List ℕ) (j : NodeId) → old.child a l ≡ Some j → (j ≡ k → ⊥) → (old.child at level ≡ Some k) → new.child a l ≡ Some j
  child_kept a l j e ne here =
      g.others a l (λ same. ne (let both : Some j ≡ Some k = sym e ∙ (λ i. old.child (same.0 i) (same.1 i)) ∙ here in cc)) ∙ e

  leads_kept : (old.child at level ≡ Some k) → (a b : Option NodeId) (p : List (List ℕ)) → Leads old a p b → (b ≡ Some k → ⊥) → Leads new a p b
  leads_kept here a b [] h ne = h
  leads_kept here a b (l ∷ p) h ne =
      (h.0, child_kept a l h.0 h.1 (λ e. passes b p (subst (λ x. Leads old (Some x) p b) e h.2) ne) here, leads_kept here (Some h.0) b p h.2 ne)
    where
      passes : (b : Option NodeId) (p : List (List ℕ)) → Leads old (Some k) p b → (b ≡ Some k → ⊥) → ⊥
      passes b [] h ne = ne (sym h)
      passes b (m ∷ p) h ne = absurd (let e = sym (bare.child m) ∙ h.1 in cc)

  was : (a : Option NodeId) (l : List ℕ) (j : NodeId) → new.child a l ≡ Some j → old.child a l ≡ Some j
  was a l j e =
      sym (g.others a l (λ same. let clash : None ≡ Some j = sym g.same ∙ (λ i. new.child (sym same.0 i) (sym same.1 i)) ∙ e in cc)) ∙ e

  not_cut : (a : Option NodeId) (l : List ℕ) (j : NodeId) → new.child a l ≡ Some j → j ≡ k → ⊥
  not_cut a l j e same =
      let up = parts (Some (a, l)) (Some (at, level)) (sym (linked.child a l j (was a l j e)) ∙ ap old.link same ∙ link) in
      let from : a ≡ at = up.0 in
      let here : l ≡ level = up.1 in
      let clash : None ≡ Some j = sym g.same ∙ (λ i. new.child (sym from i) (sym here i)) ∙ e in
      cc

  cut_place : (a : Option NodeId) → IsPlace old a → (a ≡ Some k → ⊥) → IsPlace new a
  cut_place None h ne = tt
  cut_place (Some j) h ne = subst (λ (o : Option (Option NodeId × List ℕ)). IsSome o) (sym (g.links j (λ e. ne (ap (λ (n : NodeId). Some n) e)))) h

  not_below : (a : Option NodeId) (l : List ℕ) (j : NodeId) → old.child a l ≡ Some j → a ≡ Some k → ⊥
  not_below a l j e same = let clash : None ≡ Some j = sym (bare.child l) ∙ ap (λ x. old.child x l) (sym same) ∙ e in cc

  cut_linked : IsLinked new
  cut_linked = record {
    child = λ a l j e. g.links j (not_cut a l j e) ∙ linked.child a l j (was a l j e);
    place = λ a l j e. cut_place a (linked.place a l j (was a l j e)) (not_below a l j (was a l j e));
  }

  not_client : (j : NodeId) (c : ℕ) (q : Qos) → old.client j c ≡ Some q → Some j ≡ Some k → ⊥
  not_client j c q e same =
      let number : j ≡ k = cc in
      let clash : None ≡ Some q = sym (bare.client c) ∙ ap (λ x. old.client x c) (sym number) ∙ e in
      cc

  cut_stands : (old.child at level ≡ Some k) → (row : RowMap) → StandsFor row old → StandsFor row new
  cut_stands here row h = record {
    row = λ c f q e.
        let w = h.row c f q e in
        (w.0, leads_kept here None (Some w.0) (levels f) w.1 (not_client w.0 c q w.2), g.client w.0 c ∙ w.2);
    client = λ j c q e.
        let held = sym (g.client j c) ∙ e in
        let w = h.client j c q held in
        (w.0, leads_kept here None (Some j) (levels w.0) w.1 (not_client j c q held), w.2);
  }

  -- The levels that lead to the node, without its own.
  cut_front : (row : RowMap) → IsTrieUpTo (Some k) row old → (front : List (List ℕ)) × Leads old None front at × (old.child at level ≡ Some k)
  cut_front row h =
      elim (last old None k h.leads.0 h.leads.1) [
        | inl e ↦ absurd (let clash = e.1 in cc)
        | inr w ↦
            let up = parts (Some (w.1, w.2)) (Some (at, level)) (sym (linked.child w.1 w.2 k w.5) ∙ link) in
            let from : w.1 ≡ at = up.0 in
            let here : w.2 ≡ level = up.1 in
            (w.0, subst (λ a. Leads old None w.0 a) from w.4, (λ i. old.child (sym from i) (sym here i)) ∙ w.5)
      ]

  cut_needed : (row : RowMap) → IsTrieUpTo (Some k) row old → (old.child at level ≡ Some k)
      → IsNeeded new (λ path. Leads new None path at ⊎ IsRowPath row path)
  cut_needed row h here j some =
      let ne : j ≡ k → ⊥ = λ e. not_some (new.link j) (ap new.link e ∙ g.link) some in
      let w = h.needed j (subst (λ (o : Option (Option NodeId × List ℕ)). IsSome o) (g.links j ne) some) in
      let leads = leads_kept here None (Some j) w.0 w.2 (λ e. ne cc) in
      elim (w.3) [
        | inl e ↦
            elim (last old (Some j) k w.1 (rest old None (Some j) (Some k) w.0 w.1 e w.2)) [
              | inl stop ↦ absurd (ne (let same = stop.1 in cc))
              | inr v ↦
                  let up = parts (Some (v.1, v.2)) (Some (at, level)) (sym (linked.child v.1 v.2 k v.5) ∙ link) in
                  let from : v.1 ≡ at = up.0 in
                  let on = join old None (Some j) at w.0 v.0 w.2 (subst (λ a. Leads old (Some j) v.0 a) from v.4) in
                  (w.0, v.0, leads, inl (leads_kept here None at (w.0 ++ v.0) on (not_below at level k here)))
            ]
        | inr p ↦ (w.0, w.1, leads, inr p)
      ]

  pub cut_up_to : (row : RowMap) → IsTrieUpTo (Some k) row old → IsTrieUpTo at row new
  cut_up_to row h =
      let front = cut_front row h in
      record {
        linked = cut_linked;
        stands = cut_stands front.2 row h.stands;
        leads = (front.0, leads_kept front.2 None at front.0 front.1 (not_below at level k front.2));
        needed = cut_needed row h front.2;
      }

-- ---- a node that is needed

-- below the root, no other place was on the path
pub trie_at_root : (row : RowMap) (t : Tree) → IsTrieUpTo None row t → IsTrieOf row t
trie_at_root row t h = record {
  linked = h.linked;
  stands = h.stands;
  needed = λ k some.
      let w = h.needed k some in
      elim (w.3) [
        | inl e ↦ absurd (nowhere k w.0 w.1 w.2 e)
        | inr p ↦ (w.0, w.1, w.2, p)
      ];
}
  where
    nowhere : (k : NodeId) (path rest : List (List ℕ)) → Leads t None path (Some k) → Leads t None (path ++ rest) None → ⊥
    nowhere k [] rest h g = cc
    nowhere k (l ∷ path) rest h g = not_root t g.0 (path ++ rest) g.2

module _ (k : NodeId) (row : RowMap) (t : Tree) (h : IsTrieUpTo (Some k) row t) where
  -- the levels of a row continue from the node
  on_the_way : IsUsed t k → (tail : List (List ℕ)) × IsRowPath row (h.leads.0 ++ tail)
  on_the_way (inl w) = below w.0 (t.child (Some k) w.0) refl w.1
    where
      below : (l : List ℕ) (o : Option NodeId) → t.child (Some k) l ≡ o → IsSome o → (tail : List (List ℕ)) × IsRowPath row (h.leads.0 ++ tail)
      below l None e some = absurd cc
      below l (Some m) e some =
          let path = h.leads.0 in
          let w = h.needed m (is_some-some (t.link m) (Some k, l) (h.linked.child (Some k) l m e)) in
          let to_m : Leads t None (path ++ l ∷ []) (Some m) = join t None (Some k) (Some m) path (l ∷ []) h.leads.1 (m, e, refl) in
          let same : w.0 ≡ path ++ l ∷ [] = path_once t h.linked (Some m) w.0 (path ++ l ∷ []) w.2 to_m in
          elim (w.3) [
            | inl up ↦ absurd (longer path w.1 l (sym (ap (λ (p : List (List ℕ)). p ++ w.1) same) ∙ path_once t h.linked (Some k) (w.0 ++ w.1) path up h.leads.1))
            | inr p ↦ (l ∷ w.1, subst (IsRowPath row) (ap (λ (p : List (List ℕ)). p ++ w.1) same ∙ append_assoc path (l ∷ []) w.1) p)
          ]
  on_the_way (inr w) = held w.0 (t.client k w.0) refl w.1
    where
      held : (c : ℕ) (o : Option Qos) → t.client k c ≡ o → IsSome o → (tail : List (List ℕ)) × IsRowPath row (h.leads.0 ++ tail)
      held c None e some = absurd cc
      held c (Some q) e some =
          let path = h.leads.0 in
          let w = h.stands.client k c q e in
          ([], (c, w.0, q, w.2, path_once t h.linked (Some k) (levels w.0) path w.1 h.leads.1 ∙ sym (append_nil path)))

  pub trie_at_used : IsUsed t k → IsTrieOf row t
  trie_at_used used =
      let way = on_the_way used in
      record {
        linked = h.linked;
        stands = h.stands;
        needed = λ j some.
            let w = h.needed j some in
            elim (w.3) [
              | inl e ↦
                  let same = path_once t h.linked (Some k) (w.0 ++ w.1) h.leads.0 e h.leads.1 in
                  let on : IsRowPath row ((w.0 ++ w.1) ++ way.0) = subst (λ p. IsRowPath row (p ++ way.0)) (sym same) way.1 in
                  (w.0, w.1 ++ way.0, w.2, subst (IsRowPath row) (append_assoc w.0 w.1 way.0) on)
              | inr p ↦ (w.0, w.1, w.2, p)
            ];
      }

-- ---- a client is set

levels_once : (f g : List ℕ) → levels f ≡ levels g → f ≡ g
levels_once f g e = sym (join_with_byte-slice_split 47 f) ∙ ap (join_with_byte 47) e ∙ join_with_byte-slice_split 47 g

is_key-same : (d : ℕ) (g : List ℕ) (c : ℕ) (f : List ℕ) → is_key d g (c, f) ≡ true → (d ≡ c) × (g ≡ f)
is_key-same d g c f e = let same = key_cmp-same (d, g) (c, f) (equal (key_cmp (d, g) (c, f)) e) in (ap (λ (k : Key). k.0) same, ap (λ (k : Key). k.1) same)
  where
    equal : (r : Ordering) → is_eq r ≡ true → r ≡ Equal
    equal Less e = absurd cc
    equal Equal e = refl
    equal Greater e = absurd cc

is_key-itself : (c : ℕ) (f : List ℕ) → is_key c f (c, f) ≡ true
is_key-itself c f = rw (tied_itself key_cmp-total (c, f)) refl

with_here : (c : ℕ) (f : List ℕ) (q : Qos) (row : RowMap) → row_with c f q row c f ≡ Some q
with_here c f q row = rw (is_key-itself c f) refl

same_client : (j k : NodeId) (d c : ℕ) → ((j ≡ k) × (d ≡ c)) ⊎ ((j ≡ k) × (d ≡ c) → ⊥)
same_client j k d c =
    elim (same_number j k) [
      | inl e ↦ elim (cases_eq d c) [
        | inl f ↦ inl (e, f)
        | inr ne ↦ inr (λ h. ne h.1)
      ]
      | inr ne ↦ inr (λ h. ne h.0)
    ]

pub linked_same : (old new : Tree) → ((k : NodeId) → new.link k ≡ old.link k) → ((a : Option NodeId) (l : List ℕ) → new.child a l ≡ old.child a l) → IsLinked old → IsLinked new
linked_same old new link child h = record {
  child = λ a l k e. link k ∙ h.child a l k (sym (child a l) ∙ e);
  place = λ a l k e. place a (h.place a l k (sym (child a l) ∙ e));
}
  where
    place : (a : Option NodeId) → IsPlace old a → IsPlace new a
    place None p = tt
    place (Some j) p = subst (λ (o : Option Link). IsSome o) (sym (link j)) p

module _ (k : NodeId) (c : ℕ) (f : List ℕ) (q : Qos) (row : RowMap) (old new : Tree) (h : IsTrieUpTo (Some k) row old) (leads : Leads old None (levels f) (Some k)) (g : ClientIs k c (Some q) old new) where
  set_row : (d : ℕ) (e : List ℕ) (p : Qos) (same : Bool) → is_key d e (c, f) ≡ same → cond same (Some q) (row d e) ≡ Some p
      → (j : NodeId) × Leads new None (levels e) (Some j) × (new.client j d ≡ Some p)
  set_row d e p true key is =
      let same = is_key-same d e c f key in
      (k, subst (λ x. Leads new None (levels x) (Some k)) (sym same.1) (leads_same old new g.child None (Some k) (levels f) leads), ap (new.client k) same.0 ∙ g.client ∙ is)
  set_row d e p false key is =
      let w = h.stands.row d e p is in
      let apart = λ (s : (w.0 ≡ k) × (d ≡ c)).
      (let to_k = subst (λ x. Leads old None (levels e) (Some x)) s.0 w.1 in
      let path = levels_once e f (path_once old h.linked (Some k) (levels e) (levels f) to_k leads) in
      let clash : true ≡ false = sym (is_key-itself c f) ∙ (λ i. is_key (sym s.1 i) (sym path i) (c, f)) ∙ key in
      let none : ⊥ = cc in none) in
      (w.0, leads_same old new g.child None (Some w.0) (levels e) w.1, g.others w.0 d apart ∙ w.2)

  set_client : (j : NodeId) (d : ℕ) (p : Qos) → new.client j d ≡ Some p → ((j ≡ k) × (d ≡ c)) ⊎ ((j ≡ k) × (d ≡ c) → ⊥)
      → (e : List ℕ) × Leads new None (levels e) (Some j) × (row_with c f q row d e ≡ Some p)
  set_client j d p is (inl s) =
      let to_k = leads_same old new g.child None (Some k) (levels f) leads in
      let value : Some q ≡ Some p = sym g.client ∙ (λ i. new.client (sym s.0 i) (sym s.1 i)) ∙ is in
      (f, subst (λ x. Leads new None (levels f) (Some x)) (sym s.0) to_k, ap (λ x. row_with c f q row x f) s.1 ∙ with_here c f q row ∙ value)
  set_client j d p is (inr apart) =
      let w = h.stands.client j d p (sym (g.others j d apart) ∙ is) in
      (w.0, leads_same old new g.child None (Some j) (levels w.0) w.1, other w.0 w.1 w.2 (is_key d w.0 (c, f)) refl)
    where
      other : (e : List ℕ) → Leads old None (levels e) (Some j) → row d e ≡ Some p → (same : Bool) → is_key d e (c, f) ≡ same → row_with c f q row d e ≡ Some p
      other e to_j held true key =
          let same = is_key-same d e c f key in
          let back : Leads old None (levels e) (Some k) = subst (λ x. Leads old None (levels x) (Some k)) (sym same.1) leads in
          let nodes : Some j ≡ Some k = once old None (Some j) (Some k) (levels e) to_j back in
          absurd (apart (cc, same.0))
      other e to_j held false key = ap (λ b. cond b (Some q) (row d e)) key ∙ held

  with_kept : (d : ℕ) (e : List ℕ) (p : Qos) → row d e ≡ Some p → (same : Bool) → is_key d e (c, f) ≡ same → (r : Qos) × (row_with c f q row d e ≡ Some r)
  with_kept d e p held true key = (q, ap (λ b. cond b (Some q) (row d e)) key)
  with_kept d e p held false key = (p, ap (λ b. cond b (Some q) (row d e)) key ∙ held)

  pub set_is_trie : IsTrieOf (row_with c f q row) new
  set_is_trie = record {
    linked = linked_same old new g.link g.child h.linked;
    stands = record {
      row = λ d e p is. set_row d e p (is_key d e (c, f)) refl is;
      client = λ j d p is. set_client j d p is (same_client j k d c);
    };
    needed = λ j some.
        let w = h.needed j (subst (λ (o : Option Link). IsSome o) (g.link j) some) in
        let to_j = leads_same old new g.child None (Some j) w.0 w.2 in
        elim (w.3) [
          | inl e ↦ (w.0, w.1, to_j, (c, f, q, with_here c f q row, path_once old h.linked (Some k) (levels f) (w.0 ++ w.1) leads e))
          | inr p ↦
              let r = with_kept p.0 p.1 p.2 p.3 (is_key p.0 p.1 (c, f)) refl in
              (w.0, w.1, to_j, (p.0, p.1, r.0, r.1, p.4))
        ];
  }

-- ---- a client is taken away

module _ (k : NodeId) (c : ℕ) (f : List ℕ) (row : RowMap) (old new : Tree) (h : IsTrieOf row old) (leads : Leads old None (levels f) (Some k)) (g : ClientIs k c None old new) where
  drop_row : (d : ℕ) (e : List ℕ) (p : Qos) (same : Bool) → is_key d e (c, f) ≡ same → cond same None (row d e) ≡ Some p
      → (j : NodeId) × Leads new None (levels e) (Some j) × (new.client j d ≡ Some p)
  drop_row d e p true key is = absurd cc
  drop_row d e p false key is =
      let w = h.stands.row d e p is in
      let apart = λ (s : (w.0 ≡ k) × (d ≡ c)).
      (let to_k = subst (λ x. Leads old None (levels e) (Some x)) s.0 w.1 in
      let path = levels_once e f (path_once old h.linked (Some k) (levels e) (levels f) to_k leads) in
      let clash : true ≡ false = sym (is_key-itself c f) ∙ (λ i. is_key (sym s.1 i) (sym path i) (c, f)) ∙ key in
      let none : ⊥ = cc in none) in
      (w.0, leads_same old new g.child None (Some w.0) (levels e) w.1, g.others w.0 d apart ∙ w.2)

  drop_client : (j : NodeId) (d : ℕ) (p : Qos) → new.client j d ≡ Some p → ((j ≡ k) × (d ≡ c)) ⊎ ((j ≡ k) × (d ≡ c) → ⊥)
      → (e : List ℕ) × Leads new None (levels e) (Some j) × (without c f row d e ≡ Some p)
  drop_client j d p is (inl s) = absurd (let clash : None ≡ Some p = sym g.client ∙ (λ i. new.client (sym s.0 i) (sym s.1 i)) ∙ is in cc)
  drop_client j d p is (inr apart) =
      let w = h.stands.client j d p (sym (g.others j d apart) ∙ is) in
      (w.0, leads_same old new g.child None (Some j) (levels w.0) w.1, other w.0 w.1 w.2 (is_key d w.0 (c, f)) refl)
    where
      other : (e : List ℕ) → Leads old None (levels e) (Some j) → row d e ≡ Some p → (same : Bool) → is_key d e (c, f) ≡ same → without c f row d e ≡ Some p
      other e to_j held true key =
          let same = is_key-same d e c f key in
          let back : Leads old None (levels e) (Some k) = subst (λ x. Leads old None (levels x) (Some k)) (sym same.1) leads in
          let nodes : Some j ≡ Some k = once old None (Some j) (Some k) (levels e) to_j back in
          absurd (apart (cc, same.0))
      other e to_j held false key = ap (λ b. cond b None (row d e)) key ∙ held

  -- a row's levels are another row's, or those of the row that is gone
  drop_path : (path : List (List ℕ)) (p : IsRowPath row path) (same : Bool) → is_key p.0 p.1 (c, f) ≡ same → Leads new None path (Some k) ⊎ IsRowPath (without c f row) path
  drop_path path p true key =
      let same = is_key-same p.0 p.1 c f key in
      inl (subst (λ x. Leads new None x (Some k)) (ap levels (sym same.1) ∙ p.4) (leads_same old new g.child None (Some k) (levels f) leads))
  drop_path path p false key = inr (p.0, p.1, p.2, ap (λ b. cond b None (row p.0 p.1)) key ∙ p.3, p.4)

  pub drop_up_to : IsTrieUpTo (Some k) (without c f row) new
  drop_up_to = record {
    linked = linked_same old new g.link g.child h.linked;
    stands = record {
      row = λ d e p is. drop_row d e p (is_key d e (c, f)) refl is;
      client = λ j d p is. drop_client j d p is (same_client j k d c);
    };
    leads = (levels f, leads_same old new g.child None (Some k) (levels f) leads);
    needed = λ j some.
        let w = h.needed j (subst (λ (o : Option Link). IsSome o) (g.link j) some) in
        (w.0, w.1, leads_same old new g.child None (Some j) w.0 w.2, drop_path (w.0 ++ w.1) w.3 (is_key w.3.0 w.3.1 (c, f)) refl);
  }

-- a row that was not there is set and taken away
pub set_undone : (c : ℕ) (f : List ℕ) (q : Qos) (row : RowMap) → row c f ≡ None → (d : ℕ) (e : List ℕ) → without c f (row_with c f q row) d e ≡ row d e
set_undone c f q row none d e = by_key (is_key d e (c, f)) refl
  where
    by_key : (same : Bool) → is_key d e (c, f) ≡ same → cond same None (cond same (Some q) (row d e)) ≡ row d e
    by_key true key = let s = is_key-same d e c f key in sym ((λ i. row (s.0 i) (s.1 i)) ∙ none)
    by_key false key = refl

-- no row is taken away
pub without_none : (c : ℕ) (f : List ℕ) (row : RowMap) → row c f ≡ None → (d : ℕ) (e : List ℕ) → row d e ≡ without c f row d e
without_none c f row none d e = by_key (is_key d e (c, f)) refl
  where
    by_key : (same : Bool) → is_key d e (c, f) ≡ same → row d e ≡ cond same None (row d e)
    by_key true key = let s = is_key-same d e c f key in (λ i. row (s.0 i) (s.1 i)) ∙ none
    by_key false key = refl

pub no_row : (t : Tree) (row : RowMap) → IsTrieOf row t → (c : ℕ) (f : List ℕ) → ((k : NodeId) → Leads t None (levels f) (Some k) → ⊥) → row c f ≡ None
no_row t row h c f none = by_row (row c f) refl
  where
    by_row : (o : Option Qos) → row c f ≡ o → o ≡ None
    by_row None e = refl
    by_row (Some q) e = absurd (let w = h.stands.row c f q e in none w.0 w.1)

-- ---- the client of a row

pub client_row : (t : Tree) (row : RowMap) (at : Option NodeId) (h : IsTrieUpTo at row t) (k : NodeId) (c : ℕ) (f : List ℕ) → Leads t None (levels f) (Some k) → t.client k c ≡ None → row c f ≡ None
client_row t row at h k c f leads none = by_row (row c f) refl
  where
    by_row : (o : Option Qos) → row c f ≡ o → o ≡ None
    by_row None e = refl
    by_row (Some q) e =
        let w = h.stands.row c f q e in
        let same : Some w.0 ≡ Some k = once t None (Some w.0) (Some k) (levels f) w.1 leads in
        let node : w.0 ≡ k = cc in
        let clash : Some q ≡ None = sym w.2 ∙ ap (λ x. t.client x c) node ∙ none in
        absurd cc

-- a filter's levels don't lead to the root
pub off_root : (t : Tree) (f : List ℕ) → Leads t None (levels f) None → ⊥
off_root t f leads = none_before (levels f) (levels_some f) leads
  where
    none_before : (path : List (List ℕ)) → 0 < length path → Leads t None path None → ⊥
    none_before [] l h = omega arith
    none_before (p ∷ path) l h = not_root t h.0 path h.2

pub leads_after_client : (old new : Tree) (k : NodeId) (c : ℕ) (x : Option Qos) → ClientIs k c x old new → (at : Option NodeId) (path : List (List ℕ)) → Leads old None path at → Leads new None path at
leads_after_client old new k c x g at path h = leads_same old new g.child None at path h
