-- Paths of levels in a trie.
use Rattle.std.proofs.Common.{◌≡◌, ◌⊎◌, inl, inr, ℕ, List, [], ◌∷◌, ◌++◌, length, Option, Some, None, IsSome, MatchOption, ◌↔◌, refl, sym, ap, subst, ◌∙◌, arith, length-append, eqb, eqb-true, false-eqb, Bool, true, false}
use Rattle.mq_topic.specs.Tree.{IsLinked, IsPlace, Leads, Tree}
use Rattle.mq_topic.specs.declared.trie_nodes.NodeId.{NodeId}

pub append_nil : {A : Type 0} (xs : List A) → xs ++ [] ≡ xs
append_nil [] = refl
append_nil (x ∷ xs) = ap (λ (l : List _). x ∷ l) (append_nil xs)

same_number-by : (a b : NodeId) (r : Bool) → eqb a.0 b.0 ≡ r → (a ≡ b) ⊎ (a ≡ b → ⊥)
same_number-by a b true e = inl (λ i. record { 0 = eqb-true a.0 b.0 e i })
same_number-by a b false e = inr (λ same. false-eqb a.0 b.0 (sym e) (ap (λ (x : NodeId). x.0) same))

pub same_number : (a b : NodeId) → (a ≡ b) ⊎ (a ≡ b → ⊥)
same_number a b = same_number-by a b (eqb a.0 b.0) refl

-- The link of a node.
abbrev pub Link : Type 0
Link = Option NodeId × List ℕ

abbrev place_in : Option Link → Option NodeId
place_in None = None
place_in (Some x) = x.0

abbrev level_in : Option Link → List ℕ
level_in None = []
level_in (Some x) = x.1

pub parts : (x y : Option Link) → x ≡ y → (place_in x ≡ place_in y) × (level_in x ≡ level_in y)
parts x y e = (ap place_in e, ap level_in e)

pub not_some : (o : Option Link) → o ≡ None → IsSome o → ⊥
not_some None e some = cc
not_some (Some x) e some = cc

pub is_some-some : (o : Option Link) (x : Link) → o ≡ Some x → IsSome o
is_some-some None x e = absurd cc
is_some-some (Some y) x e = refl

module _ (t : Tree) where
  -- ---- along lists of levels

  pub join : (a b c : Option NodeId) (p q : List (List ℕ)) → Leads t a p b → Leads t b q c → Leads t a (p ++ q) c
  join a b c [] q h g = subst (λ x. Leads t x q c) (sym h) g
  join a b c (l ∷ p) q h g = (h.0, h.1, join (Some h.0) b c p q h.2 g)

  pub rest : (a b c : Option NodeId) (p q : List (List ℕ)) → Leads t a (p ++ q) c → Leads t a p b → Leads t b q c
  rest a b c [] q h g = subst (λ x. Leads t x q c) g h
  rest a b c (l ∷ p) q h g =
      let same : Some h.0 ≡ Some g.0 = sym h.1 ∙ g.1 in
      rest (Some g.0) b c p q (subst (λ x. Leads t x (p ++ q) c) same h.2) g.2

  pub once : (a b c : Option NodeId) (p : List (List ℕ)) → Leads t a p b → Leads t a p c → b ≡ c
  once a b c p h g = rest a b c p [] (subst (λ q. Leads t a q c) (sym (append_nil p)) g) h

  pub last : (a : Option NodeId) (k : NodeId) (p : List (List ℕ)) → Leads t a p (Some k)
      → ((p ≡ []) × (a ≡ Some k)) ⊎ ((front : List (List ℕ)) × (b : Option NodeId) × (l : List ℕ) × (p ≡ front ++ l ∷ []) × Leads t a front b × (t.child b l ≡ Some k))
  last a k [] h = inl (refl, h)
  last a k (l ∷ p) h =
      elim (last (Some h.0) k p h.2) [
        | inl e ↦ inr ([], a, l, ap (λ (x : List (List ℕ)). l ∷ x) e.0, refl, h.1 ∙ e.1)
        | inr w ↦ inr (l ∷ w.0, w.1, w.2, ap (λ (x : List (List ℕ)). l ∷ x) w.3, (h.0, h.1, w.4), w.5)
      ]

  -- no levels lead to the root
  pub not_root : (k : NodeId) (p : List (List ℕ)) → Leads t (Some k) p None → ⊥
  not_root k [] h = cc
  not_root k (l ∷ p) h = not_root h.0 p h.2

  -- ---- a place has one list of levels

  -- the levels from the root to a place, the last one first
  abbrev pub IsAbove : Option NodeId → List (List ℕ) → Type 0
  IsAbove to [] = to ≡ None
  IsAbove to (l ∷ up) = (k : NodeId) × (from : Option NodeId) × (to ≡ Some k) × (t.child from l ≡ Some k) × IsAbove from up

  turned : (p up : List (List ℕ)) → List (List ℕ)
  turned [] up = up
  turned (l ∷ p) up = turned p (l ∷ up)

  above : (a to : Option NodeId) (p up : List (List ℕ)) → Leads t a p to → IsAbove a up → IsAbove to (turned p up)
  unfolding turned
  above a to [] up h g = subst (λ x. IsAbove x up) h g
  above a to (l ∷ p) up h g = above (Some h.0) to p (l ∷ up) h.2 (h.0, a, refl, h.1, g)

  turned_back : (p r s : List (List ℕ)) → turned (turned p r) s ≡ turned r (p ++ s)
  unfolding turned
  turned_back [] r s = refl
  turned_back (l ∷ p) r s = turned_back p (l ∷ r) s

  turned_twice : (p : List (List ℕ)) → turned (turned p []) [] ≡ p
  unfolding turned
  turned_twice p = turned_back p [] [] ∙ append_nil p

  module _ (linked : IsLinked t) where
    above_once : (to : Option NodeId) (up down : List (List ℕ)) → IsAbove to up → IsAbove to down → up ≡ down
    above_once to [] [] h g = refl
    above_once to [] (l ∷ down) h g = absurd (let e = sym h ∙ g.2 in cc)
    above_once to (l ∷ up) [] h g = absurd (let e = sym g ∙ h.2 in cc)
    above_once to (l ∷ up) (m ∷ down) h g =
        let same : Some h.0 ≡ Some g.0 = sym h.2 ∙ g.2 in
        let number : h.0 ≡ g.0 = cc in
        let one = linked.child h.1 l h.0 h.3 in
        let other = linked.child g.1 m g.0 g.3 in
        let both = parts (Some (h.1, l)) (Some (g.1, m)) (sym one ∙ ap t.link number ∙ other) in
        let from : h.1 ≡ g.1 = both.0 in
        let level : l ≡ m = both.1 in
        λ i. level i ∷ above_once h.1 up down h.4 (subst (λ x. IsAbove x down) (sym from) g.4) i

    pub path_once : (to : Option NodeId) (p q : List (List ℕ)) → Leads t None p to → Leads t None q to → p ≡ q
    path_once to p q h g =
        let e : turned p [] ≡ turned q [] = above_once to (turned p []) (turned q []) (above None to p [] h refl) (above None to q [] g refl) in
        sym (turned_twice p) ∙ ap (λ (x : List (List ℕ)). turned x []) e ∙ turned_twice q

-- If children stay, paths stay.
pub leads_same : (old new : Tree) → ((a : Option NodeId) (l : List ℕ) → new.child a l ≡ old.child a l) → (a b : Option NodeId) (p : List (List ℕ)) → Leads old a p b → Leads new a p b
leads_same old new same a b [] h = h
leads_same old new same a b (l ∷ p) h = (h.0, same a l ∙ h.1, leads_same old new same (Some h.0) b p h.2)

pub longer : (p q : List (List ℕ)) (l : List ℕ) → (p ++ l ∷ []) ++ q ≡ p → ⊥
longer p q l e = omega (arith, ap length e, length-append (p ++ l ∷ []) q, length-append p (l ∷ []))

pub place_of : (t : Tree) → IsLinked t → (a b : Option NodeId) (p : List (List ℕ)) → IsPlace t a → Leads t a p b → IsPlace t b
place_of t linked a b [] h g = subst (IsPlace t) g h
place_of t linked a b (l ∷ p) h g = place_of t linked (Some g.0) b p (is_some-some (t.link g.0) (a, l) (linked.child a l g.0 g.1)) g.2

pub reach_end : (t : Tree) (at : Option NodeId) (ls : List (List ℕ)) → ((to : Option NodeId) → Leads t None ls to ↔ (at ≡ to))
    → MatchOption at ((k : NodeId) → Leads t None ls (Some k) → ⊥) (λ k. Leads t None ls (Some k))
reach_end t None ls f = λ k h. let e : None ≡ Some k = (f (Some k)).0 h in cc
reach_end t (Some k) ls f = (f (Some k)).1 refl
