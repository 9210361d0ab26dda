-- How a name is walked in a trie, level by level.
use Rattle.std.proofs.Common.{◌≡◌, ◌⊎◌, inl, inr, ℕ, true, ◌&&◌, ◌↔◌, List, [], ◌∷◌, Option, Some, None, refl, sym, ap, subst, ◌∙◌}
use Rattle.std.specs.Str.{bytes_eq}
use Rattle.std.proofs.lemmas.Bool.{and_parts}
use Rattle.mq_topic.specs.Inside.Found.{Among, Covers, Entries, Finds, Gathers, IsAt, IsThere, Steps}
use Rattle.mq_topic.specs.Matching.{fits, fits_level, is_hash_alone, is_plus_level}
use Rattle.mq_topic.specs.Rows.{qos_of}
use Rattle.mq_topic.specs.Tree.{Leads, Tree}
use Rattle.mq_topic.specs.declared.qos.Qos.{Qos}
use Rattle.mq_topic.specs.declared.trie_nodes.NodeId.{NodeId}
use Rattle.mq_topic.proofs.Gathering.{Holds, among_map}
use Rattle.mq_topic.proofs.Standard.{bytes_eq-itself, or-right, or_cases, same_bytes}

-- `#` as a level
abbrev pub hash : List ℕ
hash = 35 ∷ []

module _ (t : Tree) (c : ℕ) (q : Qos) where
  -- at `#` below the place
  abbrev pub AtHash : Option NodeId → Type 0
  AtHash at = IsAt t (t.child at hash) c q

  hash_finds : (at o : Option NodeId) (name : List (List ℕ)) → t.child at hash ≡ o → fits (hash ∷ []) name ≡ true → IsAt t o c q → Finds t at name c q
  hash_finds at None name e f h = absurd cc
  hash_finds at (Some k) name e f h = (hash ∷ [], Some k, (k, e, refl), f, h)

  pub hash_finds_level : (at : Option NodeId) (n : List ℕ) (ns : List (List ℕ)) → AtHash at → Finds t at (n ∷ ns) c q
  hash_finds_level at n ns h = hash_finds at (t.child at hash) (n ∷ ns) refl refl h

  pub hash_finds_end : (at : Option NodeId) → AtHash at → Finds t at [] c q
  hash_finds_end at h = hash_finds at (t.child at hash) [] refl refl h

  from_hash : (at to : Option NodeId) (l : List ℕ) (ls : List (List ℕ)) → is_hash_alone (l ∷ ls) ≡ true → Leads t at (l ∷ ls) to → IsAt t to c q → AtHash at
  from_hash at to l [] e h is =
      let level = same_bytes l hash e in
      subst (λ o. IsAt t o c q) (sym h.2 ∙ sym h.1 ∙ ap (t.child at) level) is
  from_hash at to l (m ∷ ls) e h is = absurd cc

  -- below a place, a child matches the name's first level, or `#` matches all of it
  pub finds_level : (at : Option NodeId) (n : List ℕ) (ns : List (List ℕ)) → Finds t at (n ∷ ns) c q → AtHash at ⊎ ((k : NodeId) × Steps t n (Some k) at × Finds t (Some k) ns c q)
  finds_level at n ns w = by_path w.0 w.2 w.3
    where
      by_path : (path : List (List ℕ)) → Leads t at path w.1 → fits path (n ∷ ns) ≡ true → AtHash at ⊎ ((k : NodeId) × Steps t n (Some k) at × Finds t (Some k) ns c q)
      by_path [] h f = absurd cc
      by_path (l ∷ ls) h f =
          elim (or_cases (is_hash_alone (l ∷ ls)) (fits_level l n && fits ls ns) f) [
            | inl e ↦ inl (from_hash at w.1 l ls e h w.4)
            | inr more ↦
                let p = and_parts (fits_level l n) (fits ls ns) more in
                let found : Finds t (Some h.0) ns c q = (ls, w.1, h.2, p.1, w.4) in
                elim (or_cases (is_plus_level l) (bytes_eq l n) p.0) [
                  | inl plus ↦ inr (h.0, inl (h.0, ap (t.child at) (sym (same_bytes l (43 ∷ []) plus)) ∙ h.1, refl), found)
                  | inr same ↦ inr (h.0, inr (h.0, ap (t.child at) (sym (same_bytes l n same)) ∙ h.1, refl), found)
                ]
          ]

  pub finds_end : (at : Option NodeId) → Finds t at [] c q → AtHash at ⊎ IsAt t at c q
  finds_end at w = by_path w.0 w.2 w.3
    where
      by_path : (path : List (List ℕ)) → Leads t at path w.1 → fits path [] ≡ true → AtHash at ⊎ IsAt t at c q
      by_path [] h f = inr (subst (λ o. IsAt t o c q) (sym h) w.4)
      by_path (l ∷ ls) h f = inl (from_hash at w.1 l ls f h w.4)

  pub end_finds : (at : Option NodeId) → IsAt t at c q → Finds t at [] c q
  end_finds at h = ([], at, refl, refl, h)

  pub on_level : (l n : List ℕ) (ls ns : List (List ℕ)) → fits_level l n ≡ true → fits ls ns ≡ true → fits (l ∷ ls) (n ∷ ns) ≡ true
  on_level l n ls ns e f = or-right (is_hash_alone (l ∷ ls)) (fits_level l n && fits ls ns) (rw (e, f) refl)

  through : (at o to : Option NodeId) (l n : List ℕ) (ns : List (List ℕ)) → t.child at l ≡ o → fits_level l n ≡ true → IsThere o to → Finds t to ns c q → Finds t at (n ∷ ns) c q
  through at o to l n ns e f there w =
      let leads : Leads t (Some there.0) w.0 w.1 = subst (λ x. Leads t x w.0 w.1) there.2 w.2 in
      (l ∷ w.0, w.1, (there.0, e ∙ there.1, leads), on_level l n w.0 ns f w.3, w.4)

  pub step_finds : (at to : Option NodeId) (n : List ℕ) (ns : List (List ℕ)) → Steps t n to at → Finds t to ns c q → Finds t at (n ∷ ns) c q
  step_finds at to n ns (inl plus) w = through at (t.child at (43 ∷ [])) to (43 ∷ []) n ns refl refl plus w
  step_finds at to n ns (inr same) w = through at (t.child at n) to n n ns refl (or-right (is_plus_level n) (bytes_eq n n) (bytes_eq-itself n)) same w

  -- ---- in lists of places

  some_finds : (nodes : List (Option NodeId)) (n : List ℕ) (ns : List (List ℕ)) → Among (λ at. Finds t at (n ∷ ns) c q) nodes
      → Among AtHash nodes ⊎ ((k : NodeId) × Among (Steps t n (Some k)) nodes × Finds t (Some k) ns c q)
  some_finds [] n ns h = absurd h
  some_finds (at ∷ nodes) n ns (inl w) =
      elim (finds_level at n ns w) [
        | inl a ↦ inl (inl a)
        | inr b ↦ inr (b.0, inl b.1, b.2)
      ]
  some_finds (at ∷ nodes) n ns (inr h) =
      elim (some_finds nodes n ns h) [
        | inl a ↦ inl (inr a)
        | inr b ↦ inr (b.0, inr b.1, b.2)
      ]

  held : (to : Option NodeId) (ns : List (List ℕ)) (next : List (Option NodeId)) → Holds next to → Finds t to ns c q → Among (λ at. Finds t at ns c q) next
  held to ns next h w = among_map (λ x. x ≡ to) (λ at. Finds t at ns c q) (λ x e. subst (λ y. Finds t y ns c q) (sym e) w) next h

  which : (ns : List (List ℕ)) (next : List (Option NodeId)) → Among (λ at. Finds t at ns c q) next → (to : Option NodeId) × Holds next to × Finds t to ns c q
  which ns [] h = absurd h
  which ns (x ∷ next) (inl w) = (x, inl refl, w)
  which ns (x ∷ next) (inr h) = let w = which ns next h in (w.0, inr w.1, w.2)

  some_ends : (nodes : List (Option NodeId)) → Among (λ at. Finds t at [] c q) nodes → Among AtHash nodes ⊎ Among (λ at. IsAt t at c q) nodes
  some_ends [] h = absurd h
  some_ends (at ∷ nodes) (inl w) =
      elim (finds_end at w) [
        | inl a ↦ inl (inl a)
        | inr b ↦ inr (inl b)
      ]
  some_ends (at ∷ nodes) (inr h) =
      elim (some_ends nodes h) [
        | inl a ↦ inl (inr a)
        | inr b ↦ inr (inr b)
      ]

-- The clients found so far, and those still to be found below the nodes.
pub record IsWalked (t : Tree) (All : ℕ → Qos → Type 0) (first found : Entries) (nodes : List (Option NodeId)) (name : List (List ℕ)) : Type 0 where
  pub kept : (c : ℕ) (q : Qos) → Covers first c q → Covers found c q
  pub finds : (c : ℕ) (q : Qos) → All c q → Covers found c q ⊎ Among (λ at. Finds t at name c q) nodes
  pub sound : (c : ℕ) (q : Qos) → qos_of c found ≡ Some q → (qos_of c first ≡ Some q) ⊎ All c q
  pub left : (c : ℕ) (q : Qos) → Among (λ at. Finds t at name c q) nodes → All c q

-- At first, nothing below the nodes is found.
pub walk_starts : (t : Tree) (first : Entries) (nodes : List (Option NodeId)) (name : List (List ℕ)) → IsWalked t (λ c q. Among (λ at. Finds t at name c q) nodes) first first nodes name
walk_starts t first nodes name = record {
  kept = λ c q h. h;
  finds = λ c q h. inr h;
  sound = λ c q e. inl e;
  left = λ c q h. h;
}

module _ (t : Tree) (All : ℕ → Qos → Type 0) (first found later : Entries) (nodes : List (Option NodeId)) where
  -- The clients found below the next nodes are part of the whole.
  pub walk_rest : (name : List (List ℕ)) (last : Entries) → IsWalked t All first found nodes name → Gathers (λ c q. Among (λ at. Finds t at name c q) nodes) found last → Gathers All first last
  walk_rest name last w g = record {
    kept = λ c q x. g.kept c q (w.kept c q x);
    finds = λ c q x. elim (w.finds c q x) [
      | inl was ↦ g.kept c q was
      | inr below ↦ g.finds c q below
    ];
    sound = λ c q e. elim (g.sound c q e) [
      | inl was ↦ w.sound c q was
      | inr below ↦ inr (w.left c q below)
    ];
  }

  pub walk_begins : (from : Option NodeId) (name : List (List ℕ)) → IsWalked t (Finds t from name) first first (from ∷ []) name
  walk_begins from name = record {
    kept = λ c q h. h;
    finds = λ c q h. inr (inl h);
    sound = λ c q e. inl e;
    left = only;
  }
    where
      only : (c : ℕ) (q : Qos) → Among (λ at. Finds t at name c q) (from ∷ []) → Finds t from name c q
      only c q (inl h) = h
      only c q (inr h) = absurd h

  pub walk_level : (next : List (Option NodeId)) (n : List ℕ) (ns : List (List ℕ)) → IsWalked t All first found nodes (n ∷ ns)
      → Gathers (λ c q. Among (λ at. IsAt t (t.child at hash) c q) nodes) found later
      → ((to : Option NodeId) → Holds next to ↔ Among (Steps t n to) nodes) → IsWalked t All first later next ns
  walk_level next n ns w g step = record {
    kept = λ c q h. g.kept c q (w.kept c q h);
    finds = λ c q h. elim (w.finds c q h) [
      | inl found ↦ inl (g.kept c q found)
      | inr below ↦ elim (some_finds t c q nodes n ns below) [
        | inl at_hash ↦ inl (g.finds c q at_hash)
        | inr on ↦ inr (held t c q (Some on.0) ns next ((step (Some on.0)).1 on.1) on.2)
      ]
    ];
    sound = λ c q e. elim (g.sound c q e) [
      | inl was ↦ w.sound c q was
      | inr at_hash ↦ inr (w.left c q (among_map (λ at. IsAt t (t.child at hash) c q) (λ at. Finds t at (n ∷ ns) c q) (λ at h. hash_finds_level t c q at n ns h) nodes at_hash))
    ];
    left = λ c q h.
        let one = which t c q ns next h in
        w.left c q (among_map (Steps t n one.0) (λ at. Finds t at (n ∷ ns) c q) (λ at s. step_finds t c q at one.0 n ns s one.2) nodes ((step one.0).0 one.1));
  }

  -- If no node is reached, everything is found.
  pub walk_stops : (name : List (List ℕ)) → nodes ≡ [] → IsWalked t All first found nodes name → Gathers All first found
  walk_stops name none w = record {
    kept = w.kept;
    finds = λ c q x. elim (w.finds c q x) [
      | inl found ↦ found
      | inr below ↦ absurd (subst (λ ns. Among (λ at. Finds t at name c q) ns) none below)
    ];
    sound = w.sound;
  }

  pub walk_ends : (last : Entries) → IsWalked t All first found nodes []
      → Gathers (λ c q. Among (λ at. IsAt t (t.child at hash) c q) nodes) found later → Gathers (λ c q. Among (λ at. IsAt t at c q) nodes) later last → Gathers All first last
  walk_ends last w g h = record {
    kept = λ c q x. h.kept c q (g.kept c q (w.kept c q x));
    finds = λ c q x. elim (w.finds c q x) [
      | inl found ↦ h.kept c q (g.kept c q found)
      | inr below ↦ elim (some_ends t c q nodes below) [
        | inl at_hash ↦ h.kept c q (g.finds c q at_hash)
        | inr here ↦ h.finds c q here
      ]
    ];
    sound = λ c q e. elim (h.sound c q e) [
      | inl was ↦ elim (g.sound c q was) [
        | inl before ↦ w.sound c q before
        | inr at_hash ↦ inr (w.left c q (among_map (λ at. IsAt t (t.child at hash) c q) (λ at. Finds t at [] c q) (λ at x. hash_finds_end t c q at x) nodes at_hash))
      ]
      | inr here ↦ inr (w.left c q (among_map (λ at. IsAt t at c q) (λ at. Finds t at [] c q) (λ at x. end_finds t c q at x) nodes here))
    ];
  }
