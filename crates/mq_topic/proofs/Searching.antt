-- A walk along a name finds exactly the rows whose filters match it.
use Rattle.std.proofs.Common.{◌≡◌, inl, inr, ℕ, Bool, true, false, not, ◌&&◌, cond, List, [], ◌∷◌, Option, Some, None, is_some, refl, sym, ap, subst, ◌∙◌, eqb-true}
use Rattle.std.specs.List.{onto_first}
use Rattle.std.specs.Str.{bytes_eq}
use Rattle.std.proofs.lemmas.Bool.{and_parts, not-true}
use Rattle.mq_topic.specs.Inside.Found.{Entries, Finds, Gathers, IsAt}
use Rattle.mq_topic.specs.Matching.{begins, fits, fits_level, is_dollar, is_hash_alone, is_hidden, is_match, is_plus_level}
use Rattle.mq_topic.specs.Topic.{is_slash, is_wildcard, levels}
use Rattle.mq_topic.specs.Tree.{IsTrieOf, Leads, RowMap, Tree}
use Rattle.mq_topic.specs.declared.qos.Qos.{Qos}
use Rattle.mq_topic.specs.declared.trie_nodes.NodeId.{NodeId}
use Rattle.mq_topic.proofs.Gathering.{gathers_nothing, gathers_same}
use Rattle.mq_topic.proofs.Paths.{path_once}
use Rattle.mq_topic.proofs.Standard.{bytes_eq-itself, or-right, or_cases, same_bytes}
use Rattle.mq_topic.proofs.Walking.{on_level}

-- a row of the client matches
abbrev pub Matches : RowMap → List ℕ → ℕ → Qos → Type 0
Matches row name c q = (f : List ℕ) × (row c f ≡ Some q) × (is_match f name ≡ true)

-- ---- first bytes and first levels

onto_byte : (x b : ℕ) (l : List ℕ) (parts ls : List (List ℕ)) → onto_first x parts ≡ (b ∷ l) ∷ ls → x ≡ b
onto_byte x b l [] ls e = cc
onto_byte x b l (p ∷ parts) ls e = cc

first_byte-by : (p : ℕ → Bool) (slash : Bool) (x b : ℕ) (l : List ℕ) (parts ls : List (List ℕ)) → cond slash ([] ∷ parts) (onto_first x parts) ≡ (b ∷ l) ∷ ls → p x ≡ p b
first_byte-by p true x b l parts ls e = absurd cc
first_byte-by p false x b l parts ls e = ap p (onto_byte x b l parts ls e)

first_byte : (p : ℕ → Bool) (t : List ℕ) (b : ℕ) (l : List ℕ) (ls : List (List ℕ)) → levels t ≡ (b ∷ l) ∷ ls → begins p t ≡ p b
first_byte p [] b l ls e = absurd cc
first_byte p (x ∷ t) b l ls e = first_byte-by p (is_slash x) x b l (levels t) ls e

onto_some : (x : ℕ) (parts : List (List ℕ)) (n : List ℕ) (ns : List (List ℕ)) → onto_first x parts ≡ n ∷ ns → (rest : List ℕ) × (n ≡ x ∷ rest)
onto_some x [] n ns e = ([], cc)
onto_some x (p ∷ parts) n ns e = (p, cc)

dollar_level : (t n : List ℕ) (ns : List (List ℕ)) → begins is_dollar t ≡ true → levels t ≡ n ∷ ns → (rest : List ℕ) × (n ≡ 36 ∷ rest)
dollar_level [] n ns d e = absurd cc
dollar_level (x ∷ t) n ns d e =
    let dollar = eqb-true x 36 d in
    onto_some 36 (levels t) n ns (subst (λ y. cond (is_slash y) ([] ∷ levels t) (onto_first y (levels t)) ≡ n ∷ ns) dollar e)

and-off : (b : Bool) → (b && false) ≡ false
and-off true = refl
and-off false = refl

module _ (row : RowMap) (t : Tree) (h : IsTrieOf row t) (name : List ℕ) where
  at_row : (c : ℕ) (q : Qos) (path : List (List ℕ)) (to : Option NodeId) → Leads t None path to → IsAt t to c q → (f : List ℕ) × (row c f ≡ Some q) × (levels f ≡ path)
  at_row c q path None leads is = absurd cc
  at_row c q path (Some k) leads is =
      let w = h.stands.client k c q is in
      (w.0, w.2, path_once t h.linked (Some k) (levels w.0) path w.1 leads)

  -- ---- a name that begins with another byte than `$`

  module _ (plain : begins is_dollar name ≡ false) where
    shown_finds : (c : ℕ) (q : Qos) → Matches row name c q → Finds t None (levels name) c q
    shown_finds c q m =
        let w = h.stands.row c m.0 q m.1 in
        let p = and_parts (fits (levels m.0) (levels name)) (not (is_hidden m.0 name)) m.2 in
        (levels m.0, Some w.0, w.1, p.0, w.2)

    shown_found : (c : ℕ) (q : Qos) → Finds t None (levels name) c q → Matches row name c q
    shown_found c q w =
        let r = at_row c q w.0 w.1 w.2 w.4 in
        let fit : fits (levels r.0) (levels name) ≡ true = ap (λ p. fits p (levels name)) r.2 ∙ w.3 in
        let shown : is_hidden r.0 name ≡ false = ap (λ b. begins is_wildcard r.0 && b) plain ∙ and-off (begins is_wildcard r.0) in
        (r.0, r.1, (λ i. fit i && not (shown i)))

    pub search_shown : (a b : Entries) → Gathers (Finds t None (levels name)) a b → Gathers (Matches row name) a b
    search_shown a b g = gathers_same (Finds t None (levels name)) (Matches row name) a b shown_found shown_finds g

  -- ---- a name that begins with `$`

  module _ (dollar : begins is_dollar name ≡ true) (n : List ℕ) (ns : List (List ℕ)) (parted : levels name ≡ n ∷ ns) where
    not_hidden : (f : List ℕ) → is_hidden f name ≡ false → begins is_wildcard f ≡ true → ⊥
    not_hidden f e wild = let clash : true ≡ false = sym (λ i. wild i && dollar i) ∙ e in cc

    hidden_more : (c : ℕ) (q : Qos) (f : List ℕ) (to : Option NodeId) (l : List ℕ) (ls : List (List ℕ)) → levels f ≡ l ∷ ls → is_hidden f name ≡ false → Leads t None (l ∷ ls) to → (fits_level l n && fits ls ns) ≡ true → IsAt t to c q
        → (k : NodeId) × (t.child None n ≡ Some k) × Finds t (Some k) ns c q
    hidden_more c q f to l ls e shown leads more is =
        let p = and_parts (fits_level l n) (fits ls ns) more in
        elim (or_cases (is_plus_level l) (bytes_eq l n) p.0) [
          | inl plus ↦ absurd (not_hidden f shown (first_byte is_wildcard f 43 [] ls (e ∙ ap (λ (x : List ℕ). x ∷ ls) (same_bytes l (43 ∷ []) plus))))
          | inr same ↦ (leads.0, ap (t.child None) (sym (same_bytes l n same)) ∙ leads.1, (ls, to, leads.2, p.1, is))
        ]

    hidden_from-path : (c : ℕ) (q : Qos) (f : List ℕ) (to : Option NodeId) (path : List (List ℕ)) → levels f ≡ path → is_hidden f name ≡ false → Leads t None path to → fits path (n ∷ ns) ≡ true → IsAt t to c q
        → (k : NodeId) × (t.child None n ≡ Some k) × Finds t (Some k) ns c q
    hidden_from-path c q f to [] e shown leads fit is = absurd cc
    hidden_from-path c q f to (l ∷ []) e shown leads fit is =
        elim (or_cases (is_hash_alone (l ∷ [])) (fits_level l n && fits [] ns) fit) [
          | inl hash ↦ absurd (not_hidden f shown (first_byte is_wildcard f 35 [] [] (e ∙ ap (λ (x : List ℕ). x ∷ []) (same_bytes l (35 ∷ []) hash))))
          | inr more ↦ hidden_more c q f to l [] e shown leads more is
        ]
    hidden_from-path c q f to (l ∷ m ∷ ls) e shown leads fit is = hidden_more c q f to l (m ∷ ls) e shown leads fit is

    hidden_finds : (c : ℕ) (q : Qos) → Matches row name c q → (k : NodeId) × (t.child None n ≡ Some k) × Finds t (Some k) ns c q
    hidden_finds c q m =
        let w = h.stands.row c m.0 q m.1 in
        let p = and_parts (fits (levels m.0) (levels name)) (not (is_hidden m.0 name)) m.2 in
        hidden_from-path c q m.0 (Some w.0) (levels m.0) refl (not-true (is_hidden m.0 name) p.1) w.1 (ap (fits (levels m.0)) (sym parted) ∙ p.0) w.2

    hidden_found : (k : NodeId) → t.child None n ≡ Some k → (c : ℕ) (q : Qos) → Finds t (Some k) ns c q → Matches row name c q
    hidden_found k child c q w =
        let r = at_row c q (n ∷ w.0) w.1 (k, child, w.2) w.4 in
        let level = dollar_level name n ns dollar parted in
        let fit_path : fits (n ∷ w.0) (n ∷ ns) ≡ true = on_level t c q n n w.0 ns (or-right (is_plus_level n) (bytes_eq n n) (bytes_eq-itself n)) w.3 in
        let fit : fits (levels r.0) (levels name) ≡ true = (λ i. fits (r.2 i) (parted i)) ∙ fit_path in
        let plain : begins is_wildcard r.0 ≡ false = first_byte is_wildcard r.0 36 level.0 w.0 (r.2 ∙ ap (λ (x : List ℕ). x ∷ w.0) level.1) in
        (r.0, r.1, (λ i. fit i && not (plain i && begins is_dollar name)))

    pub search_hidden : (a b : Entries) (k : NodeId) → t.child None n ≡ Some k → Gathers (Finds t (Some k) ns) a b → Gathers (Matches row name) a b
    search_hidden a b k child g =
        gathers_same (Finds t (Some k) ns) (Matches row name) a b (hidden_found k child)
        (λ c q m.
        let w = hidden_finds c q m in
        let same : Some w.0 ≡ Some k = sym w.1 ∙ child in
        subst (λ x. Finds t x ns c q) same w.2)
        g

    pub search_nowhere : (a : Entries) → t.child None n ≡ None → Gathers (Matches row name) a a
    search_nowhere a none = gathers_nothing (Matches row name) a (λ c q m.
        let w = hidden_finds c q m in
        let clash : None ≡ Some w.0 = sym none ∙ w.1 in
        cc)

    pub search_first : (a b : Entries) (o : Option NodeId) → t.child None n ≡ o → is_some o ≡ true → Gathers (Finds t o ns) a b → Gathers (Matches row name) a b
    search_first a b None child some g = absurd cc
    search_first a b (Some k) child some g = search_hidden a b k child g

    pub search_absent : (a : Entries) (o : Option NodeId) → t.child None n ≡ o → is_some o ≡ false → Gathers (Matches row name) a a
    search_absent a None child none = search_nowhere a child
    search_absent a (Some k) child none = absurd cc
