-- The clients found, one by one.
use Rattle.std.proofs.Common.{◌≡◌, ◌⊎◌, inl, inr, ℕ, zero, suc, ◌+◌, ◌<◌, ◌≤◌, Bool, true, false, ◌&&◌, cond, T, List, [], ◌∷◌, ◌++◌, length, get_or, take, Option, Some, None, is_some, ◌↔◌, add-one, refl, sym, ap, subst, ◌∙◌, arith}
use Rattle.std.specs.FinMap.{is_sorted}
use Rattle.std.specs.FinMap.Entries.{below_all}
use Rattle.std.specs.List.{AllByRecursion}
use Rattle.std.specs.List.Sorted.{IsStrictlySortedBy}
use Rattle.std.specs.Map.{keys_of, lookup}
use Rattle.std.specs.Ordering.{is_lt, nat_cmp}
use Rattle.std.specs.declared.cmp.Ordering.{Ordering}
use Rattle.std.specs.declared.cmp.Ordering.TheVariants.{Equal, Less}
use Rattle.std.proofs.lemmas.Bool.{cases_eq}
use Rattle.std.proofs.lemmas.Cmp.{nat_cmp_total, tied_itself}
use Rattle.mq_topic.specs.Inside.Found.{Among, Covers, Entries, Gathers, IsThere}
use Rattle.mq_topic.specs.Qos.{greater}
use Rattle.mq_topic.specs.Rows.{greater_of, qos_of}
use Rattle.mq_topic.specs.declared.qos.Qos.{Qos}
use Rattle.mq_topic.specs.declared.qos.Qos.TheVariants.{Q0, Q1, Q2}
use Rattle.mq_topic.specs.declared.trie_nodes.NodeId.{NodeId}
use Rattle.mq_topic.proofs.Nodes.{is_client, is_client-itself, is_client-other}
use Rattle.mq_topic.proofs.Placing.{T-true, find-lookup, first, less, second}

-- ---- the greater of two

top : (q : Qos) → greater q Q2 ≡ Q2
top Q0 = refl
top Q1 = refl
top Q2 = refl

stays : (q r s : Qos) → greater q r ≡ r → greater q (greater r s) ≡ greater r s
stays q Q2 s e = top q
stays Q0 Q0 s e = refl
stays Q1 Q0 s e = absurd cc
stays Q2 Q0 s e = absurd cc
stays Q0 Q1 s e = refl
stays Q1 Q1 Q0 e = refl
stays Q1 Q1 Q1 e = refl
stays Q1 Q1 Q2 e = refl
stays Q2 Q1 s e = absurd cc

itself : (q : Qos) → greater q q ≡ q
itself Q0 = refl
itself Q1 = refl
itself Q2 = refl

later : (q p : Qos) → greater q (greater p q) ≡ greater p q
later q Q0 = itself q
later q Q2 = top q
later Q0 Q1 = refl
later Q1 Q1 = refl
later Q2 Q1 = refl

covered : (q : Qos) (o : Option Qos) → greater q (greater_of q o) ≡ greater_of q o
covered q None = itself q
covered q (Some p) = later q p

either : (q : Qos) (o : Option Qos) → (greater_of q o ≡ q) ⊎ (Some (greater_of q o) ≡ o)
either q None = inl refl
either q (Some Q0) = inl refl
either q (Some Q2) = inr refl
either Q0 (Some Q1) = inr refl
either Q1 (Some Q1) = inl refl
either Q2 (Some Q1) = inl refl

-- ---- one client noted

pub qos_of-lookup : (c : ℕ) (es : Entries) → qos_of c es ≡ lookup (is_client c) es
qos_of-lookup c es = find-lookup nat_cmp nat_cmp_total c Q0 is_client (λ d. refl) es

module _ (client : ℕ) (qos : Qos) (old new : Entries) (here : qos_of client new ≡ Some (greater_of qos (qos_of client old))) (there : (c : ℕ) → (c ≡ client → ⊥) → qos_of c new ≡ qos_of c old) where
  kept_here : (o : Option Qos) → qos_of client old ≡ o → (q : Qos) → (p : Qos) × (o ≡ Some p) × (greater q p ≡ p) → Covers new client q
  kept_here None e q w = absurd (let clash = w.1 in cc)
  kept_here (Some r) e q w =
      let same : r ≡ w.0 = (let both = w.1 in cc) in
      (greater r qos, here ∙ ap (λ o. Some (greater_of qos o)) e, stays q r qos (subst (λ x. greater q x ≡ x) (sym same) w.2))

  pub noted : Gathers (λ c q. (c ≡ client) × (q ≡ qos)) old new
  noted = record {
    kept = λ c q w. elim (cases_eq c client) [
      | inl e ↦ subst (λ x. Covers new x q) (sym e) (kept_here (qos_of client old) refl q (subst (λ x. Covers old x q) e w))
      | inr ne ↦ (w.0, there c ne ∙ w.1, w.2)
    ];
    finds = λ c q w. (greater_of qos (qos_of client old), ap (λ x. qos_of x new) w.0 ∙ here, ap (λ x. greater x (greater_of qos (qos_of client old))) w.1 ∙ covered qos (qos_of client old));
    sound = λ c q e. elim (cases_eq c client) [
      | inl same ↦
          let value : Some q ≡ Some (greater_of qos (qos_of client old)) = sym e ∙ ap (λ x. qos_of x new) same ∙ here in
          elim (either qos (qos_of client old)) [
            | inl a ↦ inr (same, (let first : q ≡ greater_of qos (qos_of client old) = cc in first ∙ a))
            | inr b ↦ inl (ap (λ x. qos_of x old) same ∙ sym b ∙ sym value)
          ]
      | inr ne ↦ inl (sym (there c ne) ∙ e)
    ];
  }

-- ---- several

pub gathers_nothing : (More : ℕ → Qos → Type 0) (found : Entries) → ((c : ℕ) (q : Qos) → More c q → ⊥) → Gathers More found found
gathers_nothing More found none = record {
  kept = λ c q w. w;
  finds = λ c q m. absurd (none c q m);
  sound = λ c q e. inl e;
}

pub gathers_both : (P Q R : ℕ → Qos → Type 0) (a b d : Entries) → ((c : ℕ) (q : Qos) → R c q → P c q ⊎ Q c q) → ((c : ℕ) (q : Qos) → P c q ⊎ Q c q → R c q)
    → Gathers P a b → Gathers Q b d → Gathers R a d
gathers_both P Q R a b d split join g h = record {
  kept = λ c q w. h.kept c q (g.kept c q w);
  finds = λ c q m. elim (split c q m) [
    | inl p ↦ h.kept c q (g.finds c q p)
    | inr r ↦ h.finds c q r
  ];
  sound = λ c q e. elim (h.sound c q e) [
    | inl was ↦ elim (g.sound c q was) [
      | inl first ↦ inl first
      | inr p ↦ inr (join c q (inl p))
    ]
    | inr r ↦ inr (join c q (inr r))
  ];
}

-- ---- places in a list

pub among_map : (P Q : Option NodeId → Type 0) → ((x : Option NodeId) → P x → Q x) → (xs : List (Option NodeId)) → Among P xs → Among Q xs
among_map P Q f [] h = h
among_map P Q f (x ∷ xs) (inl p) = inl (f x p)
among_map P Q f (x ∷ xs) (inr h) = inr (among_map P Q f xs h)

-- one more is the last, or among those before it
pub among_last : (P : Option NodeId → Type 0) (xs : List (Option NodeId)) (x : Option NodeId) → Among P (xs ++ x ∷ []) → Among P xs ⊎ P x
among_last P [] x (inl p) = inr p
among_last P [] x (inr h) = absurd h
among_last P (y ∷ xs) x (inl p) = inl (inl p)
among_last P (y ∷ xs) x (inr h) =
    elim (among_last P xs x h) [
      | inl a ↦ inl (inr a)
      | inr p ↦ inr p
    ]

pub among_more : (P : Option NodeId → Type 0) (xs : List (Option NodeId)) (x : Option NodeId) → Among P xs ⊎ P x → Among P (xs ++ x ∷ [])
among_more P [] x (inl h) = absurd h
among_more P [] x (inr p) = inl p
among_more P (y ∷ xs) x (inl (inl p)) = inl p
among_more P (y ∷ xs) x (inl (inr h)) = inr (among_more P xs x (inl h))
among_more P (y ∷ xs) x (inr p) = inr (among_more P xs x (inr p))

take_one : (xs : List (Option NodeId)) (n : ℕ) → n < length xs → take (suc n) xs ≡ take n xs ++ get_or xs n None ∷ []
take_one [] n l = absurd (omega arith)
take_one (y ∷ xs) zero l = refl
take_one (y ∷ xs) (suc n) l = ap (λ (zs : List (Option NodeId)). y ∷ zs) (take_one xs n (omega arith))

pub take_more : (xs : List (Option NodeId)) (n : ℕ) → n < length xs → take (n + 1) xs ≡ take n xs ++ get_or xs n None ∷ []
take_more xs n l = ap (λ (m : ℕ). take m xs) (add-one n) ∙ take_one xs n l

there_some : (at to : Option NodeId) → is_some at ≡ true → at ≡ to → IsThere at to
there_some None to some e = absurd cc
there_some (Some k) to some e = (k, refl, sym e)

not_there : (at to : Option NodeId) → is_some at ≡ false → IsThere at to → ⊥
not_there None to none h = let e = h.1 in cc
not_there (Some k) to none h = cc

abbrev pub Holds : List (Option NodeId) → Option NodeId → Type 0
Holds xs to = Among (λ x. x ≡ to) xs

pub push_is : (xs new : List (Option NodeId)) (at : Option NodeId) → new ≡ xs ++ at ∷ [] → is_some at ≡ true → (to : Option NodeId) → Holds new to ↔ (Holds xs to ⊎ IsThere at to)
push_is xs new at e some to = (
  λ h. elim (among_last (λ x. x ≡ to) xs at (subst (λ ys. Holds ys to) e h)) [
    | inl a ↦ inl a
    | inr p ↦ inr (there_some at to some p)
  ],
  λ h. subst (λ ys. Holds ys to) (sym e) (among_more (λ x. x ≡ to) xs at (elim h [
    | inl a ↦ inl a
    | inr p ↦ inr (p.1 ∙ sym p.2)
  ])),
)

pub push_none : (xs : List (Option NodeId)) (at : Option NodeId) → is_some at ≡ false → (to : Option NodeId) → Holds xs to ↔ (Holds xs to ⊎ IsThere at to)
push_none xs at none to = (
  λ h. inl h,
  λ h. elim h [
    | inl a ↦ a
    | inr p ↦ absurd (not_there at to none p)
  ],
)

-- ---- the remaining entries

unfoldable pub HasEntry : ℕ → Qos → Entries → Type 0
HasEntry c q [] = ⊥
HasEntry c q (e ∷ es) = ((e.0 ≡ c) × (e.1 ≡ q)) ⊎ HasEntry c q es

pub entry-from : (c : ℕ) (q : Qos) (es : Entries) → lookup (is_client c) es ≡ Some q → HasEntry c q es
unfolding HasEntry
entry-from c q [] e = absurd cc
entry-from c q (f ∷ es) e =
    elim (cases_eq f.0 c) [
      | inl same ↦
          let yes : is_client c f.0 ≡ true = ap (is_client c) same ∙ is_client-itself c in
          let value : Some f.1 ≡ Some q = sym (ap (λ b. cond b (Some f.1) (lookup (is_client c) es)) yes) ∙ e in
          inl (same, (let first : f.1 ≡ q = cc in first))
      | inr ne ↦ inr (entry-from c q es (sym (ap (λ b. cond b (Some f.1) (lookup (is_client c) es)) (is_client-other c f.0 (λ s. ne (sym s)))) ∙ e))
    ]

pub entry_first : (c : ℕ) (q : Qos) (e : ℕ × Qos) (es : Entries) → HasEntry c q (e ∷ es) → ((e.0 ≡ c) × (e.1 ≡ q)) ⊎ HasEntry c q es
unfolding HasEntry
entry_first c q e es h = h

pub entry_more : (c : ℕ) (q : Qos) (e : ℕ × Qos) (es : Entries) → ((e.0 ≡ c) × (e.1 ≡ q)) ⊎ HasEntry c q es → HasEntry c q (e ∷ es)
unfolding HasEntry
entry_more c q e es h = h

pub entry_none : (c : ℕ) (q : Qos) → HasEntry c q [] → ⊥
unfolding HasEntry
entry_none c q h = h

-- ---- a loop over places

pub gather_more : (IsOne : Option NodeId → ℕ → Qos → Type 0) (nodes : List (Option NodeId)) (i : ℕ) (a b d : Entries) → i < length nodes
    → Gathers (λ c q. Among (λ at. IsOne at c q) (take i nodes)) a b → Gathers (IsOne (get_or nodes i None)) b d → Gathers (λ c q. Among (λ at. IsOne at c q) (take (i + 1) nodes)) a d
gather_more IsOne nodes i a b d l g h =
    let x = get_or nodes i None in
    let next = take_more nodes i l in
    gathers_both
    (λ c q. Among (λ at. IsOne at c q) (take i nodes))
    (IsOne x)
    (λ c q. Among (λ at. IsOne at c q) (take (i + 1) nodes))
    a
    b
    d
    (λ c q m. among_last (λ at. IsOne at c q) (take i nodes) x (subst (λ ys. Among (λ at. IsOne at c q) ys) next m))
    (λ c q m. subst (λ ys. Among (λ at. IsOne at c q) ys) (sym next) (among_more (λ at. IsOne at c q) (take i nodes) x m))
    g
    h

pub all_taken : (xs : List (Option NodeId)) (n : ℕ) → length xs ≤ n → take n xs ≡ xs
all_taken [] zero l = refl
all_taken [] (suc n) l = refl
all_taken (x ∷ xs) zero l = absurd (omega arith)
all_taken (x ∷ xs) (suc n) l = ap (λ (ys : List (Option NodeId)). x ∷ ys) (all_taken xs n (omega arith))

pub gather_done : (IsOne : Option NodeId → ℕ → Qos → Type 0) (nodes : List (Option NodeId)) (n : ℕ) (a b : Entries) → length nodes ≤ n
    → Gathers (λ c q. Among (λ at. IsOne at c q) (take n nodes)) a b → Gathers (λ c q. Among (λ at. IsOne at c q) nodes) a b
gather_done IsOne nodes n a b l g = subst (λ ys. Gathers (λ c q. Among (λ at. IsOne at c q) ys) a b) (all_taken nodes n l) g

-- the children of one more place
pub step_more : (Into : Option NodeId → Option NodeId → Type 0) (nodes : List (Option NodeId)) (i : ℕ) (old mid new : List (Option NodeId)) (plus same : Option NodeId) → i < length nodes
    → ((to : Option NodeId) → Into to (get_or nodes i None) ≡ (IsThere plus to ⊎ IsThere same to))
    → ((to : Option NodeId) → Holds old to ↔ Among (Into to) (take i nodes))
    → ((to : Option NodeId) → Holds mid to ↔ (Holds old to ⊎ IsThere plus to)) → ((to : Option NodeId) → Holds new to ↔ (Holds mid to ⊎ IsThere same to))
    → (to : Option NodeId) → Holds new to ↔ Among (Into to) (take (i + 1) nodes)
step_more Into nodes i old mid new plus same l is before first second to =
    let x = get_or nodes i None in
    let next = take_more nodes i l in (
      λ h. subst (λ ys. Among (Into to) ys) (sym next) (among_more (Into to) (take i nodes) x (elim ((second to).0 h) [
        | inl m ↦ elim ((first to).0 m) [
          | inl o ↦ inl ((before to).0 o)
          | inr p ↦ inr (subst (λ (A : Type 0). A) (sym (is to)) (inl p))
        ]
        | inr s ↦ inr (subst (λ (A : Type 0). A) (sym (is to)) (inr s))
      ])),
      λ h. elim (among_last (Into to) (take i nodes) x (subst (λ ys. Among (Into to) ys) next h)) [
        | inl o ↦ (second to).1 (inl ((first to).1 (inl ((before to).1 o))))
        | inr p ↦ elim (subst (λ (A : Type 0). A) (is to) p) [
          | inl a ↦ (second to).1 (inl ((first to).1 (inr a)))
          | inr b ↦ (second to).1 (inr b)
        ]
      ],
    )

-- ---- a loop over the clients of a place

pub ordered-sorted : {K X : Type 0} (R : K → K → Ordering) (es : List (K × X)) → IsStrictlySortedBy R (keys_of es) → T (is_sorted R es)
unfolding IsStrictlySortedBy
ordered-sorted R [] h = tt
ordered-sorted {K} {X} R (e ∷ es) h = both_true (below_all R e.0 es) (is_sorted R es) (below es h.0) (ordered-sorted R es h.1)
  where
    both_true : (a b : Bool) → T a → T b → T (a && b)
    both_true true b p q = q
    both_true false b p q = p

    below : (fs : List (K × X)) → AllByRecursion (λ y. R e.0 y ≡ Less) (keys_of fs) → T (below_all R e.0 fs)
    below [] g = tt
    below (f ∷ fs) g = both_true (is_lt (R e.0 f.0)) (below_all R e.0 fs) (T-true (is_lt (R e.0 f.0)) (ap is_lt g.0)) (below fs g.1)

entry_above : (d c : ℕ) (q : Qos) (es : Entries) → T (below_all nat_cmp d es) → HasEntry c q es → d ≡ c → ⊥
unfolding HasEntry
entry_above d c q [] h g e = g
entry_above d c q (f ∷ es) h (inl g) e =
    let lt : nat_cmp d f.0 ≡ Less = less (nat_cmp d f.0) (first (is_lt (nat_cmp d f.0)) (below_all nat_cmp d es) h) in
    let tie : nat_cmp d d ≡ Less = ap (nat_cmp d) (e ∙ sym g.0) ∙ lt in
    let clash : Equal ≡ Less = sym (tied_itself nat_cmp_total d) ∙ tie in
    cc
entry_above d c q (f ∷ es) h (inr g) e = entry_above d c q es (second (is_lt (nat_cmp d f.0)) (below_all nat_cmp d es) h) g e

pub entry_found : (c : ℕ) (q : Qos) (es : Entries) → T (is_sorted nat_cmp es) → HasEntry c q es → lookup (is_client c) es ≡ Some q
unfolding HasEntry
entry_found c q [] s h = absurd h
entry_found c q (e ∷ es) s (inl h) = ap (λ b. cond b (Some e.1) (lookup (is_client c) es)) (ap (is_client c) h.0 ∙ is_client-itself c) ∙ ap (λ (x : Qos). Some x) h.1
entry_found c q (e ∷ es) s (inr h) =
    ap (λ b. cond b (Some e.1) (lookup (is_client c) es)) (is_client-other c e.0 (λ same. entry_above e.0 c q es (first (below_all nat_cmp e.0 es) (is_sorted nat_cmp es) s) h (sym same)))
    ∙ entry_found c q es (second (below_all nat_cmp e.0 es) (is_sorted nat_cmp es) s) h

-- The clients found so far, and the remaining ones.
pub record IsGathered (at : ℕ → Option Qos) (begun found rest : Entries) : Type 0 where
  pub kept : (c : ℕ) (q : Qos) → Covers begun c q → Covers found c q
  pub finds : (c : ℕ) (q : Qos) → at c ≡ Some q → Covers found c q ⊎ HasEntry c q rest
  pub sound : (c : ℕ) (q : Qos) → qos_of c found ≡ Some q → (qos_of c begun ≡ Some q) ⊎ (at c ≡ Some q)
  pub left : (c : ℕ) (q : Qos) → HasEntry c q rest → at c ≡ Some q

module _ (at : ℕ → Option Qos) (begun : Entries) where
  pub gathering_begins : (es : Entries) → T (is_sorted nat_cmp es) → ((c : ℕ) → lookup (is_client c) es ≡ at c) → IsGathered at begun begun es
  gathering_begins es s same = record {
    kept = λ c q h. h;
    finds = λ c q h. inr (entry-from c q es (same c ∙ h));
    sound = λ c q h. inl h;
    left = λ c q h. sym (same c) ∙ entry_found c q es s h;
  }

  pub gathering_goes : (found later left : Entries) (e : ℕ × Qos) → IsGathered at begun found (e ∷ left) → Gathers (λ c q. (c ≡ e.0) × (q ≡ e.1)) found later → IsGathered at begun later left
  gathering_goes found later left e w g = record {
    kept = λ c q h. g.kept c q (w.kept c q h);
    finds = λ c q h. elim (w.finds c q h) [
      | inl x ↦ inl (g.kept c q x)
      | inr y ↦ elim (entry_first c q e left y) [
        | inl here ↦ inl (g.finds c q (sym here.0, sym here.1))
        | inr more ↦ inr more
      ]
    ];
    sound = λ c q h. elim (g.sound c q h) [
      | inl was ↦ w.sound c q was
      | inr here ↦ inr (w.left c q (entry_more c q e left (inl (sym here.0, sym here.1))))
    ];
    left = λ c q h. w.left c q (entry_more c q e left (inr h));
  }

  pub gathering_ends : (found : Entries) → IsGathered at begun found [] → Gathers (λ c q. at c ≡ Some q) begun found
  gathering_ends found w = record {
    kept = w.kept;
    finds = λ c q h. elim (w.finds c q h) [
      | inl x ↦ x
      | inr y ↦ absurd (entry_none c q y)
    ];
    sound = w.sound;
  }

-- the clients of a map are gathered by a copy of it
pub gathers_copy : (at : ℕ → Option Qos) (found es : Entries) → found ≡ [] → ((c : ℕ) → lookup (is_client c) es ≡ at c) → Gathers (λ c q. at c ≡ Some q) found es
gathers_copy at found es none same = record {
  kept = λ c q w. absurd (let clash : None ≡ Some w.0 = sym (ap (qos_of c) none) ∙ w.1 in cc);
  finds = λ c q h. (q, qos_of-lookup c es ∙ same c ∙ h, itself q);
  sound = λ c q e. inr (sym (same c) ∙ sym (qos_of-lookup c es) ∙ e);
}

pub gathers_same : (P Q : ℕ → Qos → Type 0) (a b : Entries) → ((c : ℕ) (q : Qos) → P c q → Q c q) → ((c : ℕ) (q : Qos) → Q c q → P c q) → Gathers P a b → Gathers Q a b
gathers_same P Q a b to from g = record {
  kept = g.kept;
  finds = λ c q m. g.finds c q (from c q m);
  sound = λ c q e. elim (g.sound c q e) [
    | inl was ↦ inl was
    | inr p ↦ inr (to c q p)
  ];
}
