-- A row noted at the last entry, or after it.
use Rattle.std.proofs.Common.{◌≡◌, ℕ, suc, zero, ◌<◌, ◌≤◌, false, T, eqb, List, [], ◌∷◌, ◌++◌, length, get_or, set, Option, refl, sym, ap, ◌∙◌, arith, false-eqb, lt-ltb}
use Rattle.std.proofs.lemmas.Cmp.{nat_cmp_total, ranked, tied_itself}
use Rattle.std.specs.FinMap.{put, is_sorted}
use Rattle.std.specs.Ordering.{nat_cmp, ordering_reverse}
use Rattle.std.specs.declared.cmp.Ordering.TheVariants.{Less, Equal, Greater}
use Rattle.mq_topic.specs.Qos.{greater}
use Rattle.mq_topic.specs.Rows.{greater_of, qos_of}
use Rattle.mq_topic.specs.Inside.Rows.{UpTo}
use Rattle.mq_topic.specs.declared.qos.Qos.{Qos}
use Rattle.mq_topic.proofs.Placing.{above_less, first, second}

above : (a b : ℕ) → nat_cmp a b ≡ Less → nat_cmp b a ≡ Greater
above a b e = nat_cmp_total.antisymm b a ∙ ap ordering_reverse e

above-lt : (a b : ℕ) → a < b → nat_cmp b a ≡ Greater
above-lt a b h = above a b (rw (lt-ltb a b h) refl)

up_to_at : (c : ℕ) (found : List (ℕ × Qos)) (n : ℕ) (d : ℕ × Qos) → UpTo c found → n < length found → (get_or found n d).0 ≤ c
up_to_at c [] n d h l = absurd (omega arith)
up_to_at c (e ∷ found) zero d h l = h.0
up_to_at c (e ∷ found) (suc n) d h l = up_to_at c found n d h.1 (omega arith)

-- An index has one entry.
pub entry_once : (found : List (ℕ × Qos)) (n : ℕ) (d e : ℕ × Qos) → n < length found → d ≡ get_or found n d → e ≡ get_or found n e → d ≡ e
entry_once [] n d e l p q = absurd (omega arith)
entry_once (f ∷ found) zero d e l p q = p ∙ sym q
entry_once (f ∷ found) (suc n) d e l p q = entry_once found n d e (omega arith) p q

-- an entry of a client below is passed by
put_later : (c : ℕ) (q : Qos) (f : ℕ × Qos) (found : List (ℕ × Qos)) → nat_cmp c f.0 ≡ Greater
    → put nat_cmp c (greater_of q (qos_of c (f ∷ found))) (f ∷ found) ≡ f ∷ put nat_cmp c (greater_of q (qos_of c found)) found
put_later c q f found later =
    let same : qos_of c (f ∷ found) ≡ qos_of c found = rw later refl in
    let step : put nat_cmp c (greater_of q (qos_of c found)) (f ∷ found) ≡ f ∷ put nat_cmp c (greater_of q (qos_of c found)) found = rw later refl in
    ap (λ (o : Option Qos). put nat_cmp c (greater_of q o) (f ∷ found)) same ∙ step

-- the last entry is the client's
pub note_same : (c : ℕ) (q : Qos) (found : List (ℕ × Qos)) (n : ℕ) (e : ℕ × Qos) → T (is_sorted nat_cmp found) → length found ≡ suc n → e ≡ get_or found n e → e.0 ≡ c
    → set found n (e.0, greater e.1 q) ≡ put nat_cmp c (greater_of q (qos_of c found)) found
note_same c q [] n e s l at same = absurd (omega arith)
note_same c q (f ∷ []) zero e s l at same =
    let tie : nat_cmp c f.0 ≡ Equal = rw (← same, at) (tied_itself nat_cmp_total f.0) in
    rw (tie, at) refl
note_same c q (f ∷ g ∷ found) zero e s l at same = absurd (omega arith)
note_same c q (f ∷ found) (suc n) e s l at same =
    let below : nat_cmp f.0 (get_or found n e).0 ≡ Less = above_less nat_cmp nat_cmp_total c f.0 found (first _ _ s) n e (omega arith) in
    let later : nat_cmp c f.0 ≡ Greater = above f.0 c (rw (← at, same) at below) in
    ap (λ (l : List (ℕ × Qos)). f ∷ l) (note_same c q found n e (second _ _ s) (omega arith) at same) ∙ sym (put_later c q f found later)

-- the last entry is of a client below
pub note_new : (c : ℕ) (q : Qos) (found : List (ℕ × Qos)) (n : ℕ) (e : ℕ × Qos) → T (is_sorted nat_cmp found) → UpTo c found → length found ≡ suc n → e ≡ get_or found n e → eqb e.0 c ≡ false
    → found ++ (c, q) ∷ [] ≡ put nat_cmp c (greater_of q (qos_of c found)) found
note_new c q [] n e s u l at other = absurd (omega arith)
note_new c q (f ∷ []) zero e s u l at other =
    let differs : f.0 ≡ c → ⊥ = λ same. false-eqb e.0 c (sym other) (ap (λ (p : ℕ × Qos). p.0) at ∙ same) in
    let later : nat_cmp c f.0 ≡ Greater = above-lt f.0 c (omega (arith, u.0, differs)) in
    rw later refl
note_new c q (f ∷ g ∷ found) zero e s u l at other = absurd (omega arith)
note_new c q (f ∷ found) (suc n) e s u l at other =
    let below : nat_cmp f.0 (get_or found n e).0 ≡ Less = above_less nat_cmp nat_cmp_total c f.0 found (first _ _ s) n e (omega arith) in
    let less : f.0 < (get_or found n e).0 = ranked f.0 (get_or found n e).0 Less (sym below) in
    let most = up_to_at c found n e u.1 (omega arith) in
    let later : nat_cmp c f.0 ≡ Greater = above-lt f.0 c (omega arith) in
    ap (λ (l : List (ℕ × Qos)). f ∷ l) (note_new c q found n e (second _ _ s) u.1 (omega arith) at other) ∙ sym (put_later c q f found later)

-- there is no entry
pub note_first : (c : ℕ) (q : Qos) (found : List (ℕ × Qos)) → length found ≡ 0 → found ++ (c, q) ∷ [] ≡ put nat_cmp c (greater_of q (qos_of c found)) found
note_first c q [] l = refl
note_first c q (f ∷ found) l = absurd (omega arith)
