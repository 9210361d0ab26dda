-- The entries of a book, by quality of service.
use Rattle.std.proofs.Common.{◌≡◌, ℕ, ◌+◌, ◌≤◌, Bool, true, false, cond, not, ◌&&◌, ◌||◌, eqb, List, [], ◌∷◌, ◌++◌, map, filter, refl, sym, ap, subst}
use Rattle.std.proofs.Common.{◌∙◌, arith, inl, inr}
use Rattle.std.proofs.lemmas.Bool.{cases_eq, ne_eqb, cond_both}
use Rattle.std.proofs.lemmas.List.{map-append}
use Rattle.std.proofs.lemmas.List.Elements.{filter-append}
use Rattle.mq_topic.specs.declared.qos.Qos.{Qos}
use Rattle.mq_topic.specs.declared.qos.Qos.TheVariants.{Q0, Q1, Q2}
use Rattle.mq_packet.specs.declared.message.Message.{Message}
pub use Rattle.mq_world.specs.Orders.{Each}
use Rattle.mq_flow.specs.declared.entry.SenderEntry.{SenderEntry}
use Rattle.mq_flow.specs.Sender.{times, without_entry, is_awaited, same_qos, held}
use Rattle.mq_flow.proofs.Counting.{times_append, eqb_self, times_same, times_other, map_filter}

pub each_append : {A : Type 0} (P : A → Type 0) (xs ys : List A) → Each P xs → Each P ys → Each P (xs ++ ys)
each_append P [] ys p q = q
each_append P (x ∷ xs) ys p q = (p.0, each_append P xs ys p.1 q)

pub each_filter : {A : Type 0} (P : A → Type 0) (t : A → Bool) (xs : List A) → Each P xs → Each P (filter t xs)
each_filter P t [] p = tt
each_filter P t (x ∷ xs) p = cond_both (t x) (x ∷ filter t xs) (filter t xs) (Each P) (λ e. (p.0, each_filter P t xs p.1)) (λ e. each_filter P t xs p.1)

pub each_map : {A B : Type 0} (P : B → Type 0) (f : A → B) (xs : List A) → ((x : A) → P (f x)) → Each P (map f xs)
each_map P f [] h = tt
each_map P f (x ∷ xs) h = (h x, each_map P f xs h)

pub each_mapped : {A B : Type 0} (P : A → Type 0) (Q : B → Type 0) (f : A → B) (xs : List A) → ((x : A) → P x → Q (f x)) → Each P xs → Each Q (map f xs)
each_mapped P Q f [] h p = tt
each_mapped P Q f (x ∷ xs) h p = (h x p.0, each_mapped P Q f xs h p.1)

-- the identifiers of pairs
abbrev pub ids : List (ℕ × Message) → List ℕ
ids ps = map (λ p. p.0) ps

abbrev pub without_pair : ℕ → List (ℕ × Message) → List (ℕ × Message)
without_pair i ps = filter (λ p. not (eqb p.0 i)) ps

pub times_ids : (i : ℕ) (ps qs : List (ℕ × Message)) → times i (ids (ps ++ qs)) ≡ times i (ids ps) + times i (ids qs)
times_ids i ps qs = ap (times i) (map-append (λ (p : ℕ × Message). p.0) ps qs) ∙ times_append i (ids ps) (ids qs)

pub pair_absent : (i : ℕ) (ps : List (ℕ × Message)) → times i (ids ps) ≡ 0 → without_pair i ps ≡ ps
pair_absent i [] z = refl
pair_absent i (p ∷ ps) z =
    elim (cases_eq p.0 i) [
      | inl e ↦ let h : times i (ids (p ∷ ps)) ≡ 1 + times i (ids ps) = rw e (times_same i (ids ps)) in absurd (omega arith)
      | inr n ↦
          let h = times_other i p.0 (ids ps) n in
          let P : Bool → Type 0 = λ b. cond (not b) (p ∷ without_pair i ps) (without_pair i ps) ≡ p ∷ ps in
          subst P (sym (ne_eqb p.0 i n)) (ap (λ (qs : List (ℕ × Message)). p ∷ qs) (pair_absent i ps (omega arith)))
    ]

pub pair_first : (i : ℕ) (p : ℕ × Message) (ps : List (ℕ × Message)) → p.0 ≡ i → times i (ids ps) ≡ 0 → without_pair i (p ∷ ps) ≡ ps
pair_first i p ps e z =
    let P : Bool → Type 0 = λ b. cond (not b) (p ∷ without_pair i ps) (without_pair i ps) ≡ ps in
    subst P (sym (ap (λ (k : ℕ). eqb k i) e ∙ eqb_self i)) (pair_absent i ps z)

-- ---- Stored messages of one QoS

pub held_append : (q : Qos) (es fs : List SenderEntry) → held q (es ++ fs) ≡ held q es ++ held q fs
held_append q es fs =
    let f : SenderEntry → ℕ × Message = λ e. (e.id, e.message) in
    let t : SenderEntry → Bool = λ e. same_qos q e.message.qos in
    ap (map f) (filter-append t es fs) ∙ map-append f (filter t es) (filter t fs)

pub held_sent : (q : Qos) (es : List SenderEntry) → held q (map (λ e. record { id = e.id; message = e.message; sent = true }) es) ≡ held q es
held_sent q [] = refl
held_sent q (e ∷ es) =
    let f : SenderEntry → ℕ × Message = λ e. (e.id, e.message) in
    let t : SenderEntry → Bool = λ e. same_qos q e.message.qos in
    let all : List SenderEntry = map (λ e. record { id = e.id; message = e.message; sent = true }) es in
    let one : SenderEntry = record { id = e.id; message = e.message; sent = true } in
    elim (same_qos q e.message.qos) as (λ b. map f (cond b (one ∷ filter t all) (filter t all)) ≡ map f (cond b (e ∷ filter t es) (filter t es))) [
      | true ↦ ap (λ (ps : List (ℕ × Message)). (e.id, e.message) ∷ ps) (held_sent q es)
      | false ↦ held_sent q es
    ]

pub filter_swap : {A : Type 0} (t s : A → Bool) (xs : List A) → filter t (filter s xs) ≡ filter s (filter t xs)
filter_swap t s [] = refl
filter_swap {A} t s (x ∷ xs) =
    let h = filter_swap t s xs in
    cond_both (s x) (x ∷ filter s xs) (filter s xs) (λ ys. filter t ys ≡ filter s (cond (t x) (x ∷ filter t xs) (filter t xs)))
    (λ es. cond_both (t x) (x ∷ filter t xs) (filter t xs) (λ zs. filter t (x ∷ filter s xs) ≡ filter s zs)
    (λ et. rw (et, es) (ap (λ (ys : List A). x ∷ ys) h))
    (λ et. rw et h))
    (λ es. cond_both (t x) (x ∷ filter t xs) (filter t xs) (λ zs. filter t (filter s xs) ≡ filter s zs)
    (λ et. rw es h)
    (λ et. h))

pub held_without : (q : Qos) (i : ℕ) (es : List SenderEntry) → held q (without_entry i es) ≡ without_pair i (held q es)
held_without q i es =
    let f : SenderEntry → ℕ × Message = λ e. (e.id, e.message) in
    let t : SenderEntry → Bool = λ e. same_qos q e.message.qos in
    let s : SenderEntry → Bool = λ e. not (eqb e.id i) in
    ap (map f) (filter_swap t s es) ∙ map_filter f (λ p. not (eqb p.0 i)) (filter t es)

-- an identifier of either quality of service is among all
pub times_held : (i : ℕ) (es : List SenderEntry) → times i (ids (held Q1 es)) + times i (ids (held Q2 es)) ≤ times i (map (λ e. e.id) es)
times_held i [] = omega arith
times_held i (e ∷ es) =
    let f : SenderEntry → ℕ × Message = λ e. (e.id, e.message) in
    let h = times_held i es in
    let F1 : List SenderEntry = filter (λ e. same_qos Q1 e.message.qos) es in
    let F2 : List SenderEntry = filter (λ e. same_qos Q2 e.message.qos) es in
    elim e.message.qos as (λ q. times i (ids (map f (cond (same_qos Q1 q) (e ∷ F1) F1))) + times i
    (ids (map f (cond (same_qos Q2 q) (e ∷ F2) F2))) ≤ times i (e.id ∷ map (λ e. e.id) es)) [
      | Q0 ↦ omega arith
      | Q1 ↦ omega arith
      | Q2 ↦ omega arith
    ]

-- The first stored message is pending if all were sent.
pub first_awaited : (q : Qos) (es : List SenderEntry) (a : ℕ × Message) (later : List (ℕ × Message)) → Each (λ (e : SenderEntry). e.sent ≡ true) es
    → held q es ≡ a ∷ later → is_awaited q a.0 es ≡ true
first_awaited q [] a later s h = absurd (empty_not a later h)
  where
    empty_not : (a : ℕ × Message) (later : List (ℕ × Message)) → [] ≡ a ∷ later → ⊥
    empty_not a later h = cc
first_awaited q (e ∷ es) a later s h =
    let f : SenderEntry → ℕ × Message = λ e. (e.id, e.message) in
    let those : List SenderEntry = filter (λ e. same_qos q e.message.qos) es in
    at (same_qos q e.message.qos) (λ g. first_awaited q es a later s.1 g) h
  where
    at : (t : Bool) → (held q es ≡ a ∷ later → is_awaited q a.0 es ≡ true)
        → map (λ e. (e.id, e.message)) (cond t (e ∷ filter (λ e. same_qos q e.message.qos) es) (filter (λ e. same_qos q e.message.qos) es)) ≡ a ∷ later
        → (t && (eqb e.id a.0 && e.sent)) || is_awaited q a.0 es ≡ true
    at true next h =
        let id : e.id ≡ a.0 = head_id e.id e.message (held q es) a later h in
        let P : Bool → Type 0 = λ b. (b && e.sent) || is_awaited q a.0 es ≡ true in
        let Q : Bool → Type 0 = λ b. b || is_awaited q a.0 es ≡ true in
        subst P (sym (ap (λ (k : ℕ). eqb k a.0) id ∙ eqb_self a.0)) (subst Q (sym s.0) refl)
      where
        head_id : (i : ℕ) (m : Message) (ps : List (ℕ × Message)) (a : ℕ × Message) (later : List (ℕ × Message)) → (i, m) ∷ ps ≡ a ∷ later → i ≡ a.0
        head_id i m ps a later h = let e : (i, m) ≡ a = cc in ap (λ (p : ℕ × Message). p.0) e
    at false next h = next h
