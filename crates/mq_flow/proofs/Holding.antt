-- Look-ups in the table, and their meaning for the book.
use Rattle.std.proofs.Common.{◌≡◌, ℕ, ◌+◌, ◌≤◌, ◌∙◌, Bool, true, false, cond, ◌&&◌, ◌||◌, eqb, ltb, List, [], ◌∷◌, ◌++◌, map, Option, Some, None, refl, sym, ap, subst, arith, inl, inr}
use Rattle.std.specs.List.{list_any}
use Rattle.std.specs.Option.{is_some, option_copied}
use Rattle.std.specs.Borrow.{Bor}
use Rattle.std.specs.Map.{keys_of, lookup, remove_entry}
use Rattle.std.proofs.lemmas.Bool.{cases_eq, ne_eqb, lt-ltb, le-ltb}
use Rattle.std.proofs.lemmas.List.{map-id}
use Rattle.mq_topic.specs.declared.qos.Qos.{Qos}
use Rattle.mq_flow.specs.declared.entry.SenderEntry.{SenderEntry}
use Rattle.mq_flow.specs.declared.table.Held.{Held}
use Rattle.mq_flow.specs.declared.table.Held.TheVariants.{Waiting, Released}
use Rattle.mq_flow.specs.Sender.{times, same_qos, is_awaited, without, without_entry}
use Rattle.mq_flow.specs.Held.{messages, releases, id_in, AreUnder}
use Rattle.mq_flow.specs.Inside.Held.{gone_out}
use Rattle.mq_flow.proofs.Counting.{times_same, times_other, without_absent, awaited_there, eqb_self}
use Rattle.mq_flow.proofs.Queues.{others_same, others_other, others_absent, any_times}

-- ---- Occurrences of an identifier in the table

pub times_keys : (ps : List (ℕ × Held)) → AreUnder ps → (i : ℕ) → times i (map (λ e. e.id) (messages ps)) + times i (releases ps) ≡ times i (keys_of ps)
times_keys [] u i = refl
times_keys ((k, Waiting e) ∷ ps) u i =
    let h = times_keys ps u.1 i in
    let x = ap (λ (j : ℕ). times i (j ∷ map (λ (e : SenderEntry). e.id) (messages ps))) u.0 in
    omega arith
times_keys ((k, Released r) ∷ ps) u i =
    let h = times_keys ps u.1 i in
    let x = ap (λ (j : ℕ). times i (j ∷ releases ps)) u.0 in
    omega arith

-- ---- Look-ups

-- The value behind a reference.
pub copied_some : (o : Option (Bor Held)) → is_some (option_copied o) ≡ is_some o
copied_some (Some h) = refl
copied_some None = refl

-- the pair of another identifier is passed over
pub lookup_here : (i k : ℕ) (h : Held) (ps : List (ℕ × Held)) → i ≡ k → lookup (eqb i) ((k, h) ∷ ps) ≡ Some h
lookup_here i k h ps e = let P : Bool → Type 0 = λ b. cond b (Some h) (lookup (eqb i) ps) ≡ Some h in subst P (sym (ap (eqb i) (sym e) ∙ eqb_self i)) refl

pub lookup_there : (i k : ℕ) (h : Held) (ps : List (ℕ × Held)) → (i ≡ k → ⊥) → lookup (eqb i) ((k, h) ∷ ps) ≡ lookup (eqb i) ps
lookup_there i k h ps n = let P : Bool → Type 0 = λ b. cond b (Some h) (lookup (eqb i) ps) ≡ lookup (eqb i) ps in subst P (sym (ne_eqb i k n)) refl

remove_here : (i k : ℕ) (h : Held) (ps : List (ℕ × Held)) → i ≡ k → remove_entry (eqb i) ((k, h) ∷ ps) ≡ ps
remove_here i k h ps e = let P : Bool → Type 0 = λ b. cond b ps ((k, h) ∷ remove_entry (eqb i) ps) ≡ ps in subst P (sym (ap (eqb i) (sym e) ∙ eqb_self i)) refl

remove_there : (i k : ℕ) (h : Held) (ps : List (ℕ × Held)) → (i ≡ k → ⊥) → remove_entry (eqb i) ((k, h) ∷ ps) ≡ (k, h) ∷ remove_entry (eqb i) ps
remove_there i k h ps n = let P : Bool → Type 0 = λ b. cond b ps ((k, h) ∷ remove_entry (eqb i) ps) ≡ (k, h) ∷ remove_entry (eqb i) ps in subst P (sym (ne_eqb i k n)) refl

-- whether something is
pub found_keys : (i : ℕ) (ps : List (ℕ × Held)) → is_some (lookup (eqb i) ps) ≡ ltb 0 (times i (keys_of ps))
found_keys i [] = refl
found_keys i ((k, h) ∷ ps) = elim (cases_eq i k) [
  | inl e ↦
      let t : times i (k ∷ keys_of ps) ≡ 1 + times i (keys_of ps) = subst (λ (j : ℕ). times i (j ∷ keys_of ps) ≡ 1 + times i (keys_of ps)) e (times_same i (keys_of ps)) in
      ap is_some (lookup_here i k h ps e) ∙ sym (lt-ltb 0 (times i (k ∷ keys_of ps)) (omega arith))
  | inr n ↦ ap is_some (lookup_there i k h ps n) ∙ found_keys i ps ∙ ap (ltb 0) (sym (times_other i k (keys_of ps) (λ e. n (sym e))))
]

-- A number that does not occur in a table behind another.
once_rest : (k : ℕ) (h : Held) (ps : List (ℕ × Held)) → ((j : ℕ) → times j (keys_of ((k, h) ∷ ps)) ≤ 1) → (j : ℕ) → times j (keys_of ps) ≤ 1
once_rest k h ps once j = let o = once j in omega arith

alone : (i k : ℕ) (h : Held) (ps : List (ℕ × Held)) → i ≡ k → ((j : ℕ) → times j (keys_of ((k, h) ∷ ps)) ≤ 1) → times i (keys_of ps) ≡ 0
alone i k h ps e once =
    let t : times i (k ∷ keys_of ps) ≡ 1 + times i (keys_of ps) = subst (λ (j : ℕ). times i (j ∷ keys_of ps) ≡ 1 + times i (keys_of ps)) e (times_same i (keys_of ps)) in
    let o = once i in
    omega arith

-- An identifier that is not in the table is no message and is not released.
no_message : (i : ℕ) (ps : List (ℕ × Held)) → AreUnder ps → times i (keys_of ps) ≡ 0 → times i (map (λ e. e.id) (messages ps)) ≡ 0
no_message i ps u z = let t = times_keys ps u i in omega arith

no_release : (i : ℕ) (ps : List (ℕ × Held)) → AreUnder ps → times i (keys_of ps) ≡ 0 → times i (releases ps) ≡ 0
no_release i ps u z = let t = times_keys ps u i in omega arith

never : (b : Bool) → (b ≡ true → ⊥) → b ≡ false
never true n = absurd (n refl)
never false n = refl

not_awaited : (q : Qos) (i : ℕ) (es : List SenderEntry) → times i (map (λ e. e.id) es) ≡ 0 → is_awaited q i es ≡ false
not_awaited q i es z = never (is_awaited q i es) (λ t. let h = awaited_there q i es t in absurd (omega arith))

-- ---- Look-ups in the book

-- a message that is awaited
abbrev pub awaited_in : Qos → Option Held → Bool
awaited_in q (Some (Waiting e)) = same_qos q e.message.qos && e.sent
awaited_in q (Some (Released r)) = false
awaited_in q None = false

no_matter : (a b c : Bool) → b ≡ false → (a && (b && c)) ≡ false
no_matter true b c e = ap (λ t. t && c) e
no_matter false b c e = refl

either_false : (a b : Bool) → b ≡ false → (a || b) ≡ a
either_false true b e = refl
either_false false b e = e

pub awaited_found : (q : Qos) (i : ℕ) (ps : List (ℕ × Held)) → AreUnder ps → ((j : ℕ) → times j (keys_of ps) ≤ 1) → is_awaited q i (messages ps) ≡ awaited_in q (lookup (eqb i) ps)
awaited_found q i [] u once = refl
awaited_found q i ((k, Waiting e) ∷ ps) u once = elim (cases_eq i k) [
  | inl s ↦
      let same : eqb e.id i ≡ true = ap (λ (j : ℕ). eqb j i) (u.0 ∙ sym s) ∙ eqb_self i in
      let rest = not_awaited q i (messages ps) (no_message i ps u.1 (alone i k (Waiting e) ps s once)) in
      either_false (same_qos q e.message.qos && (eqb e.id i && e.sent)) (is_awaited q i (messages ps)) rest ∙ ap (λ t. same_qos q e.message.qos && (t && e.sent)) same
      ∙ sym (ap (awaited_in q) (lookup_here i k (Waiting e) ps s))
  | inr n ↦
      let other : eqb e.id i ≡ false = ne_eqb e.id i (λ t. n (sym t ∙ u.0)) in
      ap (λ t. t || is_awaited q i (messages ps)) (no_matter (same_qos q e.message.qos) (eqb e.id i) e.sent other) ∙ awaited_found q i ps u.1 (once_rest k (Waiting e) ps once)
      ∙ sym (ap (awaited_in q) (lookup_there i k (Waiting e) ps n))
]
awaited_found q i ((k, Released r) ∷ ps) u once = elim (cases_eq i k) [
  | inl s ↦ not_awaited q i (messages ps) (no_message i ps u.1 (alone i k (Released r) ps s once)) ∙ sym (ap (awaited_in q) (lookup_here i k (Released r) ps s))
  | inr n ↦ awaited_found q i ps u.1 (once_rest k (Released r) ps once) ∙ sym (ap (awaited_in q) (lookup_there i k (Released r) ps n))
]

-- a message
abbrev pub waiting_in : Option Held → Bool
waiting_in (Some (Waiting e)) = true
waiting_in (Some (Released r)) = false
waiting_in None = false

pub waiting_found : (i : ℕ) (ps : List (ℕ × Held)) → AreUnder ps → ((j : ℕ) → times j (keys_of ps) ≤ 1) → list_any (λ e. eqb e.id i) (messages ps) ≡ waiting_in (lookup (eqb i) ps)
waiting_found i [] u once = refl
waiting_found i ((k, Waiting e) ∷ ps) u once = elim (cases_eq i k) [
  | inl s ↦ ap (λ t. t || list_any (λ e. eqb e.id i) (messages ps)) (ap (λ (j : ℕ). eqb j i) (u.0 ∙ sym s) ∙ eqb_self i) ∙ sym (ap waiting_in (lookup_here i k (Waiting e) ps s))
  | inr n ↦
      ap (λ t. t || list_any (λ e. eqb e.id i) (messages ps)) (ne_eqb e.id i (λ t. n (sym t ∙ u.0))) ∙ waiting_found i ps u.1 (once_rest k (Waiting e) ps once)
      ∙ sym (ap waiting_in (lookup_there i k (Waiting e) ps n))
]
waiting_found i ((k, Released r) ∷ ps) u once = elim (cases_eq i k) [
  | inl s ↦
      let z = no_message i ps u.1 (alone i k (Released r) ps s once) in
      any_times (λ (e : SenderEntry). e.id) i (messages ps) ∙ le-ltb 0 (times i (map (λ e. e.id) (messages ps))) (omega arith) ∙ sym (ap waiting_in (lookup_here i k (Released r) ps s))
  | inr n ↦ waiting_found i ps u.1 (once_rest k (Released r) ps once) ∙ sym (ap waiting_in (lookup_there i k (Released r) ps n))
]

-- a released identifier
abbrev pub released_in : Option Held → Bool
released_in (Some (Waiting e)) = false
released_in (Some (Released r)) = true
released_in None = false

no_release_any : (i : ℕ) (js : List ℕ) → times i js ≡ 0 → list_any (λ j. eqb j i) js ≡ false
no_release_any i js z = any_times (λ (j : ℕ). j) i js ∙ ap (λ (l : List ℕ). ltb 0 (times i l)) (map-id js) ∙ le-ltb 0 (times i js) (omega arith)

pub released_found : (i : ℕ) (ps : List (ℕ × Held)) → AreUnder ps → ((j : ℕ) → times j (keys_of ps) ≤ 1) → list_any (λ j. eqb j i) (releases ps) ≡ released_in (lookup (eqb i) ps)
released_found i [] u once = refl
released_found i ((k, Waiting e) ∷ ps) u once = elim (cases_eq i k) [
  | inl s ↦ no_release_any i (releases ps) (no_release i ps u.1 (alone i k (Waiting e) ps s once)) ∙ sym (ap released_in (lookup_here i k (Waiting e) ps s))
  | inr n ↦ released_found i ps u.1 (once_rest k (Waiting e) ps once) ∙ sym (ap released_in (lookup_there i k (Waiting e) ps n))
]
released_found i ((k, Released r) ∷ ps) u once = elim (cases_eq i k) [
  | inl s ↦ ap (λ t. t || list_any (λ j. eqb j i) (releases ps)) (ap (λ (j : ℕ). eqb j i) (u.0 ∙ sym s) ∙ eqb_self i) ∙ sym (ap released_in (lookup_here i k (Released r) ps s))
  | inr n ↦
      ap (λ t. t || list_any (λ j. eqb j i) (releases ps)) (ne_eqb r i (λ t. n (sym t ∙ u.0))) ∙ released_found i ps u.1 (once_rest k (Released r) ps once)
      ∙ sym (ap released_in (lookup_there i k (Released r) ps n))
]

-- ---- Removals

pub messages_removed : (i : ℕ) (ps : List (ℕ × Held)) → AreUnder ps → ((j : ℕ) → times j (keys_of ps) ≤ 1) → messages (remove_entry (eqb i) ps) ≡ without_entry i (messages ps)
messages_removed i [] u once = refl
messages_removed i ((k, Waiting e) ∷ ps) u once = elim (cases_eq i k) [
  | inl s ↦
      ap messages (remove_here i k (Waiting e) ps s)
      ∙ sym (others_same (λ (e : SenderEntry). e.id) i e (messages ps) (u.0 ∙ sym s) ∙ others_absent (λ (e : SenderEntry). e.id) i (messages ps) (no_message i ps u.1 (alone i k (Waiting e) ps s once)))
  | inr n ↦
      ap messages (remove_there i k (Waiting e) ps n) ∙ ap (λ (es : List SenderEntry). e ∷ es) (messages_removed i ps u.1 (once_rest k (Waiting e) ps once))
      ∙ sym (others_other (λ (e : SenderEntry). e.id) i e (messages ps) (λ t. n (sym t ∙ u.0)))
]
messages_removed i ((k, Released r) ∷ ps) u once = elim (cases_eq i k) [
  | inl s ↦ ap messages (remove_here i k (Released r) ps s) ∙ sym (others_absent (λ (e : SenderEntry). e.id) i (messages ps) (no_message i ps u.1 (alone i k (Released r) ps s once)))
  | inr n ↦ ap messages (remove_there i k (Released r) ps n) ∙ messages_removed i ps u.1 (once_rest k (Released r) ps once)
]

pub releases_removed : (i : ℕ) (ps : List (ℕ × Held)) → AreUnder ps → ((j : ℕ) → times j (keys_of ps) ≤ 1) → releases (remove_entry (eqb i) ps) ≡ without i (releases ps)
releases_removed i [] u once = refl
releases_removed i ((k, Waiting e) ∷ ps) u once = elim (cases_eq i k) [
  | inl s ↦ ap releases (remove_here i k (Waiting e) ps s) ∙ sym (without_absent i (releases ps) (no_release i ps u.1 (alone i k (Waiting e) ps s once)))
  | inr n ↦ ap releases (remove_there i k (Waiting e) ps n) ∙ releases_removed i ps u.1 (once_rest k (Waiting e) ps once)
]
releases_removed i ((k, Released r) ∷ ps) u once = elim (cases_eq i k) [
  | inl s ↦
      ap releases (remove_here i k (Released r) ps s)
      ∙ sym (others_same (λ (j : ℕ). j) i r (releases ps) (u.0 ∙ sym s) ∙ without_absent i (releases ps) (no_release i ps u.1 (alone i k (Released r) ps s once)))
  | inr n ↦
      ap releases (remove_there i k (Released r) ps n) ∙ ap (λ (js : List ℕ). r ∷ js) (releases_removed i ps u.1 (once_rest k (Released r) ps once))
      ∙ sym (others_other (λ (j : ℕ). j) i r (releases ps) (λ t. n (sym t ∙ u.0)))
]

-- ---- Each entry is still under its identifier

pub under_removed : (i : ℕ) (ps : List (ℕ × Held)) → AreUnder ps → AreUnder (remove_entry (eqb i) ps)
under_removed i [] u = tt
under_removed i ((k, h) ∷ ps) u = elim (cases_eq i k) [
  | inl s ↦ subst AreUnder (sym (remove_here i k h ps s)) u.1
  | inr n ↦ subst AreUnder (sym (remove_there i k h ps n)) (u.0, under_removed i ps u.1)
]

pub under_append : (ps : List (ℕ × Held)) (i : ℕ) (h : Held) → id_in h ≡ i → AreUnder ps → AreUnder (ps ++ (i, h) ∷ [])
under_append [] i h e u = (e, tt)
under_append (p ∷ ps) i h e u = (u.0, under_append ps i h e u.1)

pub id_gone : (h : Held) → id_in (gone_out h) ≡ id_in h
id_gone (Waiting e) = refl
id_gone (Released r) = refl

pub under_gone : (ps : List (ℕ × Held)) → AreUnder ps → AreUnder (map (λ p. (p.0, gone_out p.1)) ps)
under_gone [] u = tt
under_gone (p ∷ ps) u = (id_gone p.1 ∙ u.0, under_gone ps u.1)

-- ---- all have sent

pub messages_gone : (ps : List (ℕ × Held)) → messages (map (λ p. (p.0, gone_out p.1)) ps) ≡ map (λ e. record { id = e.id; message = e.message; sent = true }) (messages ps)
messages_gone [] = refl
messages_gone ((k, Waiting e) ∷ ps) = ap (λ (es : List SenderEntry). record { id = e.id; message = e.message; sent = true } ∷ es) (messages_gone ps)
messages_gone ((k, Released r) ∷ ps) = messages_gone ps

pub releases_gone : (ps : List (ℕ × Held)) → releases (map (λ p. (p.0, gone_out p.1)) ps) ≡ releases ps
releases_gone [] = refl
releases_gone ((k, Waiting e) ∷ ps) = releases_gone ps
releases_gone ((k, Released r) ∷ ps) = ap (λ (js : List ℕ). r ∷ js) (releases_gone ps)
