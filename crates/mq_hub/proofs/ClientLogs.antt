-- Acts are added to the logs of their clients.
use Rattle.std.proofs.Common.{◌≡◌, ℕ, zero, suc, ◌+◌, ◌<◌, ◌≤◌, Bool, false, cond, List, [], ◌∷◌, ◌++◌, length, get_or, slice_set, refl, sym, ap, ap₂, ◌∙◌, append-nil, eqb, eq-eqb, arith}
use Rattle.std.proofs.lemmas.Bool.{ne_eqb}
use Rattle.std.proofs.lemmas.List.{append_assoc}
use Rattle.std.specs.List.{AllByRecursion, flat_map}
use Rattle.mq_packet.specs.declared.message.Message.{Message}
use Rattle.mq_route.specs.declared.act.Act.{Act}
use Rattle.mq_route.specs.declared.act.Act.TheVariants as acts
use Rattle.mq_route.specs.declared.trace.ClientLog.{ClientLog}
use Rattle.mq_route.specs.Routed.{missed_by, placed, placed_by, taken_by}
use Rattle.mq_route.specs.Runs.{AreAccounts}
use Rattle.mq_hub.specs.Inside.Logs.{IsBlank, all_noted, noted}

-- ---- an act of client p

module _ (act : Act) (p : ℕ) (other : (c : ℕ) (a : ClientLog) → eqb p c ≡ false → noted act c a ≡ a) where
  -- no log from a greater key on changes
  before : (c : ℕ) (list : List ClientLog) → p < c → all_noted c act list ≡ list
  before c [] l = refl
  before c (a ∷ more) l = ap₂ (λ (x : ClientLog) (xs : List ClientLog). x ∷ xs) (other c a (ne_eqb p c (λ w. omega arith))) (before (c + 1) more (omega (arith, l)))

  -- there is no log of its key
  pub past : (c i : ℕ) (list : List ClientLog) → p ≡ c + i → length list ≤ i → all_noted c act list ≡ list
  past c i [] is l = refl
  past c zero (a ∷ more) is l = absurd (omega (arith, l))
  past c (suc i) (a ∷ more) is l =
      ap₂ (λ (x : ClientLog) (xs : List ClientLog). x ∷ xs) (other c a (ne_eqb p c (λ w. omega (arith, w, is))))
      (past (c + 1) i more (omega (arith, is)) (omega (arith, l)))

  -- its own log changes
  pub found : (c i : ℕ) (d : ClientLog) (list : List ClientLog) → p ≡ c + i → i < length list
      → all_noted c act list ≡ slice_set list i (noted act p (get_or list i d))
  found c i d [] is l = absurd (omega (arith, l))
  found c zero d (a ∷ more) is l =
      let same : c ≡ p = omega (arith, is) in
      ap₂ (λ (x : ClientLog) (xs : List ClientLog). x ∷ xs) (ap (λ (n : ℕ). noted act n a) same) (before (c + 1) more (omega (arith, is)))
  found c (suc i) d (a ∷ more) is l =
      ap₂ (λ (x : ClientLog) (xs : List ClientLog). x ∷ xs) (other c a (ne_eqb p c (λ w. omega (arith, w, is))))
      (found (c + 1) i d more (omega (arith, is)) (omega (arith, l)))

-- ---- the three acts of an account

pub took_other : (p : ℕ) (m : Message) (c : ℕ) (a : ClientLog) → eqb p c ≡ false → noted (acts.Took p m) c a ≡ a
unfolding taken_by placed_by missed_by
took_other p m c a e = λ i. record {
  taken = (ap (λ (b : Bool). a.taken ++ cond b (m ∷ []) []) e ∙ append-nil a.taken) i;
  placed = append-nil a.placed i;
  missed = append-nil a.missed i;
}

pub took_own : (p : ℕ) (m : Message) (a : ClientLog) → noted (acts.Took p m) p a ≡ record a { taken = a.taken ++ m ∷ [] }
unfolding taken_by placed_by missed_by
took_own p m a = λ i. record {
  taken = ap (λ (b : Bool). a.taken ++ cond b (m ∷ []) []) (eq-eqb p p refl) i;
  placed = append-nil a.placed i;
  missed = append-nil a.missed i;
}

pub placed_other : (p : ℕ) (m : Message) (c : ℕ) (a : ClientLog) → eqb p c ≡ false → noted (acts.Placed p m) c a ≡ a
unfolding taken_by placed_by missed_by
placed_other p m c a e = λ i. record {
  taken = append-nil a.taken i;
  placed = (ap (λ (b : Bool). a.placed ++ cond b (m ∷ []) []) e ∙ append-nil a.placed) i;
  missed = append-nil a.missed i;
}

pub placed_own : (p : ℕ) (m : Message) (a : ClientLog) → noted (acts.Placed p m) p a ≡ record a { placed = a.placed ++ m ∷ [] }
unfolding taken_by placed_by missed_by
placed_own p m a = λ i. record {
  taken = append-nil a.taken i;
  placed = ap (λ (b : Bool). a.placed ++ cond b (m ∷ []) []) (eq-eqb p p refl) i;
  missed = append-nil a.missed i;
}

pub missed_other : (p : ℕ) (m : Message) (c : ℕ) (a : ClientLog) → eqb p c ≡ false → noted (acts.Missed p m) c a ≡ a
unfolding taken_by placed_by missed_by
missed_other p m c a e = λ i. record {
  taken = append-nil a.taken i;
  placed = append-nil a.placed i;
  missed = (ap (λ (b : Bool). a.missed ++ cond b (m ∷ []) []) e ∙ append-nil a.missed) i;
}

pub missed_own : (p : ℕ) (m : Message) (a : ClientLog) → noted (acts.Missed p m) p a ≡ record a { missed = a.missed ++ m ∷ [] }
unfolding taken_by placed_by missed_by
missed_own p m a = λ i. record {
  taken = append-nil a.taken i;
  placed = append-nil a.placed i;
  missed = ap (λ (b : Bool). a.missed ++ cond b (m ∷ []) []) (eq-eqb p p refl) i;
}

-- an act of no log
pub none_noted : (act : Act) → ((c : ℕ) → taken_by c act ≡ []) → ((c : ℕ) → placed_by c act ≡ []) → ((c : ℕ) → missed_by c act ≡ []) → (c : ℕ) (list : List ClientLog)
    → all_noted c act list ≡ list
none_noted act takes places misses c [] = refl
none_noted act takes places misses c (a ∷ more) = ap₂ (λ (x : ClientLog) (xs : List ClientLog). x ∷ xs)
    (λ i. record {
      taken = (ap (λ (ms : List Message). a.taken ++ ms) (takes c) ∙ append-nil a.taken) i;
      placed = (ap (λ (ms : List Message). a.placed ++ ms) (places c) ∙ append-nil a.placed) i;
      missed = (ap (λ (ms : List Message). a.missed ++ ms) (misses c) ∙ append-nil a.missed) i;
    })
    (none_noted act takes places misses (c + 1) more)

-- ---- all of them

pub count_noted : (c : ℕ) (act : Act) (list : List ClientLog) → length (all_noted c act list) ≡ length list
count_noted c act [] = refl
count_noted c act (a ∷ more) = ap suc (count_noted (c + 1) act more)

flat_last : (f : Act → List Message) (log : List Act) (act : Act) → flat_map f (log ++ act ∷ []) ≡ flat_map f log ++ f act
flat_last f [] act = append-nil (f act)
flat_last f (x ∷ log) act = ap (λ (ms : List Message). f x ++ ms) (flat_last f log act) ∙ sym (append_assoc (f x) (flat_map f log) (f act))

pub accounts_noted : (c : ℕ) (log : List Act) (act : Act) (list : List ClientLog) → AreAccounts c log list
    → AreAccounts c (log ++ act ∷ []) (all_noted c act list)
accounts_noted c log act [] all = tt
accounts_noted c log act (a ∷ more) all = (
  ap (λ (ms : List Message). ms ++ taken_by c act) all.0 ∙ sym (flat_last (taken_by c) log act),
  ap (λ (ms : List Message). ms ++ placed_by c act) all.1 ∙ sym (flat_last (placed_by c) log act),
  ap (λ (ms : List Message). ms ++ missed_by c act) all.2 ∙ sym (flat_last (missed_by c) log act),
  accounts_noted (c + 1) log act more all.3,
)

pub accounts_blank : (c : ℕ) (list : List ClientLog) → AllByRecursion IsBlank list → AreAccounts c [] list
accounts_blank c [] all = tt
accounts_blank c (a ∷ more) all = (all.0.0, all.0.1, all.0.2, accounts_blank (c + 1) more all.1)

pub blank_last : (list : List ClientLog) (a : ClientLog) → AllByRecursion IsBlank list → IsBlank a → AllByRecursion IsBlank (list ++ a ∷ [])
blank_last [] a all is = (is, tt)
blank_last (x ∷ list) a all is = (all.0, blank_last list a all.1 is)

-- an act that is none of these belongs to no log
pub unnoted : (act : Act) → ((p : ℕ) (m : Message) → act ≡ acts.Took p m → ⊥) → ((p : ℕ) (m : Message) → act ≡ acts.Placed p m → ⊥)
    → ((p : ℕ) (m : Message) → act ≡ acts.Missed p m → ⊥) → (c : ℕ) (list : List ClientLog) → all_noted c act list ≡ list
unfolding taken_by placed_by missed_by
unnoted (acts.Took p m) took placed missed c list = absurd (took p m refl)
unnoted (acts.Placed p m) took placed missed c list = absurd (placed p m refl)
unnoted (acts.Missed p m) took placed missed c list = absurd (missed p m refl)
unnoted (acts.Up k d present) took placed missed c list = none_noted (acts.Up k d present) (λ n. refl) (λ n. refl) (λ n. refl) c list
unnoted (acts.Closed k why) took placed missed c list = none_noted (acts.Closed k why) (λ n. refl) (λ n. refl) (λ n. refl) c list
unnoted (acts.Subscribed d f q) took placed missed c list = none_noted (acts.Subscribed d f q) (λ n. refl) (λ n. refl) (λ n. refl) c list
unnoted (acts.Unsubscribed d f) took placed missed c list = none_noted (acts.Unsubscribed d f) (λ n. refl) (λ n. refl) (λ n. refl) c list
unnoted (acts.Removed d) took placed missed c list = none_noted (acts.Removed d) (λ n. refl) (λ n. refl) (λ n. refl) c list
unnoted (acts.Will p m) took placed missed c list = none_noted (acts.Will p m) (λ n. refl) (λ n. refl) (λ n. refl) c list
unnoted (acts.WillDropped d) took placed missed c list = none_noted (acts.WillDropped d) (λ n. refl) (λ n. refl) (λ n. refl) c list
