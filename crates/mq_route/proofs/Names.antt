-- An assigned client identifier is the least that is free.
use Rattle.std.proofs.Common.{◌≡◌, ℕ, zero, suc, ◌+◌, ◌^◌, ◌<◌, ◌≤◌, Bool, true, false, ◌||◌, cond, List, [], ◌∷◌, map, length, drop, Option, Some, None, is_some, refl, sym, ap, subst, ◌∙◌, eqb, eqb-true, eq-eqb, true≢false, arith}
use Rattle.std.proofs.lemmas.Bool.{cond-true, cond-false, false_from_ne_true, eqb-false}
use Rattle.std.proofs.lemmas.List.{length-map}
use Rattle.std.proofs.lemmas.Map.Steps.{le-length_from_below}
use Rattle.std.proofs.lemmas.Slice.Eq.{bytes_eq-Decides}
use Rattle.std.proofs.lemmas.Fmt.{decimal_injective}
use Rattle.std.specs.List.{list_any}
use Rattle.std.specs.Str.{bytes_eq}
use Rattle.mq_route.specs.Hub.{HubSession, key_of}
use Rattle.mq_route.specs.Welcome.{made_up, made_up_from}
use Rattle.mq_route.specs.Names.{IsLeastFree, NameLaws}

-- the name is in use
abbrev Taken : List HubSession → ℕ → Type 0
Taken ss n = is_some (key_of (made_up n) ss) ≡ true

made_up-injective : (m n : ℕ) → m < 2 ^ 64 → n < 2 ^ 64 → made_up m ≡ made_up n → m ≡ n
made_up-injective m n l k e = decimal_injective m n l k (ap (drop 5) e)

-- the number in a name, if it is below a bound
abbrev number_of : ℕ → List ℕ → ℕ
number_of zero name = 0
number_of (suc m) name = cond (bytes_eq name (made_up m)) m (number_of m name)

number_made_up : (n q : ℕ) → q < n → n ≤ 2 ^ 64 → number_of n (made_up q) ≡ q
number_made_up zero q less most = absurd (omega arith)
number_made_up (suc m) q less most = go (eqb q m) refl (number_made_up m q)
  where
    go : (b : Bool) → eqb q m ≡ b → (q < m → m ≤ 2 ^ 64 → number_of m (made_up q) ≡ q) → cond (bytes_eq (made_up q) (made_up m)) m (number_of m (made_up q)) ≡ q
    go true e ih =
        let same : q ≡ m = eqb-true q m e in
        cond-true (bytes_eq (made_up q) (made_up m)) m (number_of m (made_up q)) ((bytes_eq-Decides (made_up q) (made_up m)).1 (ap made_up same)) ∙ sym same
    go false e ih =
        let differ = eqb-false q m e in
        cond-false (bytes_eq (made_up q) (made_up m)) m (number_of m (made_up q))
        (false_from_ne_true (bytes_eq (made_up q) (made_up m)) (λ same. differ (made_up-injective q m (omega arith) (omega arith) ((bytes_eq-Decides (made_up q) (made_up m)).0 same))))
        ∙ ih (omega (arith, differ)) (omega arith)

abbrev numbers : ℕ → List HubSession → List ℕ
numbers n ss = map (λ s. number_of n s.client) ss

or_true : (a b : Bool) → b ≡ true → (a || b) ≡ true
or_true true b e = refl
or_true false b e = e

listed : (n q : ℕ) (ss : List HubSession) → q < n → n ≤ 2 ^ 64 → Taken ss q → list_any (eqb q) (numbers n ss) ≡ true
listed n q [] less most taken = absurd (true≢false (sym taken))
listed n q (s ∷ ss) less most taken = go (bytes_eq s.client (made_up q)) refl taken (listed n q ss less most)
  where
    go : (b : Bool) → bytes_eq s.client (made_up q) ≡ b → is_some (cond b (Some s.key) (key_of (made_up q) ss)) ≡ true → (Taken ss q → list_any (eqb q) (numbers n ss) ≡ true)
        → (eqb q (number_of n s.client) || list_any (eqb q) (numbers n ss)) ≡ true
    go true e h ih =
        let name = (bytes_eq-Decides s.client (made_up q)).0 e in
        ap (λ (b : Bool). b || list_any (eqb q) (numbers n ss)) (eq-eqb q (number_of n s.client) (sym (ap (number_of n) name ∙ number_made_up n q less most)))
    go false e h ih = or_true (eqb q (number_of n s.client)) (list_any (eqb q) (numbers n ss)) (ih h)

-- a list of sessions doesn't use one name more than it has sessions
not_all : (ss : List HubSession) → length ss < 2 ^ 64 → ((m : ℕ) → m < length ss + 1 → Taken ss m) → ⊥
not_all ss most taken =
    let n = length ss + 1 in
    let few = le-length_from_below (numbers n ss) n (λ q less. listed n q ss less (omega arith) (taken q less)) in
    let same = length-map ss (λ (s : HubSession). number_of n s.client) in
    omega arith

free_none : (o : Option ℕ) → is_some o ≡ false → o ≡ None
free_none None e = refl
free_none (Some key) e = absurd (true≢false e)

least_from : (more n last : ℕ) (ss : List HubSession) → n + more ≡ last → ((m : ℕ) → m < n → Taken ss m) → (((m : ℕ) → m < last → Taken ss m) → key_of (made_up last) ss ≡ None)
    → IsLeastFree (made_up_from more n ss) ss
least_from zero n last ss sum below free =
    let same : n ≡ last = omega (arith, sum) in
    record {
      number = n;
      is = refl;
      free = ap (λ (m : ℕ). key_of (made_up m) ss) same ∙ free (subst (λ (l : ℕ). (m : ℕ) → m < l → Taken ss m) same below);
      least = below;
    }
least_from (suc more) n last ss sum below free = go (is_some (key_of (made_up n) ss)) refl (least_from more (n + 1) last ss (omega (arith, sum)))
  where
    up_to : Taken ss n → (m : ℕ) → m < n + 1 → Taken ss m
    up_to here m less = pick (eqb m n) refl
      where
        pick : (b : Bool) → eqb m n ≡ b → Taken ss m
        pick true e = subst (Taken ss) (sym (eqb-true m n e)) here
        pick false e = let differ = eqb-false m n e in below m (omega (arith, differ))

    go : (b : Bool) → is_some (key_of (made_up n) ss) ≡ b
        → (((m : ℕ) → m < n + 1 → Taken ss m) → (((m : ℕ) → m < last → Taken ss m) → key_of (made_up last) ss ≡ None) → IsLeastFree (made_up_from more (n + 1) ss) ss)
        → IsLeastFree (cond b (made_up_from more (n + 1) ss) (made_up n)) ss
    go true e ih = ih (up_to e) free
    go false e ih = record { number = n; is = refl; free = free_none (key_of (made_up n) ss) e; least = below }

assigned : (ss : List HubSession) → length ss < 2 ^ 64 → IsLeastFree (made_up_from (length ss) 0 ss) ss
assigned ss most = least_from (length ss) 0 (length ss) ss (omega arith) (λ m less. absurd (omega arith)) last_free
  where
    last_free : ((m : ℕ) → m < length ss → Taken ss m) → key_of (made_up (length ss)) ss ≡ None
    last_free below = go (is_some (key_of (made_up (length ss)) ss)) refl
      where
        all : Taken ss (length ss) → (m : ℕ) → m < length ss + 1 → Taken ss m
        all here m less = pick (eqb m (length ss)) refl
          where
            pick : (b : Bool) → eqb m (length ss) ≡ b → Taken ss m
            pick true e = subst (Taken ss) (sym (eqb-true m (length ss) e)) here
            pick false e = let differ = eqb-false m (length ss) e in below m (omega (arith, differ))

        go : (b : Bool) → is_some (key_of (made_up (length ss)) ss) ≡ b → key_of (made_up (length ss)) ss ≡ None
        go true e = absurd (not_all ss most (all e))
        go false e = free_none (key_of (made_up (length ss)) ss) e

pub laws : NameLaws
laws = record {
  assigned = λ connect ss most none.
      subst (λ (name : List ℕ). IsLeastFree name ss)
      (sym (cond-true (eqb (length connect.client_id) 0) (made_up_from (length ss) 0 ss) connect.client_id (ap (λ (b : List ℕ). eqb (length b) 0) none))) (assigned ss most);
}
