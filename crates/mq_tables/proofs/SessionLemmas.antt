-- The table of sessions: a key's index, its session, and the keys of client identifiers.
use Rattle.std.proofs.Common.{◌≡◌, ℕ, zero, suc, ◌+◌, ◌<◌, ◌≤◌, Bool, true, false, cond, not, List, [], ◌∷◌, ◌++◌, length, get_or, take, drop, slice_get, map, Option, Some, None, refl, sym, ap, subst, ◌∙◌, arith, eqb, ltb, eqb-true, eq-eqb, ltb-true, ltb-false, lt-ltb, true≢false}
use Rattle.std.proofs.lemmas.Bool.{cond-true, cond-false, le-ltb, ne_eqb}
use Rattle.std.proofs.Math.ListN.{set}
use Rattle.std.specs.List.{AllByRecursion, prefix_len, remove}
use Rattle.std.specs.List.Sorted.{IsPartitionedBy}
use Rattle.std.specs.Borrow.{Bor}
use Rattle.std.specs.Option.{is_some, option_copied}
use Rattle.std.specs.Str.{bytes_eq}
use Rattle.mq_end.specs.State.{EndState}
use Rattle.mq_route.specs.Hub.{key_of}
use Rattle.mq_tables.specs.declared.sessions.session.BrokerSession.{BrokerSession}
use Rattle.mq_tables.specs.Sessions.{sessions_of, session_at, with_server, without_key, AreBelow, AreAscending, AreDistinct, AreSessions}
use Rattle.mq_tables.proofs.ByteLists.{same_bytes, bytes_symm, bytes_itself}

-- ---- indices

-- the number of keys below one
abbrev pub place : ℕ → List BrokerSession → ℕ
place key ts = prefix_len (λ t. ltb t.key key) ts

above : (low : ℕ) (ts : List BrokerSession) → AllByRecursion (λ s. low < s.key) ts → (j : ℕ) (d : BrokerSession) → j < length ts → low < (get_or ts j d).key
above low [] all j d l = absurd (omega arith)
above low (t ∷ ts) all zero d l = all.0
above low (t ∷ ts) all (suc j) d l = above low ts all.1 j d (omega arith)

-- the index of a key is the number of keys below it
pub known_place : (key : ℕ) (ts : List BrokerSession) (i : ℕ) (d : BrokerSession) → AreAscending ts → i < length ts → (get_or ts i d).key ≡ key → i ≡ place key ts
known_place key [] i d up within same = absurd (omega arith)
known_place key (t ∷ ts) zero d up within same = rw (le-ltb t.key key (omega (arith, same))) refl
known_place key (t ∷ ts) (suc i) d up within same =
    let low : ltb t.key key ≡ true = lt-ltb t.key key (omega (arith, above t.key ts up.0 i d (omega arith), same)) in
    let rest : i ≡ place key ts = known_place key ts i d up.1 (omega arith) same in
    rw low (omega arith)

-- those with keys below are in front
pub partitioned : (key : ℕ) (ts : List BrokerSession) → AreAscending ts → IsPartitionedBy (λ t. ltb t.key key) ts
partitioned key [] up i j d a b p = absurd (omega arith)
partitioned key (t ∷ ts) up zero zero d a b p = p
partitioned key (t ∷ ts) up zero (suc j) d a b p =
    lt-ltb t.key key (omega (arith, above t.key ts up.0 j d (omega arith), ltb-true (get_or ts j d).key key p))
partitioned key (t ∷ ts) up (suc i) zero d a b p = absurd (omega arith)
partitioned key (t ∷ ts) up (suc i) (suc j) d a b p = partitioned key ts up.1 i j d (omega arith) (omega arith) p

-- those in front of an index are those that pass the test
pub point : (p : BrokerSession → Bool) (ts : List BrokerSession) (i : ℕ) → i ≤ length ts
    → ((k : ℕ) (d : BrokerSession) → k < i → p (get_or ts k d) ≡ true) → ((k : ℕ) (d : BrokerSession) → i ≤ k → k < length ts → p (get_or ts k d) ≡ false) → i ≡ prefix_len p ts
point p [] i le passes fails = omega arith
point p (t ∷ ts) zero le passes fails = rw (fails 0 t (omega arith) (omega arith)) refl
point p (t ∷ ts) (suc i) le passes fails =
    let rest : i ≡ prefix_len p ts = point p ts i (omega arith) (λ k d a. passes (suc k) d (omega arith)) (λ k d a b. fails (suc k) d (omega arith) (omega arith)) in
    rw (passes 0 t (omega arith)) (omega arith)

-- ---- the session of a key

-- the session at an index, if it has the key
abbrev pub at_place : ℕ → Option BrokerSession → Option BrokerSession
at_place key None = None
at_place key (Some t) = cond (eqb t.key key) (Some t) None

-- keys above this one are not it
none_above : (key low : ℕ) (ts : List BrokerSession) → key ≤ low → AllByRecursion (λ s. low < s.key) ts → session_at key ts ≡ None
none_above key low [] le all = refl
none_above key low (t ∷ ts) le all =
    let l = all.0 in
    cond-false (eqb t.key key) (Some t) (session_at key ts) (ne_eqb t.key key (λ e. omega arith)) ∙ none_above key low ts le all.1

some_none : {X : Type 0} {x : X} → Some x ≡ None → ⊥
some_none e = absurd cc

pub some_same : {X : Type 0} {x y : X} → Some x ≡ Some y → x ≡ y
some_same e = cc

le_same : (a b : ℕ) → eqb a b ≡ true → b ≤ a
le_same a b e = let w = eqb-true a b e in omega arith

one_more : (n : ℕ) → 1 + n ≡ suc n
one_more n = omega arith

pub found : (key : ℕ) (ts : List BrokerSession) → AreAscending ts → session_at key ts ≡ at_place key (slice_get ts (place key ts))
found key [] up = refl
found key (t ∷ ts) up = go (ltb t.key key) refl (found key ts up.1)
  where
    go : (b : Bool) → ltb t.key key ≡ b → session_at key ts ≡ at_place key (slice_get ts (place key ts)) → session_at key (t ∷ ts) ≡ at_place key (slice_get (t ∷ ts) (place key (t ∷ ts)))
    go true below rest =
        let l : t.key < key = ltb-true t.key key below in
        let apart : eqb t.key key ≡ false = ne_eqb t.key key (λ e. omega arith) in
        cond-false (eqb t.key key) (Some t) (session_at key ts) apart ∙ rest
        ∙ ap (λ (n : ℕ). at_place key (slice_get (t ∷ ts) n)) (sym (one_more (place key ts)) ∙ sym (cond-true (ltb t.key key) (1 + place key ts) 0 below))
    go false over rest =
        let l : key ≤ t.key = ltb-false t.key key over in
        ap (λ (o : Option BrokerSession). cond (eqb t.key key) (Some t) o) (none_above key t.key ts l up.0)
        ∙ ap (λ (n : ℕ). at_place key (slice_get (t ∷ ts) n)) (sym (cond-false (ltb t.key key) (1 + place key ts) 0 over))

-- ---- a session is removed

kept_above : (key low : ℕ) (ts : List BrokerSession) → key ≤ low → AllByRecursion (λ s. low < s.key) ts → without_key key ts ≡ ts
kept_above key low [] le all = refl
kept_above key low (t ∷ ts) le all =
    let l = all.0 in
    rw (ne_eqb t.key key (λ e. omega arith)) (ap (λ (rs : List BrokerSession). t ∷ rs) (kept_above key low ts le all.1))

pub absent : (key : ℕ) (ts : List BrokerSession) → session_at key ts ≡ None → without_key key ts ≡ ts
absent key [] none = refl
absent key (t ∷ ts) none = go (eqb t.key key) refl (absent key ts)
  where
    go : (b : Bool) → eqb t.key key ≡ b → (session_at key ts ≡ None → without_key key ts ≡ ts) → without_key key (t ∷ ts) ≡ t ∷ ts
    go true same rest = let w : Some t ≡ None = sym (cond-true (eqb t.key key) (Some t) (session_at key ts) same) ∙ none in absurd cc
    go false apart rest = rw apart (ap (λ (rs : List BrokerSession). t ∷ rs) (rest (sym (cond-false (eqb t.key key) (Some t) (session_at key ts) apart) ∙ none)))

pub taken : (key : ℕ) (t : BrokerSession) (ts : List BrokerSession) → AreAscending ts → session_at key ts ≡ Some t → remove ts (place key ts) ≡ without_key key ts
taken key t [] up there = absurd cc
taken key t (s ∷ ts) up there = go (ltb s.key key) refl (taken key t ts up.1)
  where
    go : (b : Bool) → ltb s.key key ≡ b → (session_at key ts ≡ Some t → remove ts (place key ts) ≡ without_key key ts) → remove (s ∷ ts) (place key (s ∷ ts)) ≡ without_key key (s ∷ ts)
    go true below rest =
        let l : s.key < key = ltb-true s.key key below in
        let apart : eqb s.key key ≡ false = ne_eqb s.key key (λ e. omega arith) in
        let later = rest (sym (cond-false (eqb s.key key) (Some s) (session_at key ts) apart) ∙ there) in
        ap (λ (n : ℕ). remove (s ∷ ts) n) (cond-true (ltb s.key key) (1 + place key ts) 0 below ∙ one_more (place key ts))
        ∙ ap (λ (rs : List BrokerSession). s ∷ rs) later ∙ (rw apart refl)
    go false over rest =
        let l : key ≤ s.key = ltb-false s.key key over in
        let same : eqb s.key key ≡ true = first (eqb s.key key) refl in
        ap (λ (n : ℕ). remove (s ∷ ts) n) (cond-false (ltb s.key key) (1 + place key ts) 0 over)
        ∙ sym (kept_above key s.key ts l up.0) ∙ (rw same refl)
      where
        first : (b : Bool) → eqb s.key key ≡ b → eqb s.key key ≡ true
        first true e = e
        first false e =
            let w : None ≡ Some t = sym (none_above key s.key ts (ltb-false s.key key over) up.0) ∙ sym (cond-false (eqb s.key key) (Some s) (session_at key ts) e) ∙ there in
            absurd cc

-- ---- what stays true

pub below_last : (t : BrokerSession) (ts : List BrokerSession) → AreAscending ts → AreBelow t.key ts → AreAscending (ts ++ t ∷ [])
below_last t [] up below = (tt, tt)
below_last t (s ∷ ts) up below = (all_last s.key t ts up.0 below.0, below_last t ts up.1 below.1)
  where
    all_last : (low : ℕ) (t : BrokerSession) (ts : List BrokerSession) → AllByRecursion (λ s. low < s.key) ts → low < t.key → AllByRecursion (λ s. low < s.key) (ts ++ t ∷ [])
    all_last low t [] all l = (l, tt)
    all_last low t (s ∷ ts) all l = (all.0, all_last low t ts all.1 l)

all_kept : (key low : ℕ) (ts : List BrokerSession) → AllByRecursion (λ s. low < s.key) ts → AllByRecursion (λ s. low < s.key) (without_key key ts)
all_kept key low [] all = tt
all_kept key low (t ∷ ts) all = go (not (eqb t.key key)) (all_kept key low ts all.1)
  where
    go : (b : Bool) → AllByRecursion (λ s. low < s.key) (without_key key ts) → AllByRecursion (λ s. low < s.key) (cond b (t ∷ without_key key ts) (without_key key ts))
    go true rest = (all.0, rest)
    go false rest = rest

pub ascending_without : (key : ℕ) (ts : List BrokerSession) → AreAscending ts → AreAscending (without_key key ts)
ascending_without key [] up = tt
ascending_without key (t ∷ ts) up = go (not (eqb t.key key)) (ascending_without key ts up.1)
  where
    go : (b : Bool) → AreAscending (without_key key ts) → AreAscending (cond b (t ∷ without_key key ts) (without_key key ts))
    go true rest = (all_kept key t.key ts up.0, rest)
    go false rest = rest

-- ---- client identifiers

-- if a new session goes last
pub named_last : (n : List ℕ) (t : BrokerSession) (ts : List BrokerSession) → key_of t.client (sessions_of ts) ≡ None
    → key_of n (sessions_of (ts ++ t ∷ [])) ≡ cond (bytes_eq t.client n) (Some t.key) (key_of n (sessions_of ts))
named_last n t [] none = refl
named_last n t (s ∷ ts) none = split (bytes_eq s.client t.client) refl (named_last n t ts)
  where
    go : (a : Bool) → bytes_eq s.client n ≡ a → (b : Bool) → bytes_eq t.client n ≡ b → bytes_eq s.client t.client ≡ false
        → key_of n (sessions_of (ts ++ t ∷ [])) ≡ cond (bytes_eq t.client n) (Some t.key) (key_of n (sessions_of ts))
        → key_of n (sessions_of (s ∷ ts ++ t ∷ [])) ≡ cond (bytes_eq t.client n) (Some t.key) (key_of n (sessions_of (s ∷ ts)))
    go true ea true eb apart rest =
        let here : bytes_eq s.client t.client ≡ true = subst (λ (k : List ℕ). bytes_eq s.client k ≡ true) (sym (same_bytes t.client n eb)) ea in
        absurd (true≢false (sym here ∙ apart))
    go true ea false eb apart rest = rw (ea, eb) refl
    go false ea b eb apart rest = rw ea rest

    split : (c : Bool) → bytes_eq s.client t.client ≡ c
        → (key_of t.client (sessions_of ts) ≡ None → key_of n (sessions_of (ts ++ t ∷ [])) ≡ cond (bytes_eq t.client n) (Some t.key) (key_of n (sessions_of ts)))
        → key_of n (sessions_of (s ∷ ts ++ t ∷ [])) ≡ cond (bytes_eq t.client n) (Some t.key) (key_of n (sessions_of (s ∷ ts)))
    split true same rest =
        absurd (some_none (sym (cond-true (bytes_eq s.client t.client) (Some s.key) (key_of t.client (sessions_of ts)) same) ∙ none))
    split false apart rest =
        go (bytes_eq s.client n) refl (bytes_eq t.client n) refl apart (rest (sym (cond-false (bytes_eq s.client t.client) (Some s.key) (key_of t.client (sessions_of ts)) apart) ∙ none))

-- no two sessions have one identifier, after a new one too
pub distinct_last : (t : BrokerSession) (ts : List BrokerSession) → AreDistinct ts → key_of t.client (sessions_of ts) ≡ None → AreDistinct (ts ++ t ∷ [])
distinct_last t [] distinct none = (refl, tt)
distinct_last t (s ∷ ts) distinct none = split (bytes_eq s.client t.client) refl (distinct_last t ts distinct.1)
  where
    split : (c : Bool) → bytes_eq s.client t.client ≡ c → (key_of t.client (sessions_of ts) ≡ None → AreDistinct (ts ++ t ∷ [])) → AreDistinct (s ∷ ts ++ t ∷ [])
    split true same rest =
        absurd (some_none (sym (cond-true (bytes_eq s.client t.client) (Some s.key) (key_of t.client (sessions_of ts)) same) ∙ none))
    split false apart rest =
        let other = sym (cond-false (bytes_eq s.client t.client) (Some s.key) (key_of t.client (sessions_of ts)) apart) ∙ none in
        let flipped : bytes_eq t.client s.client ≡ false = bytes_symm t.client s.client ∙ apart in
        (named_last s.client t ts other ∙ cond-false (bytes_eq t.client s.client) (Some t.key) (key_of s.client (sessions_of ts)) flipped ∙ distinct.0, rest other)

-- a session's identifier is found
pub there : (key : ℕ) (t : BrokerSession) (ts : List BrokerSession) → session_at key ts ≡ Some t → is_some (key_of t.client (sessions_of ts)) ≡ true
there key t [] e = absurd cc
there key t (s ∷ ts) e = go (eqb s.key key) refl (there key t ts)
  where
    later : (c : Bool) → is_some (key_of t.client (sessions_of ts)) ≡ true → is_some (cond c (Some s.key) (key_of t.client (sessions_of ts))) ≡ true
    later true r = refl
    later false r = r

    go : (b : Bool) → eqb s.key key ≡ b → (session_at key ts ≡ Some t → is_some (key_of t.client (sessions_of ts)) ≡ true) → is_some (key_of t.client (sessions_of (s ∷ ts))) ≡ true
    go true same rest =
        let w : Some s ≡ Some t = sym (cond-true (eqb s.key key) (Some s) (session_at key ts) same) ∙ e in
        let is : s ≡ t = cc in
        let own : bytes_eq s.client t.client ≡ true = subst (λ (x : BrokerSession). bytes_eq s.client x.client ≡ true) is (bytes_itself s.client) in
        ap is_some (cond-true (bytes_eq s.client t.client) (Some s.key) (key_of t.client (sessions_of ts)) own)
    go false apart rest =
        later (bytes_eq s.client t.client) (rest (sym (cond-false (eqb s.key key) (Some s) (session_at key ts) apart) ∙ e))

-- the identifiers that are found after a session is removed
pub named_without : (n : List ℕ) (key : ℕ) (t : BrokerSession) (ts : List BrokerSession) → AreAscending ts → AreDistinct ts → session_at key ts ≡ Some t
    → key_of n (sessions_of (without_key key ts)) ≡ cond (bytes_eq t.client n) None (key_of n (sessions_of ts))
named_without n key t [] up distinct e = absurd cc
named_without n key t (s ∷ ts) up distinct e = go (eqb s.key key) refl (named_without n key t ts up.1 distinct.1)
  where
    -- the first one is removed
    first : (c : Bool) → bytes_eq s.client n ≡ c → key_of n (sessions_of ts) ≡ cond (bytes_eq s.client n) None (key_of n (sessions_of (s ∷ ts)))
    first true same = rw same (subst (λ (k : List ℕ). key_of k (sessions_of ts) ≡ None) (same_bytes s.client n same) distinct.0)
    first false apart = rw apart refl

    other : (c : Bool) → bytes_eq s.client n ≡ c → (d : Bool) → bytes_eq t.client n ≡ d → is_some (key_of t.client (sessions_of ts)) ≡ true
        → cond (bytes_eq s.client n) (Some s.key) (cond (bytes_eq t.client n) None (key_of n (sessions_of ts))) ≡ cond (bytes_eq t.client n) None (key_of n (sessions_of (s ∷ ts)))
    other true ec true ed found =
        let is : s.client ≡ t.client = same_bytes s.client n ec ∙ sym (same_bytes t.client n ed) in
        absurd (true≢false (sym found ∙ ap is_some (subst (λ (k : List ℕ). key_of k (sessions_of ts) ≡ None) is distinct.0)))
    other true ec false ed found = rw (ec, ed) refl
    other false ec true ed found = rw (ec, ed) refl
    other false ec false ed found = rw (ec, ed) refl

    go : (b : Bool) → eqb s.key key ≡ b
        → (session_at key ts ≡ Some t → key_of n (sessions_of (without_key key ts)) ≡ cond (bytes_eq t.client n) None (key_of n (sessions_of ts)))
        → key_of n (sessions_of (without_key key (s ∷ ts))) ≡ cond (bytes_eq t.client n) None (key_of n (sessions_of (s ∷ ts)))
    go true same rest =
        let w : Some s ≡ Some t = sym (cond-true (eqb s.key key) (Some s) (session_at key ts) same) ∙ e in
        let is : s ≡ t = cc in
        let left : without_key key (s ∷ ts) ≡ ts = (rw same refl) ∙ kept_above key s.key ts (le_same s.key key same) up.0 in
        ap (λ (rs : List BrokerSession). key_of n (sessions_of rs)) left
        ∙ subst (λ (x : BrokerSession). key_of n (sessions_of ts) ≡ cond (bytes_eq x.client n) None (key_of n (sessions_of (s ∷ ts)))) is (first (bytes_eq s.client n) refl)
    go false apart rest =
        let later = sym (cond-false (eqb s.key key) (Some s) (session_at key ts) apart) ∙ e in
        let left : without_key key (s ∷ ts) ≡ s ∷ without_key key ts = rw apart refl in
        ap (λ (rs : List BrokerSession). key_of n (sessions_of rs)) left
        ∙ ap (λ (o : Option ℕ). cond (bytes_eq s.client n) (Some s.key) o) (rest later)
        ∙ other (bytes_eq s.client n) refl (bytes_eq t.client n) refl (there key t ts later)

none_without : (n : List ℕ) (key : ℕ) (ts : List BrokerSession) → key_of n (sessions_of ts) ≡ None → key_of n (sessions_of (without_key key ts)) ≡ None
none_without n key [] none = refl
none_without n key (t ∷ ts) none = go (bytes_eq t.client n) refl (eqb t.key key) refl (none_without n key ts)
  where
    go : (a : Bool) → bytes_eq t.client n ≡ a → (b : Bool) → eqb t.key key ≡ b → (key_of n (sessions_of ts) ≡ None → key_of n (sessions_of (without_key key ts)) ≡ None)
        → key_of n (sessions_of (without_key key (t ∷ ts))) ≡ None
    go true ea b eb rest = absurd (some_none (sym (cond-true (bytes_eq t.client n) (Some t.key) (key_of n (sessions_of ts)) ea) ∙ none))
    go false ea b eb rest = by b eb (rest (sym (cond-false (bytes_eq t.client n) (Some t.key) (key_of n (sessions_of ts)) ea) ∙ none))
      where
        by : (b : Bool) → eqb t.key key ≡ b → key_of n (sessions_of (without_key key ts)) ≡ None → key_of n (sessions_of (without_key key (t ∷ ts))) ≡ None
        by true eb left = rw eb left
        by false eb left = rw (eb, ea) left

-- a client whose session is removed has none
pub none_taken : (n : List ℕ) (key : ℕ) (ts : List BrokerSession) → AreDistinct ts → key_of n (sessions_of ts) ≡ Some key
    → key_of n (sessions_of (without_key key ts)) ≡ None
none_taken n key [] distinct e = refl
none_taken n key (t ∷ ts) distinct e = go (bytes_eq t.client n) refl (eqb t.key key) refl (none_taken n key ts distinct.1)
  where
    go : (a : Bool) → bytes_eq t.client n ≡ a → (b : Bool) → eqb t.key key ≡ b
        → (key_of n (sessions_of ts) ≡ Some key → key_of n (sessions_of (without_key key ts)) ≡ None)
        → key_of n (sessions_of (without_key key (t ∷ ts))) ≡ None
    go true same true own rest =
        let left : without_key key (t ∷ ts) ≡ without_key key ts = rw own refl in
        ap (λ (rs : List BrokerSession). key_of n (sessions_of rs)) left
        ∙ none_without n key ts (subst (λ (m : List ℕ). key_of m (sessions_of ts) ≡ None) (same_bytes t.client n same) distinct.0)
    go true same false apart rest =
        let w : Some t.key ≡ Some key = sym (cond-true (bytes_eq t.client n) (Some t.key) (key_of n (sessions_of ts)) same) ∙ e in
        let is : t.key ≡ key = cc in
        absurd (true≢false (sym (eq-eqb t.key key is) ∙ apart))
    go false other true own rest =
        let left : without_key key (t ∷ ts) ≡ without_key key ts = rw own refl in
        ap (λ (rs : List BrokerSession). key_of n (sessions_of rs)) left
        ∙ rest (sym (cond-false (bytes_eq t.client n) (Some t.key) (key_of n (sessions_of ts)) other) ∙ e)
    go false other false apart rest =
        let left : without_key key (t ∷ ts) ≡ t ∷ without_key key ts = rw apart refl in
        ap (λ (rs : List BrokerSession). key_of n (sessions_of rs)) left
        ∙ cond-false (bytes_eq t.client n) (Some t.key) (key_of n (sessions_of (without_key key ts))) other
        ∙ rest (sym (cond-false (bytes_eq t.client n) (Some t.key) (key_of n (sessions_of ts)) other) ∙ e)

pub distinct_without : (key : ℕ) (ts : List BrokerSession) → AreDistinct ts → AreDistinct (without_key key ts)
distinct_without key [] distinct = tt
distinct_without key (t ∷ ts) distinct = go (not (eqb t.key key)) (distinct_without key ts distinct.1)
  where
    go : (b : Bool) → AreDistinct (without_key key ts) → AreDistinct (cond b (t ∷ without_key key ts) (without_key key ts))
    go true rest = (none_without t.client key ts distinct.0, rest)
    go false rest = rest

-- ---- the session of a key acts

abbrev pub acting : (BrokerSession → BrokerSession) → ℕ → BrokerSession → BrokerSession
acting f key t = cond (eqb t.key key) (f t) t

-- the sessions after that of a key acted
abbrev pub acted_at : (BrokerSession → BrokerSession) → ℕ → List BrokerSession → List BrokerSession
acted_at f key ts = map (acting f key) ts

module _ (f : BrokerSession → BrokerSession) (key : ℕ) where
  pub acted_above : (low : ℕ) (ts : List BrokerSession) → key ≤ low → AllByRecursion (λ s. low < s.key) ts → acted_at f key ts ≡ ts
  acted_above low [] le all = refl
  acted_above low (t ∷ ts) le all =
      let l = all.0 in
      λ i. cond-false (eqb t.key key) (f t) t (ne_eqb t.key key (λ w. omega arith)) i ∷ acted_above low ts le all.1 i

  -- the session at the index of a key acts
  pub set_acted : (t : BrokerSession) (ts : List BrokerSession) → AreAscending ts → session_at key ts ≡ Some t → set ts (place key ts) (f t) ≡ acted_at f key ts
  set_acted t [] up there = absurd cc
  set_acted t (s ∷ ts) up there = go (ltb s.key key) refl (set_acted t ts up.1)
    where
      first : (b : Bool) → eqb s.key key ≡ b → key ≤ s.key → (s ≡ t) × (eqb s.key key ≡ true)
      first true same le = (some_same (sym (cond-true (eqb s.key key) (Some s) (session_at key ts) same) ∙ there), same)
      first false apart le =
          absurd (some_none (sym there ∙ cond-false (eqb s.key key) (Some s) (session_at key ts) apart ∙ none_above key s.key ts le up.0))

      go : (b : Bool) → ltb s.key key ≡ b → (session_at key ts ≡ Some t → set ts (place key ts) (f t) ≡ acted_at f key ts)
          → set (s ∷ ts) (place key (s ∷ ts)) (f t) ≡ acted_at f key (s ∷ ts)
      go true below rest =
          let l : s.key < key = ltb-true s.key key below in
          let apart : eqb s.key key ≡ false = ne_eqb s.key key (λ w. omega arith) in
          let later = rest (sym (cond-false (eqb s.key key) (Some s) (session_at key ts) apart) ∙ there) in
          ap (λ (n : ℕ). set (s ∷ ts) n (f t)) (cond-true (ltb s.key key) (1 + place key ts) 0 below ∙ one_more (place key ts))
          ∙ ap (λ (rs : List BrokerSession). s ∷ rs) later
          ∙ (λ i. sym (cond-false (eqb s.key key) (f s) s apart) i ∷ acted_at f key ts)
      go false over rest =
          let l : key ≤ s.key = ltb-false s.key key over in
          let w = first (eqb s.key key) refl l in
          ap (λ (n : ℕ). set (s ∷ ts) n (f t)) (cond-false (ltb s.key key) (1 + place key ts) 0 over)
          ∙ (λ i. sym (cond-true (eqb s.key key) (f s) s w.1 ∙ ap f w.0) i ∷ sym (acted_above s.key ts l up.0) i)

-- it keeps its key and its client identifier
module _ (f : BrokerSession → BrokerSession) (keyed : (t : BrokerSession) → (f t).key ≡ t.key) (named : (t : BrokerSession) → (f t).client ≡ t.client) (key : ℕ) where
  pub named_acted : (n : List ℕ) (ts : List BrokerSession) → key_of n (sessions_of (acted_at f key ts)) ≡ key_of n (sessions_of ts)
  named_acted n [] = refl
  named_acted n (t ∷ ts) = go (eqb t.key key) (named_acted n ts)
    where
      go : (b : Bool) → key_of n (sessions_of (acted_at f key ts)) ≡ key_of n (sessions_of ts)
          → key_of n (sessions_of (cond b (f t) t ∷ acted_at f key ts)) ≡ key_of n (sessions_of (t ∷ ts))
      go true rest = λ i. cond (bytes_eq (named t i) n) (Some (keyed t i)) (rest i)
      go false rest = ap (λ (o : Option ℕ). cond (bytes_eq t.client n) (Some t.key) o) rest

  all_acted : (low : ℕ) (ts : List BrokerSession) → AllByRecursion (λ s. low < s.key) ts → AllByRecursion (λ s. low < s.key) (acted_at f key ts)
  all_acted low [] all = tt
  all_acted low (t ∷ ts) all = go (eqb t.key key) (all_acted low ts all.1)
    where
      go : (b : Bool) → AllByRecursion (λ s. low < s.key) (acted_at f key ts) → AllByRecursion (λ s. low < s.key) (cond b (f t) t ∷ acted_at f key ts)
      go true rest = (subst (λ (n : ℕ). low < n) (sym (keyed t)) all.0, rest)
      go false rest = (all.0, rest)

  pub ascending_acted : (ts : List BrokerSession) → AreAscending ts → AreAscending (acted_at f key ts)
  ascending_acted [] up = tt
  ascending_acted (t ∷ ts) up = go (eqb t.key key) (all_acted t.key ts up.0) (ascending_acted ts up.1)
    where
      go : (b : Bool) → AllByRecursion (λ s. t.key < s.key) (acted_at f key ts) → AreAscending (acted_at f key ts) → AreAscending (cond b (f t) t ∷ acted_at f key ts)
      go true all rest = (subst (λ (n : ℕ). AllByRecursion (λ s. n < s.key) (acted_at f key ts)) (sym (keyed t)) all, rest)
      go false all rest = (all, rest)

  distinct_acted : (ts : List BrokerSession) → AreDistinct ts → AreDistinct (acted_at f key ts)
  distinct_acted [] distinct = tt
  distinct_acted (t ∷ ts) distinct = go (eqb t.key key) (named_acted t.client ts ∙ distinct.0) (distinct_acted ts distinct.1)
    where
      go : (b : Bool) → key_of t.client (sessions_of (acted_at f key ts)) ≡ None → AreDistinct (acted_at f key ts) → AreDistinct (cond b (f t) t ∷ acted_at f key ts)
      go true none rest = (ap (λ (n : List ℕ). key_of n (sessions_of (acted_at f key ts))) (named t) ∙ none, rest)
      go false none rest = (none, rest)

  pub kept_acted : (ts : List BrokerSession) (find : List ℕ → Option ℕ) → AreSessions ts find → AreSessions (acted_at f key ts) find
  kept_acted ts find kept = record {
    ascending = ascending_acted ts kept.ascending;
    distinct = distinct_acted ts kept.distinct;
    named = λ n. kept.named n ∙ sym (named_acted n ts);
  }

-- ---- another end

pub named_with : (n : List ℕ) (key : ℕ) (e : EndState) (ts : List BrokerSession) → key_of n (sessions_of (with_server key e ts)) ≡ key_of n (sessions_of ts)
named_with n key e ts = named_acted (λ t. record t { end = e }) (λ t. refl) (λ t. refl) key n ts

pub ascending_with : (key : ℕ) (e : EndState) (ts : List BrokerSession) → AreAscending ts → AreAscending (with_server key e ts)
ascending_with key e ts up = ascending_acted (λ t. record t { end = e }) (λ t. refl) (λ t. refl) key ts up

-- ---- at the index of a key

pub at_there : (key : ℕ) (t : BrokerSession) (o : Option BrokerSession) → at_place key o ≡ Some t → o ≡ Some t
at_there key t None e = absurd cc
at_there key t (Some s) e = go (eqb s.key key) refl
  where
    go : (b : Bool) → eqb s.key key ≡ b → Some s ≡ Some t
    go true same = sym (cond-true (eqb s.key key) (Some s) None same) ∙ e
    go false apart = absurd (some_none (sym e ∙ cond-false (eqb s.key key) (Some s) None apart))

pub there_place : (key : ℕ) (t : BrokerSession) (ts : List BrokerSession) → AreAscending ts → session_at key ts ≡ Some t → slice_get ts (place key ts) ≡ Some t
there_place key t ts up e = at_there key t (slice_get ts (place key ts)) (sym (found key ts up) ∙ e)

pub inside : (t : BrokerSession) (ts : List BrokerSession) (i : ℕ) → slice_get ts i ≡ Some t → i < length ts
inside t [] zero e = absurd cc
inside t [] (suc i) e = absurd cc
inside t (s ∷ ts) zero e = omega arith
inside t (s ∷ ts) (suc i) e = let l = inside t ts i e in omega arith

pub got : (t d : BrokerSession) (ts : List BrokerSession) (i : ℕ) → slice_get ts i ≡ Some t → get_or ts i d ≡ t
got t d [] zero e = absurd cc
got t d [] (suc i) e = absurd cc
got t d (s ∷ ts) zero e = cc
got t d (s ∷ ts) (suc i) e = got t d ts i e

pub past : (ts : List BrokerSession) (i : ℕ) → length ts ≤ i → slice_get ts i ≡ None
past [] zero le = refl
past [] (suc i) le = refl
past (s ∷ ts) zero le = absurd (omega arith)
past (s ∷ ts) (suc i) le = past ts i (omega arith)

pub got_some : (d : BrokerSession) (ts : List BrokerSession) (i : ℕ) → i < length ts → slice_get ts i ≡ Some (get_or ts i d)
got_some d [] i l = absurd (omega arith)
got_some d (s ∷ ts) zero l = refl
got_some d (s ∷ ts) (suc i) l = got_some d ts i (omega arith)

-- ---- the invariant of the table

pub kept_last : (t : BrokerSession) (ts : List BrokerSession) (find after : List ℕ → Option ℕ) → AreSessions ts find → AreBelow t.key ts → key_of t.client (sessions_of ts) ≡ None
    → ((n : List ℕ) → after n ≡ cond (bytes_eq t.client n) (Some t.key) (find n)) → AreSessions (ts ++ t ∷ []) after
kept_last t ts find after kept below none says = record {
  ascending = below_last t ts kept.ascending below;
  distinct = distinct_last t ts kept.distinct none;
  named = λ n. says n ∙ ap (λ (o : Option ℕ). cond (bytes_eq t.client n) (Some t.key) o) (kept.named n) ∙ sym (named_last n t ts none);
}

pub kept_without : (key : ℕ) (t : BrokerSession) (ts : List BrokerSession) (find after : List ℕ → Option ℕ) → AreSessions ts find → session_at key ts ≡ Some t
    → ((n : List ℕ) → after n ≡ cond (bytes_eq t.client n) None (find n)) → AreSessions (without_key key ts) after
kept_without key t ts find after kept there says = record {
  ascending = ascending_without key ts kept.ascending;
  distinct = distinct_without key ts kept.distinct;
  named = λ n. says n ∙ ap (λ (o : Option ℕ). cond (bytes_eq t.client n) None o) (kept.named n) ∙ sym (named_without n key t ts kept.ascending kept.distinct there);
}

pub shorter : (key : ℕ) (ts : List BrokerSession) → length (without_key key ts) ≤ length ts
shorter key [] = omega arith
shorter key (t ∷ ts) = go (not (eqb t.key key)) (shorter key ts)
  where
    go : (b : Bool) → length (without_key key ts) ≤ length ts → length (cond b (t ∷ without_key key ts) (without_key key ts)) ≤ length (t ∷ ts)
    go true le = omega arith
    go false le = omega arith

-- ---- the index of a key's session

pub copied_there : (o : Option (Bor BrokerSession)) → is_some o ≡ true → is_some (option_copied o) ≡ true
copied_there None there = absurd (true≢false (sym there))
copied_there (Some t) there = refl

-- the session at the index of the key
pub record InPlace (key : ℕ) (ts : List BrokerSession) (d : BrokerSession) : Type 0 where
  pub within : place key ts < length ts
  pub here : session_at key ts ≡ Some (get_or ts (place key ts) d)

pub in_place : (key : ℕ) (ts : List BrokerSession) (d : BrokerSession) → AreAscending ts → is_some (session_at key ts) ≡ true → InPlace key ts d
in_place key ts d up there = go (session_at key ts) refl
  where
    go : (o : Option BrokerSession) → session_at key ts ≡ o → InPlace key ts d
    go None e = absurd (true≢false (sym there ∙ ap is_some e))
    go (Some t) e =
        let at = there_place key t ts up e in
        record { within = inside t ts (place key ts) at; here = e ∙ ap (λ (x : BrokerSession). Some x) (sym (got t d ts (place key ts) at)) }

pub found_within : (key : ℕ) (ts : List BrokerSession) → AreAscending ts → is_some (session_at key ts) ≡ true → place key ts < length ts
found_within key [] up there = absurd (true≢false (sym there))
found_within key (t ∷ ts) up there = (in_place key (t ∷ ts) t up there).within

pub copied_none : (o : Option (Bor BrokerSession)) → is_some o ≡ false → option_copied o ≡ None
copied_none None none = refl
copied_none (Some t) none = absurd (true≢false none)

-- ---- a list that was written through

pub written : (new ts : List BrokerSession) → length new ≡ length ts → take (length ts) (new ++ drop (length new) ts) ≡ new
written [] [] same = refl
written [] (t ∷ ts) same = absurd (omega arith)
written (x ∷ new) [] same = absurd (omega arith)
written (x ∷ new) (t ∷ ts) same = ap (λ (rs : List BrokerSession). x ∷ rs) (written new ts (omega arith))
