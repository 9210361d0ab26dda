-- The connection of a client, given that names are distinct and a client has at most one
-- connection.
use Rattle.std.proofs.Common.{◌≡◌, ℕ, Bool, true, false, not, cond, List, [], ◌∷◌, ◌++◌, map, Option, Some, None, refl, sym, ap, ap₂, subst, ◌∙◌, eqb, eqb-true, eq-eqb, true≢false, ◌||◌}
use Rattle.std.proofs.lemmas.Bool.{cond_both, cond-true, cond-false, or_parts, or_from, false_from_ne_true}
use Rattle.mq_route.specs.declared.conn.Conn.{Conn}
use Rattle.mq_route.specs.declared.connection_state.ConnectionState.{ConnectionState}
use Rattle.mq_route.specs.declared.connection_state.ConnectionState.TheVariants.{AwaitingConnect, ConnectedAs, Closed}
use Rattle.mq_route.specs.declared.connection_state.ConnectionTerms.{ConnectionTerms}
use Rattle.mq_route.specs.Routed.{same_conn, unless_on}
use Rattle.mq_route.specs.Hub.{HubConnection, is_connection, knows, stage_of, changed, with_connection, without_connection, key_on, is_clean, is_for}
use Rattle.mq_route.proofs.Lines.{one_conn, same_conn-itself, upper_than, upper, conn_in, Names, Ups, names_changed, knows_map, upper_map, unknown, unknown_shut}

-- names are distinct, and each client is connected on at most one connection
abbrev pub Apart : List HubConnection → Type 0
Apart [] = Unit {0}
Apart (x ∷ xs) = (knows x.conn xs ≡ false) × ((c : ℕ) → is_for c x.stage ≡ true → upper c xs ≡ None) × Apart xs

pub apart_map : (g : HubConnection → HubConnection) → Names g → Ups g → (xs : List HubConnection) → Apart xs → Apart (map g xs)
apart_map g h u [] a = tt
apart_map g h u (x ∷ xs) a = (
  knows_map g h (g x).conn xs ∙ ap (λ (n : Conn). knows n xs) (h x) ∙ a.0,
  λ c e. upper_map g h u c xs ∙ a.1 c (sym ((u x).0 c) ∙ e),
  apart_map g h u xs a.2,
)

-- the connection has no client
abbrev pub IsIdle : ConnectionState → Type 0
IsIdle s = (c : ℕ) → is_for c s ≡ false

pub idle : (s : ConnectionState) → key_on s ≡ None → IsIdle s
idle AwaitingConnect e = λ c. refl
idle (ConnectedAs key terms last_activity) e = absurd cc
idle Closed e = λ c. refl

-- ---- a connection is closed

abbrev pub unless : Conn → Option (Conn × Bool) → Option (Conn × Bool)
unless k None = None
unless k (Some u) = cond (same_conn u.0 k) None (Some u)

abbrev pub conn_or : Conn → Option (Conn × Bool) → Conn
conn_or k None = k
conn_or k (Some u) = u.0

pub unless_is : (k : Conn) (o : Option (Conn × Bool)) → conn_in (unless k o) ≡ unless_on k (conn_in o)
unless_is k None = refl
unless_is k (Some u) = go (same_conn u.0 k)
  where
    go : (b : Bool) → conn_in (cond b None (Some u)) ≡ cond b None (Some u.0)
    go true = refl
    go false = refl

-- a client is not connected on an unknown connection
unless_unknown : (k : Conn) (c : ℕ) (xs : List HubConnection) → knows k xs ≡ false → unless k (upper c xs) ≡ upper c xs
unless_unknown k c [] h = refl
unless_unknown k c (x ∷ xs) h = go (is_for c x.stage) (unless_unknown k c xs p.1)
  where
    p : (is_connection k x ≡ false) × (knows k xs ≡ false)
    p = or_parts (is_connection k x) (knows k xs) h

    go : (b : Bool) → unless k (upper c xs) ≡ upper c xs → unless k (upper_than b x (upper c xs)) ≡ upper_than b x (upper c xs)
    go true ih = cond-false (same_conn x.conn k) None (Some (x.conn, is_clean x.stage)) p.0
    go false ih = ih

pub upper_closed : (f : HubConnection → HubConnection) (k : Conn) → Names f → ((x : HubConnection) → IsIdle (f x).stage) → (xs : List HubConnection) → Apart xs → (c : ℕ) → upper c (with_connection f k xs) ≡ unless k (upper c xs)
upper_closed f k h s [] a c = refl
upper_closed f k h s (x ∷ xs) a c = go (is_connection k x) refl (upper_closed f k h s xs a.2 c)
  where
    there : is_connection k x ≡ true → (b : Bool) → is_for c x.stage ≡ b → upper c xs ≡ unless k (upper_than b x (upper c xs))
    there e true up = a.1 c up ∙ sym (cond-true (same_conn x.conn k) None (Some (x.conn, is_clean x.stage)) e)
    there e false up = sym (unless_unknown k c xs (subst (λ (n : Conn). knows n xs ≡ false) (one_conn x.conn k e) a.0))

    other : is_connection k x ≡ false → (b : Bool) → upper c (with_connection f k xs) ≡ unless k (upper c xs) → upper_than b x (upper c (with_connection f k xs)) ≡ unless k (upper_than b x (upper c xs))
    other e true ih = sym (cond-false (same_conn x.conn k) None (Some (x.conn, is_clean x.stage)) e)
    other e false ih = ih

    go : (t : Bool) → is_connection k x ≡ t → upper c (with_connection f k xs) ≡ unless k (upper c xs) → upper c (with_connection f k (x ∷ xs)) ≡ unless k (upper c (x ∷ xs))
    go true e ih =
        ap (λ (y : HubConnection). upper_than (is_for c y.stage) y (upper c (with_connection f k xs))) (cond-true (is_connection k x) (f x) x e)
        ∙ cond-false (is_for c (f x).stage) (Some ((f x).conn, is_clean (f x).stage)) (upper c (with_connection f k xs)) (s x c)
        ∙ ap (upper c) (unknown f k xs (subst (λ (n : Conn). knows n xs ≡ false) (one_conn x.conn k e) a.0))
        ∙ there e (is_for c x.stage) refl
    go false e ih =
        ap (λ (y : HubConnection). upper_than (is_for c y.stage) y (upper c (with_connection f k xs))) (cond-false (is_connection k x) (f x) x e)
        ∙ other e (is_for c x.stage) ih

unless_none : (k : Conn) (o : Option (Conn × Bool)) → o ≡ None → unless k o ≡ None
unless_none k o e = ap (unless k) e

pub apart_closed : (f : HubConnection → HubConnection) (k : Conn) → Names f → ((x : HubConnection) → IsIdle (f x).stage) → (xs : List HubConnection) → Apart xs → Apart (with_connection f k xs)
apart_closed f k h s [] a = tt
apart_closed f k h s (x ∷ xs) a = (
  knows_map (changed f k) (names_changed f k h) (changed f k x).conn xs ∙ ap (λ (n : Conn). knows n xs) (names_changed f k h x) ∙ a.0,
  λ c. cond_both (is_connection k x) (f x) x (λ (y : HubConnection). is_for c y.stage ≡ true → upper c (with_connection f k xs) ≡ None)
      (λ e up. absurd (true≢false (sym up ∙ s x c)))
      (λ e up. upper_closed f k h s xs a.2 c ∙ unless_none k (upper c xs) (a.1 c up)),
  apart_closed f k h s xs a.2,
)

-- ---- a connected connection

pub upper_at : (k : Conn) (key : ℕ) (terms : ConnectionTerms) (last_activity : ℕ) (xs : List HubConnection) → Apart xs → stage_of k xs ≡ ConnectedAs key terms last_activity → upper key xs ≡ Some (k, terms.clean_session)
upper_at k key terms last_activity [] a e = absurd cc
upper_at k key terms last_activity (x ∷ xs) a e = go (is_connection k x) refl (upper_at k key terms last_activity xs a.2)
  where
    below : upper key xs ≡ Some (k, terms.clean_session) → (b : Bool) → is_for key x.stage ≡ b → upper_than b x (upper key xs) ≡ Some (k, terms.clean_session)
    below ih true up = absurd (let clash : None ≡ Some (k, terms.clean_session) = sym (a.1 key up) ∙ ih in cc)
    below ih false up = ih

    go : (t : Bool) → is_connection k x ≡ t → (stage_of k xs ≡ ConnectedAs key terms last_activity → upper key xs ≡ Some (k, terms.clean_session)) → upper key (x ∷ xs) ≡ Some (k, terms.clean_session)
    go true l ih =
        let stage : x.stage ≡ ConnectedAs key terms last_activity = sym (cond-true (is_connection k x) x.stage (stage_of k xs) l) ∙ e in
        ap (λ (s : ConnectionState). cond (is_for key s) (Some (x.conn, is_clean s)) (upper key xs)) stage
        ∙ cond-true (eqb key key) (Some (x.conn, terms.clean_session)) (upper key xs) (eq-eqb key key refl)
        ∙ ap (λ (n : Conn). Some (n, terms.clean_session)) (one_conn x.conn k l)
    go false l ih =
        let stage : stage_of k xs ≡ ConnectedAs key terms last_activity = sym (cond-false (is_connection k x) x.stage (stage_of k xs) l) ∙ e in
        below (ih stage) (is_for key x.stage) refl

-- the client of a connection
pub upper_stage : (c : ℕ) (u : Conn × Bool) (xs : List HubConnection) → Apart xs → upper c xs ≡ Some u → is_for c (stage_of u.0 xs) ≡ true
upper_stage c u [] a e = absurd cc
upper_stage c u (x ∷ xs) a e = go (is_for c x.stage) refl (upper_stage c u xs a.2) e
  where
    below : is_for c (stage_of u.0 xs) ≡ true → (b : Bool) → is_connection u.0 x ≡ b → is_for c (cond b x.stage (stage_of u.0 xs)) ≡ true
    below ih false l = ih
    below ih true l =
        let none : stage_of u.0 xs ≡ Closed = unknown_shut u.0 xs (subst (λ (n : Conn). knows n xs ≡ false) (one_conn x.conn u.0 l) a.0) in
        absurd (true≢false (sym ih ∙ ap (is_for c) none))

    go : (b : Bool) → is_for c x.stage ≡ b → (upper c xs ≡ Some u → is_for c (stage_of u.0 xs) ≡ true) → upper_than b x (upper c xs) ≡ Some u → is_for c (stage_of u.0 (x ∷ xs)) ≡ true
    go true f ih h =
        let same : x.conn ≡ u.0 = ap (λ (o : Option (Conn × Bool)). conn_or x.conn o) h in
        subst (λ (n : Conn). is_for c (stage_of n (x ∷ xs)) ≡ true) same
        (ap (is_for c) (cond-true (same_conn x.conn x.conn) x.stage (stage_of x.conn xs) (same_conn-itself x.conn)) ∙ f)
    go false f ih h = below (ih h) (is_connection u.0 x) refl

-- closing a connection changes nothing for other clients
pub unless_other : (k : Conn) (c : ℕ) (xs : List HubConnection) → Apart xs → is_for c (stage_of k xs) ≡ false → unless k (upper c xs) ≡ upper c xs
unless_other k c xs a f = go (upper c xs) refl
  where
    go : (o : Option (Conn × Bool)) → upper c xs ≡ o → unless k o ≡ o
    go None e = refl
    go (Some u) e =
        cond-false (same_conn u.0 k) None (Some u)
        (false_from_ne_true (same_conn u.0 k) (λ same. true≢false (sym (subst (λ (n : Conn). is_for c (stage_of n xs) ≡ true) (one_conn u.0 k same) (upper_stage c u xs a e)) ∙ f)))

-- the connection gets a client
module _ (k : Conn) (key : ℕ) (terms : ConnectionTerms) (last_activity : ℕ) where
  abbrev pub risen : HubConnection → HubConnection
  risen x = record x { stage = ConnectedAs key terms last_activity }

  rest_none : (x : HubConnection) (xs : List HubConnection) → upper key (x ∷ xs) ≡ None → (is_for key x.stage ≡ false) × (upper key xs ≡ None)
  rest_none x xs e = go (is_for key x.stage) refl e
    where
      go : (b : Bool) → is_for key x.stage ≡ b → upper_than b x (upper key xs) ≡ None → (is_for key x.stage ≡ false) × (upper key xs ≡ None)
      go true t h = absurd cc
      go false t h = (t, h)

  pub upper_risen : (xs : List HubConnection) → Apart xs → knows k xs ≡ true → IsIdle (stage_of k xs) → upper key xs ≡ None → (c : ℕ)
      → upper c (with_connection risen k xs) ≡ cond (eqb key c) (Some (k, terms.clean_session)) (upper c xs)
  upper_risen [] a known free none c = absurd cc
  upper_risen (x ∷ xs) a known free none c = go (is_connection k x) refl (λ known free none. upper_risen xs a.2 known free none c)
    where
      r : (is_for key x.stage ≡ false) × (upper key xs ≡ None)
      r = rest_none x xs none

      head : Option (Conn × Bool)
      head = Some (k, terms.clean_session)

      other : upper c (with_connection risen k xs) ≡ cond (eqb key c) (Some (k, terms.clean_session)) (upper c xs) → (b : Bool) → is_for c x.stage ≡ b
          → upper_than b x (upper c (with_connection risen k xs)) ≡ cond (eqb key c) (Some (k, terms.clean_session)) (upper_than b x (upper c xs))
      other ih true up =
          let apart : eqb key c ≡ false = false_from_ne_true (eqb key c) (λ same. true≢false (sym up ∙ ap (λ (d : ℕ). is_for d x.stage) (sym (eqb-true key c same)) ∙ r.0)) in
          sym (cond-false (eqb key c) (Some (k, terms.clean_session)) (Some (x.conn, is_clean x.stage)) apart)
      other ih false up = ih

      go : (t : Bool) → is_connection k x ≡ t
          → (knows k xs ≡ true → IsIdle (stage_of k xs) → upper key xs ≡ None → upper c (with_connection risen k xs) ≡ cond (eqb key c) (Some (k, terms.clean_session)) (upper c xs))
          → upper c (with_connection risen k (x ∷ xs)) ≡ cond (eqb key c) (Some (k, terms.clean_session)) (upper c (x ∷ xs))
      go true e ih =
          let here : IsIdle x.stage = subst IsIdle (cond-true (is_connection k x) x.stage (stage_of k xs) e) free in
          ap (λ (y : HubConnection). upper_than (is_for c y.stage) y (upper c (with_connection risen k xs))) (cond-true (is_connection k x) (risen x) x e)
          ∙ ap₂ (λ (n : Conn) (o : Option (Conn × Bool)). cond (eqb key c) (Some (n, terms.clean_session)) o) (one_conn x.conn k e)
          (ap (upper c) (unknown risen k xs (subst (λ (n : Conn). knows n xs ≡ false) (one_conn x.conn k e) a.0)))
          ∙ ap (λ (o : Option (Conn × Bool)). cond (eqb key c) (Some (k, terms.clean_session)) o)
          (sym (cond-false (is_for c x.stage) (Some (x.conn, is_clean x.stage)) (upper c xs) (here c)))
      go false e ih =
          ap (λ (y : HubConnection). upper_than (is_for c y.stage) y (upper c (with_connection risen k xs))) (cond-false (is_connection k x) (risen x) x e)
          ∙ other (ih (sym (ap (λ (t : Bool). t || knows k xs) e) ∙ known)
          (subst IsIdle (cond-false (is_connection k x) x.stage (stage_of k xs) e) free) r.1) (is_for c x.stage) refl

  names_risen : Names risen
  names_risen x = refl

  pub apart_risen : (xs : List HubConnection) → Apart xs → knows k xs ≡ true → IsIdle (stage_of k xs) → upper key xs ≡ None → Apart (with_connection risen k xs)
  apart_risen [] a known free none = tt
  apart_risen (x ∷ xs) a known free none = go (is_connection k x) refl (λ known free none. apart_risen xs a.2 known free none)
    where
      r : (is_for key x.stage ≡ false) × (upper key xs ≡ None)
      r = rest_none x xs none

      go : (t : Bool) → is_connection k x ≡ t → (knows k xs ≡ true → IsIdle (stage_of k xs) → upper key xs ≡ None → Apart (with_connection risen k xs)) → Apart (with_connection risen k (x ∷ xs))
      go true e ih =
          let here = unknown risen k xs (subst (λ (n : Conn). knows n xs ≡ false) (one_conn x.conn k e) a.0) in
          subst (λ (y : HubConnection). Apart (y ∷ with_connection risen k xs)) (sym (cond-true (is_connection k x) (risen x) x e))
          (subst (λ (ys : List HubConnection). Apart (risen x ∷ ys)) (sym here)
          (a.0, λ c up. subst (λ (d : ℕ). upper d xs ≡ None) (eqb-true key c up) r.1, a.2))
      go false e ih =
          let known2 : knows k xs ≡ true = sym (ap (λ (t : Bool). t || knows k xs) e) ∙ known in
          let free2 : IsIdle (stage_of k xs) = subst IsIdle (cond-false (is_connection k x) x.stage (stage_of k xs) e) free in
          subst (λ (y : HubConnection). Apart (y ∷ with_connection risen k xs)) (sym (cond-false (is_connection k x) (risen x) x e)) (
            knows_map (changed risen k) (names_changed risen k names_risen) x.conn xs ∙ a.0,
            λ c up.
                let apart : eqb key c ≡ false = false_from_ne_true (eqb key c) (λ same. true≢false (sym up ∙ ap (λ (d : ℕ). is_for d x.stage) (sym (eqb-true key c same)) ∙ r.0)) in
                upper_risen xs a.2 known2 free2 r.1 c ∙ cond-false (eqb key c) (Some (k, terms.clean_session)) (upper c xs) apart ∙ a.1 c up,
            ih known2 free2 r.1,
          )

-- ---- connections that end, and new ones

unknown_without : (k : Conn) (xs : List HubConnection) → knows k xs ≡ false → without_connection k xs ≡ xs
unknown_without k [] h = refl
unknown_without k (x ∷ xs) h =
    let p = or_parts (is_connection k x) (knows k xs) h in
    cond-true (not (is_connection k x)) (x ∷ without_connection k xs) (without_connection k xs) (ap not p.0) ∙ ap (λ (ys : List HubConnection). x ∷ ys) (unknown_without k xs p.1)

pub upper_without : (k : Conn) (xs : List HubConnection) → Apart xs → IsIdle (stage_of k xs) → (c : ℕ) → upper c (without_connection k xs) ≡ upper c xs
upper_without k [] a free c = refl
upper_without k (x ∷ xs) a free c = go (is_connection k x) refl (λ free. upper_without k xs a.2 free c)
  where
    go : (t : Bool) → is_connection k x ≡ t → (IsIdle (stage_of k xs) → upper c (without_connection k xs) ≡ upper c xs) → upper c (without_connection k (x ∷ xs)) ≡ upper c (x ∷ xs)
    go true e ih =
        let here : IsIdle x.stage = subst IsIdle (cond-true (is_connection k x) x.stage (stage_of k xs) e) free in
        ap (upper c) (cond-false (not (is_connection k x)) (x ∷ without_connection k xs) (without_connection k xs) (ap not e))
        ∙ ap (upper c) (unknown_without k xs (subst (λ (n : Conn). knows n xs ≡ false) (one_conn x.conn k e) a.0))
        ∙ sym (cond-false (is_for c x.stage) (Some (x.conn, is_clean x.stage)) (upper c xs) (here c))
    go false e ih =
        ap (upper c) (cond-true (not (is_connection k x)) (x ∷ without_connection k xs) (without_connection k xs) (ap not e))
        ∙ ap (upper_than (is_for c x.stage) x) (ih (subst IsIdle (cond-false (is_connection k x) x.stage (stage_of k xs) e) free))

knows_without : (k n : Conn) (xs : List HubConnection) → knows n xs ≡ false → knows n (without_connection k xs) ≡ false
knows_without k n [] h = refl
knows_without k n (x ∷ xs) h =
    let p = or_parts (is_connection n x) (knows n xs) h in
    cond_both (not (is_connection k x)) (x ∷ without_connection k xs) (without_connection k xs) (λ (ys : List HubConnection). knows n ys ≡ false)
    (λ e. or_from (is_connection n x) (knows n (without_connection k xs)) p.0 (knows_without k n xs p.1)) (λ e. knows_without k n xs p.1)

upper_less : (k : Conn) (c : ℕ) (xs : List HubConnection) → upper c xs ≡ None → upper c (without_connection k xs) ≡ None
upper_less k c [] h = refl
upper_less k c (x ∷ xs) h = go (is_for c x.stage) refl (upper_less k c xs) h
  where
    go : (b : Bool) → is_for c x.stage ≡ b → (upper c xs ≡ None → upper c (without_connection k xs) ≡ None) → upper_than b x (upper c xs) ≡ None → upper c (without_connection k (x ∷ xs)) ≡ None
    go true e ih n = absurd cc
    go false e ih n =
        cond_both (not (is_connection k x)) (x ∷ without_connection k xs) (without_connection k xs) (λ (ys : List HubConnection). upper c ys ≡ None)
        (λ t. cond-false (is_for c x.stage) (Some (x.conn, is_clean x.stage)) (upper c (without_connection k xs)) e ∙ ih n) (λ t. ih n)

pub apart_without : (k : Conn) (xs : List HubConnection) → Apart xs → Apart (without_connection k xs)
apart_without k [] a = tt
apart_without k (x ∷ xs) a =
    cond_both (not (is_connection k x)) (x ∷ without_connection k xs) (without_connection k xs) Apart
    (λ e. (knows_without k x.conn xs a.0, λ c up. upper_less k c xs (a.1 c up), apart_without k xs a.2)) (λ e. apart_without k xs a.2)

abbrev pub newcomer : Conn → ℕ → HubConnection
newcomer k since = record { conn = k; stage = AwaitingConnect; held = []; waiting = []; since = since }

pub upper_opened : (k : Conn) (at c : ℕ) (xs : List HubConnection) → upper c (xs ++ newcomer k at ∷ []) ≡ upper c xs
upper_opened k at c [] = refl
upper_opened k at c (x ∷ xs) = ap (upper_than (is_for c x.stage) x) (upper_opened k at c xs)

knows_opened : (k n : Conn) (at : ℕ) (xs : List HubConnection) → knows n xs ≡ false → same_conn k n ≡ false → knows n (xs ++ newcomer k at ∷ []) ≡ false
knows_opened k n at [] h apart = or_from (same_conn k n) false apart refl
knows_opened k n at (x ∷ xs) h apart =
    let p = or_parts (is_connection n x) (knows n xs) h in
    or_from (is_connection n x) (knows n (xs ++ newcomer k at ∷ [])) p.0 (knows_opened k n at xs p.1 apart)

pub same_swap : (a b : Conn) → same_conn a b ≡ false → same_conn b a ≡ false
same_swap a b h = false_from_ne_true (same_conn b a) (λ same. true≢false (sym (subst (λ (n : Conn). same_conn n b ≡ true) (one_conn b a same) (same_conn-itself b)) ∙ h))

pub apart_opened : (k : Conn) (at : ℕ) (xs : List HubConnection) → knows k xs ≡ false → Apart xs → Apart (xs ++ newcomer k at ∷ [])
apart_opened k at [] h a = (refl, λ c up. refl, tt)
apart_opened k at (x ∷ xs) h a =
    let p = or_parts (is_connection k x) (knows k xs) h in (
      knows_opened k x.conn at xs a.0 (same_swap x.conn k p.0),
      λ c up. upper_opened k at c xs ∙ a.1 c up,
      apart_opened k at xs p.1 a.2,
    )
