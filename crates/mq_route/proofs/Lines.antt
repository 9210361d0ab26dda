-- Changes of connections, and the lookups that they keep.
use Rattle.std.proofs.Common.{◌≡◌, ℕ, Bool, true, false, ◌&&◌, cond, List, [], ◌∷◌, ◌++◌, map, Option, Some, None, refl, sym, ap, ap₂, subst, ◌∙◌, eqb, eqb-true, eq-eqb, true≢false, ◌||◌}
use Rattle.std.proofs.lemmas.Bool.{cond_both, cond-true, cond-false, and_parts, or_parts, false_from_ne_true, true_from_ne_false}
use Rattle.mq_route.specs.declared.conn.Conn.{Conn}
use Rattle.mq_route.specs.declared.connection_state.ConnectionState.{ConnectionState}
use Rattle.mq_route.specs.declared.connection_state.ConnectionState.TheVariants.{AwaitingConnect, Closed}
use Rattle.mq_route.specs.Routed.{same_conn}
use Rattle.mq_route.specs.Hub.{HubConnection, is_connection, knows, stage_of, held_on, waiting_on, is_open, changed, with_connection, is_clean, is_for, up_on}

-- ---- names

pub one_conn : (a b : Conn) → same_conn a b ≡ true → a ≡ b
one_conn a b e =
    let p = and_parts (eqb a.worker b.worker) (eqb a.nth b.nth) e in
    λ i. record { worker = eqb-true a.worker b.worker p.0 i; nth = eqb-true a.nth b.nth p.1 i }

pub same_conn-itself : (a : Conn) → same_conn a a ≡ true
same_conn-itself a = λ i. eq-eqb a.worker a.worker refl i && eq-eqb a.nth a.nth refl i

-- ---- the connection of a client, and whether its session ends with it

abbrev pub upper_than : Bool → HubConnection → Option (Conn × Bool) → Option (Conn × Bool)
upper_than b x rest = cond b (Some (x.conn, is_clean x.stage)) rest

abbrev pub conn_in : Option (Conn × Bool) → Option Conn
conn_in None = None
conn_in (Some u) = Some u.0

-- a client's connection, and whether its session ends with it
abbrev pub upper : ℕ → List HubConnection → Option (Conn × Bool)
upper c [] = None
upper c (x ∷ xs) = upper_than (is_for c x.stage) x (upper c xs)

pub up_is : (c : ℕ) (xs : List HubConnection) → up_on c xs ≡ conn_in (upper c xs)
up_is c [] = refl
up_is c (x ∷ xs) = go (is_for c x.stage) (up_is c xs)
  where
    go : (b : Bool) → up_on c xs ≡ conn_in (upper c xs) → cond b (Some x.conn) (up_on c xs) ≡ conn_in (upper_than b x (upper c xs))
    go true h = refl
    go false h = h

pub up_none : (c : ℕ) (xs : List HubConnection) → upper c xs ≡ None → up_on c xs ≡ None
up_none c xs e = up_is c xs ∙ ap conn_in e

pub upper_none : (c : ℕ) (xs : List HubConnection) → up_on c xs ≡ None → upper c xs ≡ None
upper_none c xs e = go (upper c xs) (sym (up_is c xs) ∙ e)
  where
    go : (o : Option (Conn × Bool)) → conn_in o ≡ None → o ≡ None
    go None h = refl
    go (Some u) h = absurd cc

-- ---- changes that keep names, output or states

-- what a change keeps: the name, pending output, the client, held bytes, and whether the connection
-- is open
abbrev pub Mild : (HubConnection → HubConnection) → Type 0
Mild f = (x : HubConnection) → ((f x).conn ≡ x.conn) × ((f x).waiting ≡ x.waiting) × ((c : ℕ) → is_for c (f x).stage ≡ is_for c x.stage) × (is_clean (f x).stage ≡ is_clean x.stage) × ((f x).held ≡ x.held) × (is_open (f x).stage ≡ is_open x.stage)

-- properties that a change keeps
abbrev pub Names : (HubConnection → HubConnection) → Type 0
Names g = (x : HubConnection) → (g x).conn ≡ x.conn

abbrev pub Bytes : (HubConnection → HubConnection) → Type 0
Bytes g = (x : HubConnection) → (g x).waiting ≡ x.waiting

abbrev pub Ups : (HubConnection → HubConnection) → Type 0
Ups g = (x : HubConnection) → ((c : ℕ) → is_for c (g x).stage ≡ is_for c x.stage) × (is_clean (g x).stage ≡ is_clean x.stage)

pub names_changed : (f : HubConnection → HubConnection) (k : Conn) → Names f → Names (changed f k)
names_changed f k h x = cond_both (is_connection k x) (f x) x (λ (y : HubConnection). y.conn ≡ x.conn) (λ e. h x) (λ e. refl)

pub bytes_changed : (f : HubConnection → HubConnection) (k : Conn) → Bytes f → Bytes (changed f k)
bytes_changed f k h x = cond_both (is_connection k x) (f x) x (λ (y : HubConnection). y.waiting ≡ x.waiting) (λ e. h x) (λ e. refl)

pub ups_changed : (f : HubConnection → HubConnection) (k : Conn) → Ups f → Ups (changed f k)
ups_changed f k h x =
    cond_both (is_connection k x) (f x) x (λ (y : HubConnection). ((c : ℕ) → is_for c y.stage ≡ is_for c x.stage) × (is_clean y.stage ≡ is_clean x.stage)) (λ e. h x) (λ e. (λ c. refl, refl))

pub knows_map : (g : HubConnection → HubConnection) → Names g → (n : Conn) (xs : List HubConnection) → knows n (map g xs) ≡ knows n xs
knows_map g h n [] = refl
knows_map g h n (x ∷ xs) = ap₂ (λ (a b : Bool). a || b) (ap (λ (a : Conn). same_conn a n) (h x)) (knows_map g h n xs)

pub waiting_map : (g : HubConnection → HubConnection) → Names g → Bytes g → (n : Conn) (xs : List HubConnection) → waiting_on n (map g xs) ≡ waiting_on n xs
waiting_map g h b n [] = refl
waiting_map g h b n (x ∷ xs) = λ i. cond (same_conn (h x i) n) (b x i) (waiting_map g h b n xs i)

pub upper_map : (g : HubConnection → HubConnection) → Names g → Ups g → (c : ℕ) (xs : List HubConnection) → upper c (map g xs) ≡ upper c xs
upper_map g h u c [] = refl
upper_map g h u c (x ∷ xs) = λ i. cond ((u x).0 c i) (Some (h x i, (u x).1 i)) (upper_map g h u c xs i)

pub up_map : (g : HubConnection → HubConnection) → Names g → Ups g → (c : ℕ) (xs : List HubConnection) → up_on c (map g xs) ≡ up_on c xs
up_map g h u c xs = up_is c (map g xs) ∙ ap conn_in (upper_map g h u c xs) ∙ sym (up_is c xs)

-- a change of an unknown connection changes nothing
pub unknown : (f : HubConnection → HubConnection) (k : Conn) (xs : List HubConnection) → knows k xs ≡ false → with_connection f k xs ≡ xs
unknown f k [] h = refl
unknown f k (x ∷ xs) h =
    let p = or_parts (is_connection k x) (knows k xs) h in
    ap₂ (λ (y : HubConnection) (ys : List HubConnection). y ∷ ys) (cond-false (is_connection k x) (f x) x p.0) (unknown f k xs p.1)

-- ---- queued output

abbrev pub grown : List ℕ → HubConnection → HubConnection
grown b x = record x { waiting = x.waiting ++ b }

pub put_here : (n : Conn) (b : List ℕ) (xs : List HubConnection) → knows n xs ≡ true → waiting_on n (with_connection (grown b) n xs) ≡ waiting_on n xs ++ b
put_here n b [] h = absurd cc
put_here n b (x ∷ xs) h = go (is_connection n x) refl (put_here n b xs)
  where
    go : (t : Bool) → is_connection n x ≡ t → (knows n xs ≡ true → waiting_on n (with_connection (grown b) n xs) ≡ waiting_on n xs ++ b) → waiting_on n (with_connection (grown b) n (x ∷ xs)) ≡ waiting_on n (x ∷ xs) ++ b
    go true e ih =
        ap (λ (y : HubConnection). cond (same_conn y.conn n) y.waiting (waiting_on n (with_connection (grown b) n xs))) (cond-true (is_connection n x) (grown b x) x e)
        ∙ cond-true (is_connection n x) (x.waiting ++ b) (waiting_on n (with_connection (grown b) n xs)) e
        ∙ ap (λ (w : List ℕ). w ++ b) (sym (cond-true (is_connection n x) x.waiting (waiting_on n xs) e))
    go false e ih =
        ap (λ (y : HubConnection). cond (same_conn y.conn n) y.waiting (waiting_on n (with_connection (grown b) n xs))) (cond-false (is_connection n x) (grown b x) x e)
        ∙ cond-false (is_connection n x) x.waiting (waiting_on n (with_connection (grown b) n xs)) e
        ∙ ih (sym (ap (λ (t : Bool). t || knows n xs) e) ∙ h)
        ∙ ap (λ (w : List ℕ). w ++ b) (sym (cond-false (is_connection n x) x.waiting (waiting_on n xs) e))

-- two names of one connection are equal
both_names : (k n : Conn) (x : HubConnection) → is_connection k x ≡ true → is_connection n x ≡ true → same_conn k n ≡ true
both_names k n x e f = subst (λ (a : Conn). same_conn a n ≡ true) (one_conn x.conn k e) f

pub put_there : (k n : Conn) (f : HubConnection → HubConnection) (xs : List HubConnection) → Names f → same_conn k n ≡ false → waiting_on n (with_connection f k xs) ≡ waiting_on n xs
put_there k n f [] h apart = refl
put_there k n f (x ∷ xs) h apart = go (is_connection k x) refl (put_there k n f xs h apart)
  where
    go : (t : Bool) → is_connection k x ≡ t → waiting_on n (with_connection f k xs) ≡ waiting_on n xs → waiting_on n (with_connection f k (x ∷ xs)) ≡ waiting_on n (x ∷ xs)
    go true e ih =
        let other : is_connection n x ≡ false = false_from_ne_true (is_connection n x) (λ same. true≢false (sym (both_names k n x e same) ∙ apart)) in
        ap (λ (y : HubConnection). cond (same_conn y.conn n) y.waiting (waiting_on n (with_connection f k xs))) (cond-true (is_connection k x) (f x) x e)
        ∙ ap (λ (a : Conn). cond (same_conn a n) (f x).waiting (waiting_on n (with_connection f k xs))) (h x)
        ∙ cond-false (is_connection n x) (f x).waiting (waiting_on n (with_connection f k xs)) other
        ∙ ih
        ∙ sym (cond-false (is_connection n x) x.waiting (waiting_on n xs) other)
    go false e ih =
        ap (λ (y : HubConnection). cond (same_conn y.conn n) y.waiting (waiting_on n (with_connection f k xs))) (cond-false (is_connection k x) (f x) x e)
        ∙ ap (λ (w : List ℕ). cond (is_connection n x) x.waiting w) ih

-- ---- states

pub stage_here : (f : HubConnection → HubConnection) (s : ConnectionState → ConnectionState) (k : Conn) (xs : List HubConnection) → Names f → ((x : HubConnection) → (f x).stage ≡ s x.stage) → s Closed ≡ Closed
    → stage_of k (with_connection f k xs) ≡ s (stage_of k xs)
stage_here f s k [] h g shut = sym shut
stage_here f s k (x ∷ xs) h g shut = go (is_connection k x) refl (stage_here f s k xs h g shut)
  where
    go : (t : Bool) → is_connection k x ≡ t → stage_of k (with_connection f k xs) ≡ s (stage_of k xs) → stage_of k (with_connection f k (x ∷ xs)) ≡ s (stage_of k (x ∷ xs))
    go true e ih =
        ap (λ (y : HubConnection). cond (same_conn y.conn k) y.stage (stage_of k (with_connection f k xs))) (cond-true (is_connection k x) (f x) x e)
        ∙ ap (λ (a : Conn). cond (same_conn a k) (f x).stage (stage_of k (with_connection f k xs))) (h x)
        ∙ cond-true (is_connection k x) (f x).stage (stage_of k (with_connection f k xs)) e
        ∙ g x
        ∙ ap s (sym (cond-true (is_connection k x) x.stage (stage_of k xs) e))
    go false e ih =
        ap (λ (y : HubConnection). cond (same_conn y.conn k) y.stage (stage_of k (with_connection f k xs))) (cond-false (is_connection k x) (f x) x e)
        ∙ cond-false (is_connection k x) x.stage (stage_of k (with_connection f k xs)) e
        ∙ ih
        ∙ ap s (sym (cond-false (is_connection k x) x.stage (stage_of k xs) e))

pub stage_there : (k n : Conn) (f : HubConnection → HubConnection) (xs : List HubConnection) → Names f → same_conn k n ≡ false → stage_of n (with_connection f k xs) ≡ stage_of n xs
stage_there k n f [] h apart = refl
stage_there k n f (x ∷ xs) h apart = go (is_connection k x) refl (stage_there k n f xs h apart)
  where
    go : (t : Bool) → is_connection k x ≡ t → stage_of n (with_connection f k xs) ≡ stage_of n xs → stage_of n (with_connection f k (x ∷ xs)) ≡ stage_of n (x ∷ xs)
    go true e ih =
        let other : is_connection n x ≡ false = false_from_ne_true (is_connection n x) (λ same. true≢false (sym (both_names k n x e same) ∙ apart)) in
        ap (λ (y : HubConnection). cond (same_conn y.conn n) y.stage (stage_of n (with_connection f k xs))) (cond-true (is_connection k x) (f x) x e)
        ∙ ap (λ (a : Conn). cond (same_conn a n) (f x).stage (stage_of n (with_connection f k xs))) (h x)
        ∙ cond-false (is_connection n x) (f x).stage (stage_of n (with_connection f k xs)) other
        ∙ ih
        ∙ sym (cond-false (is_connection n x) x.stage (stage_of n xs) other)
    go false e ih =
        ap (λ (y : HubConnection). cond (same_conn y.conn n) y.stage (stage_of n (with_connection f k xs))) (cond-false (is_connection k x) (f x) x e)
        ∙ ap (λ (w : ConnectionState). cond (is_connection n x) x.stage w) (ih)

-- a change that keeps the states
pub stage_map : (g : HubConnection → HubConnection) → Names g → ((x : HubConnection) → (g x).stage ≡ x.stage) → (n : Conn) (xs : List HubConnection) → stage_of n (map g xs) ≡ stage_of n xs
stage_map g h s n [] = refl
stage_map g h s n (x ∷ xs) = λ i. cond (same_conn (h x i) n) (s x i) (stage_map g h s n xs i)

-- an unknown connection is closed
pub unknown_shut : (k : Conn) (xs : List HubConnection) → knows k xs ≡ false → stage_of k xs ≡ Closed
unknown_shut k [] h = refl
unknown_shut k (x ∷ xs) h =
    let p = or_parts (is_connection k x) (knows k xs) h in
    cond-false (is_connection k x) x.stage (stage_of k xs) p.0 ∙ unknown_shut k xs p.1

-- a connection that waits for CONNECT is known
pub fresh_known : (k : Conn) (xs : List HubConnection) → stage_of k xs ≡ AwaitingConnect → knows k xs ≡ true
fresh_known k xs e = true_from_ne_false (knows k xs) (λ no. differ (sym e ∙ unknown_shut k xs no))
  where
    differ : AwaitingConnect ≡ Closed → ⊥
    differ h = cc

-- ---- bytes that a connection holds

abbrev pub Helds : (HubConnection → HubConnection) → Type 0
Helds g = (x : HubConnection) → (g x).held ≡ x.held

abbrev pub Opens : (HubConnection → HubConnection) → Type 0
Opens g = (x : HubConnection) → is_open (g x).stage ≡ is_open x.stage

pub helds_changed : (f : HubConnection → HubConnection) (k : Conn) → Helds f → Helds (changed f k)
helds_changed f k h x = cond_both (is_connection k x) (f x) x (λ (y : HubConnection). y.held ≡ x.held) (λ e. h x) (λ e. refl)

pub opens_changed : (f : HubConnection → HubConnection) (k : Conn) → Opens f → Opens (changed f k)
opens_changed f k h x = cond_both (is_connection k x) (f x) x (λ (y : HubConnection). is_open y.stage ≡ is_open x.stage) (λ e. h x) (λ e. refl)

pub held_map : (g : HubConnection → HubConnection) → Names g → Helds g → (n : Conn) (xs : List HubConnection) → held_on n (map g xs) ≡ held_on n xs
held_map g h b n [] = refl
held_map g h b n (x ∷ xs) = λ i. cond (same_conn (h x i) n) (b x i) (held_map g h b n xs i)

pub open_map : (g : HubConnection → HubConnection) → Names g → Opens g → (n : Conn) (xs : List HubConnection) → is_open (stage_of n (map g xs)) ≡ is_open (stage_of n xs)
open_map g h o n [] = refl
open_map g h o n (x ∷ xs) = ap (λ (a : Conn). is_open (cond (same_conn a n) (g x).stage (stage_of n (map g xs)))) (h x) ∙ go (is_connection n x) (open_map g h o n xs)
  where
    go : (b : Bool) → is_open (stage_of n (map g xs)) ≡ is_open (stage_of n xs) → is_open (cond b (g x).stage (stage_of n (map g xs))) ≡ is_open (cond b x.stage (stage_of n xs))
    go true ih = o x
    go false ih = ih

pub held_there : (k n : Conn) (f : HubConnection → HubConnection) (xs : List HubConnection) → Names f → same_conn k n ≡ false → held_on n (with_connection f k xs) ≡ held_on n xs
held_there k n f [] h apart = refl
held_there k n f (x ∷ xs) h apart = go (is_connection k x) refl (held_there k n f xs h apart)
  where
    go : (t : Bool) → is_connection k x ≡ t → held_on n (with_connection f k xs) ≡ held_on n xs → held_on n (with_connection f k (x ∷ xs)) ≡ held_on n (x ∷ xs)
    go true e ih =
        let other : is_connection n x ≡ false = false_from_ne_true (is_connection n x) (λ same. true≢false (sym (both_names k n x e same) ∙ apart)) in
        ap (λ (y : HubConnection). cond (same_conn y.conn n) y.held (held_on n (with_connection f k xs))) (cond-true (is_connection k x) (f x) x e)
        ∙ ap (λ (a : Conn). cond (same_conn a n) (f x).held (held_on n (with_connection f k xs))) (h x)
        ∙ cond-false (is_connection n x) (f x).held (held_on n (with_connection f k xs)) other
        ∙ ih
        ∙ sym (cond-false (is_connection n x) x.held (held_on n xs) other)
    go false e ih =
        ap (λ (y : HubConnection). cond (same_conn y.conn n) y.held (held_on n (with_connection f k xs))) (cond-false (is_connection k x) (f x) x e)
        ∙ ap (λ (w : List ℕ). cond (is_connection n x) x.held w) ih

pub held_here : (k : Conn) (b : List ℕ) (xs : List HubConnection) → knows k xs ≡ true → held_on k (with_connection (λ x. record x { held = b }) k xs) ≡ b
held_here k b [] h = absurd (true≢false (sym h))
held_here k b (x ∷ xs) h = go (is_connection k x) refl (held_here k b xs)
  where
    go : (t : Bool) → is_connection k x ≡ t → (knows k xs ≡ true → held_on k (with_connection (λ x. record x { held = b }) k xs) ≡ b) → held_on k (with_connection (λ x. record x { held = b }) k (x ∷ xs)) ≡ b
    go true e ih =
        ap (λ (y : HubConnection). cond (same_conn y.conn k) y.held (held_on k (with_connection (λ x. record x { held = b }) k xs))) (cond-true (is_connection k x) (record x { held = b }) x e)
        ∙ cond-true (is_connection k x) b (held_on k (with_connection (λ x. record x { held = b }) k xs)) e
    go false e ih =
        ap (λ (y : HubConnection). cond (same_conn y.conn k) y.held (held_on k (with_connection (λ x. record x { held = b }) k xs))) (cond-false (is_connection k x) (record x { held = b }) x e)
        ∙ cond-false (is_connection k x) x.held (held_on k (with_connection (λ x. record x { held = b }) k xs)) e
        ∙ ih (sym (ap (λ (t : Bool). t || knows k xs) e) ∙ h)

-- one that is open is known
pub open_known : (k : Conn) (xs : List HubConnection) → is_open (stage_of k xs) ≡ true → knows k xs ≡ true
open_known k xs e = true_from_ne_false (knows k xs) (λ no. true≢false (sym e ∙ ap is_open (unknown_shut k xs no)))
