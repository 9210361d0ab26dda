-- The table of connections: the connection of a name, and the connection of a client.
use Rattle.std.proofs.Common.{◌≡◌, ℕ, ◌+◌, zero, suc, slice_get, Bool, true, false, ◌&&◌, ◌||◌, cond, List, [], ◌∷◌, ◌++◌, Option, Some, None, refl, sym, ap, ap₂, subst, ◌∙◌, arith, zero-add, eqb, eqb-true, eq-eqb, true≢false}
use Rattle.std.proofs.lemmas.Bool.{cond-true, cond-false, and_parts, or_parts}
use Rattle.std.proofs.lemmas.List.Sums.{sum_by-cons}
use Rattle.std.proofs.lemmas.Map.{keys-set_value}
use Rattle.std.specs.List.{AllByRecursion, IsDistinct, count_by}
use Rattle.std.specs.Map.{keys_of, lookup, lookup_key, remove_entry, set_value, values_of}
use Rattle.std.specs.Option.{is_some}
use Rattle.indexmap.specs.IndexMap.{set_value_at}
use Rattle.mq_route.specs.declared.conn.Conn.{Conn}
use Rattle.mq_route.specs.declared.connection_state.ConnectionState.{ConnectionState}
use Rattle.mq_route.specs.declared.connection_state.ConnectionState.TheVariants.{AwaitingConnect, ConnectedAs, Closed}
use Rattle.mq_route.specs.Arrives.{touched}
use Rattle.mq_route.specs.Hub.{HubConnection, is_for, is_connection, key_on, knows, stage_of, up_on, with_connection, without_connection}
use Rattle.mq_route.specs.Routed.{same_conn}
use Rattle.mq_route.specs.Welcome.{up_count}
use Rattle.mq_tables.specs.declared.connections.connection.Connection.{Connection}
use Rattle.mq_tables.specs.Alarms.{AlarmTable}
use Rattle.mq_tables.specs.Inside.Alarms.{AreAwaited}
use Rattle.mq_tables.specs.Connections.{connections_of, connection_of, ups_of, up_in, has_key, AreUpOnce, Service, IsServed, IsServedBy, AreConnections}
use Rattle.mq_tables.specs.Inside.Connections.{IsNamedAt}

abbrev pub Entry : Type 0
Entry = Conn × Connection

abbrev pub Up : Type 0
Up = Conn × Option ℕ

abbrev pub IsNamed : Entry → Type 0
IsNamed e = e.0 ≡ e.1.conn

abbrev pub AreNamed : List Entry → Type 0
AreNamed es = AllByRecursion IsNamed es

pub are_named : (by : Service) (es : List Entry) → AllByRecursion (IsServed by) es → AreNamed es
are_named by [] served = tt
are_named by (e ∷ es) served = (served.0.0, are_named by es served.1)

-- ---- names

pub one_conn : (a b : Conn) → same_conn a b ≡ true → a ≡ b
one_conn a b e =
    let p = and_parts (eqb a.worker b.worker) (eqb a.nth b.nth) e in
    λ i. record { worker = eqb-true a.worker b.worker p.0 i; nth = eqb-true a.nth b.nth p.1 i }

pub itself : (a : Conn) → same_conn a a ≡ true
itself a = λ i. eq-eqb a.worker a.worker refl i && eq-eqb a.nth a.nth refl i

pub symm : (a b : Conn) → same_conn a b ≡ same_conn b a
symm a b = go (same_conn a b) refl (same_conn b a) refl
  where
    go : (c : Bool) → same_conn a b ≡ c → (d : Bool) → same_conn b a ≡ d → same_conn a b ≡ same_conn b a
    go true e true f = e ∙ sym f
    go true e false f = absurd (true≢false (sym (itself b) ∙ ap (λ (x : Conn). same_conn b x) (sym (one_conn a b e)) ∙ f))
    go false e true f = absurd (true≢false (sym (itself a) ∙ ap (λ (x : Conn). same_conn a x) (sym (one_conn b a f)) ∙ e))
    go false e false f = e ∙ sym f

-- whether the first entry has the name
pub first_is : (k : Conn) (e : Entry) → IsNamed e → is_connection k (connection_of e.1) ≡ same_conn k e.0
first_is k e named = symm e.1.conn k ∙ ap (same_conn k) (sym named)

-- ---- the connection of a name

pub known : (k : Conn) (es : List Entry) → AreNamed es → is_some (lookup (same_conn k) es) ≡ knows k (connections_of es)
known k [] named = refl
known k (e ∷ es) named = go (same_conn k e.0) refl (known k es named.1)
  where
    go : (b : Bool) → same_conn k e.0 ≡ b → is_some (lookup (same_conn k) es) ≡ knows k (connections_of es) → is_some (lookup (same_conn k) (e ∷ es)) ≡ knows k (connections_of (e ∷ es))
    go true same rest = rw (first_is k e named.0, same) refl
    go false same rest = rw (first_is k e named.0, same) rest

-- the look-up of a name finds the entry at its index
at_place : (P : Conn → Type 0) (n : ℕ) (es : List Entry) (e : Entry) → AllByRecursion P (keys_of es) → slice_get es n ≡ Some e → P e.0
at_place P n [] e all there = absurd cc
at_place P zero (x ∷ xs) e all there = let is : x ≡ e = cc in subst (λ (y : Entry). P y.0) is all.0
at_place P (suc n) (x ∷ xs) e all there = at_place P n xs e all.1 there

-- an entry at another index has another name
other_name : (k : Conn) (n : ℕ) (x : Entry) (xs : List Entry) (e : Entry) → AllByRecursion (λ q. same_conn x.0 q ≡ false) (keys_of xs) → slice_get xs n ≡ Some e
    → same_conn k e.0 ≡ true → same_conn k x.0 ≡ false
other_name k n x xs e apart there same =
    symm k x.0 ∙ ap (same_conn x.0) (one_conn k e.0 same) ∙ at_place (λ q. same_conn x.0 q ≡ false) n xs e apart there

pub found_at : (k : Conn) (n : ℕ) (es : List Entry) (e : Entry) → IsDistinct same_conn (keys_of es) → slice_get es n ≡ Some e → same_conn k e.0 ≡ true → lookup (same_conn k) es ≡ Some e.1
unfolding IsDistinct
found_at k n [] e distinct there same = absurd cc
found_at k zero (x ∷ xs) e distinct there same =
    let is : x ≡ e = cc in
    cond-true (same_conn k x.0) (Some x.1) (lookup (same_conn k) xs) (ap (λ (y : Entry). same_conn k y.0) is ∙ same) ∙ ap (λ (y : Entry). Some y.1) is
found_at k (suc n) (x ∷ xs) e distinct there same =
    cond-false (same_conn k x.0) (Some x.1) (lookup (same_conn k) xs) (other_name k n x xs e distinct.0 there same) ∙ found_at k n xs e distinct.1 there same

-- a write at an index changes the connection of the name
pub set_at : (k : Conn) (n : ℕ) (es : List Entry) (w : Connection) → IsDistinct same_conn (keys_of es) → IsNamedAt k n es
    → set_value_at es n w ≡ set_value (same_conn k) es w
unfolding IsDistinct
set_at k n [] w distinct at = refl
set_at k zero (x ∷ xs) w distinct at =
    let is : x ≡ at.0 = on_first_packet x xs at.0 at.1 in
    sym (cond-true (same_conn k x.0) ((x.0, w) ∷ xs) (x ∷ set_value (same_conn k) xs w) (ap (λ (y : Entry). same_conn k y.0) is ∙ at.2))
  where
    on_first_packet : (x : Entry) (xs : List Entry) (e : Entry) → slice_get (x ∷ xs) zero ≡ Some e → x ≡ e
    on_first_packet x xs e there = cc
set_at k (suc n) (x ∷ xs) w distinct at =
    ap (λ (ys : List Entry). x ∷ ys) (set_at k n xs w distinct.1 at)
    ∙ sym (cond-false (same_conn k x.0) ((x.0, w) ∷ xs) (x ∷ set_value (same_conn k) xs w) (other_name k n x xs at.0 distinct.0 at.1 at.2))

-- the value at an index is that of the entry
value_at : (n : ℕ) (es : List Entry) (e : Entry) → slice_get es n ≡ Some e → slice_get (values_of es) n ≡ Some e.1
value_at n [] e there = absurd cc
value_at zero (x ∷ xs) e there = let is : x ≡ e = cc in ap (λ (y : Entry). Some y.1) is
value_at (suc n) (x ∷ xs) e there = value_at n xs e there

pub own_at : (k : Conn) (n : ℕ) (es : List Entry) (own : Connection) → IsDistinct same_conn (keys_of es) → IsNamedAt k n es → Some own ≡ slice_get (values_of es) n
    → lookup (same_conn k) es ≡ Some own
own_at k n es own distinct at is = found_at k n es at.0 distinct at.1 at.2 ∙ sym (is ∙ value_at n es at.0 at.1)

pub never_none : {P : Type 0} (k : Conn) (n : ℕ) (es : List Entry) → IsNamedAt k n es → None ≡ slice_get (values_of es) n → P
never_none k n es at none = let e = none ∙ value_at n es at.0 at.1 in absurd cc

-- the key that is found has the name
pub key_passes : (k : Conn) (es : List Entry) (q : Conn) → lookup_key (same_conn k) es ≡ Some q → same_conn k q ≡ true
key_passes k [] q there = absurd cc
key_passes k (e ∷ es) q there = go (same_conn k e.0) refl (key_passes k es q)
  where
    go : (b : Bool) → same_conn k e.0 ≡ b → (lookup_key (same_conn k) es ≡ Some q → same_conn k q ≡ true) → same_conn k q ≡ true
    go true same rest =
        let v : Some e.0 ≡ Some q = sym (cond-true (same_conn k e.0) (Some e.0) (lookup_key (same_conn k) es) same) ∙ there in
        let is : e.0 ≡ q = cc in
        ap (same_conn k) (sym is) ∙ same
    go false other rest = rest (sym (cond-false (same_conn k e.0) (Some e.0) (lookup_key (same_conn k) es) other) ∙ there)

-- a look-up by name in the list of connections agrees with the entry that is found
module _ {X : Type 0} (p : HubConnection → X) (k : Conn) (g : List HubConnection → X) (step : (x : HubConnection) (xs : List HubConnection) → g (x ∷ xs) ≡ cond (is_connection k x) (p x) (g xs)) where
  pub found_by : (es : List Entry) (c : Connection) → AreNamed es → lookup (same_conn k) es ≡ Some c → g (connections_of es) ≡ p (connection_of c)
  found_by [] c named there = absurd cc
  found_by (e ∷ es) c named there = go (same_conn k e.0) refl (found_by es c named.1)
    where
      go : (b : Bool) → same_conn k e.0 ≡ b → (lookup (same_conn k) es ≡ Some c → g (connections_of es) ≡ p (connection_of c)) → g (connections_of (e ∷ es)) ≡ p (connection_of c)
      go true same rest =
          let w : Some e.1 ≡ Some c = sym (cond-true (same_conn k e.0) (Some e.1) (lookup (same_conn k) es) same) ∙ there in
          let is : e.1 ≡ c = cc in
          step (connection_of e.1) (connections_of es) ∙ cond-true (is_connection k (connection_of e.1)) (p (connection_of e.1)) (g (connections_of es)) (first_is k e named.0 ∙ same)
          ∙ ap (λ (x : Connection). p (connection_of x)) is
      go false same rest =
          step (connection_of e.1) (connections_of es) ∙ cond-false (is_connection k (connection_of e.1)) (p (connection_of e.1)) (g (connections_of es)) (first_is k e named.0 ∙ same)
          ∙ rest (sym (cond-false (same_conn k e.0) (Some e.1) (lookup (same_conn k) es) same) ∙ there)

-- a connection that isn't known is not changed
pub unknown : (f : HubConnection → HubConnection) (k : Conn) (xs : List HubConnection) → knows k xs ≡ false → with_connection f k xs ≡ xs
unknown f k [] h = refl
unknown f k (x ∷ xs) h =
    let p = or_parts (is_connection k x) (knows k xs) h in
    ap₂ (λ (y : HubConnection) (ys : List HubConnection). y ∷ ys) (cond-false (is_connection k x) (f x) x p.0) (unknown f k xs p.1)

-- its state is `Closed`
pub unknown_shut : (k : Conn) (xs : List HubConnection) → knows k xs ≡ false → stage_of k xs ≡ Closed
unknown_shut k [] h = refl
unknown_shut k (x ∷ xs) h =
    let p = or_parts (is_connection k x) (knows k xs) h in
    cond-false (is_connection k x) x.stage (stage_of k xs) p.0 ∙ unknown_shut k xs p.1

pub not_taken : (k : Conn) (xs : List HubConnection) → knows k xs ≡ false → without_connection k xs ≡ xs
not_taken k [] h = refl
not_taken k (x ∷ xs) h =
    let p = or_parts (is_connection k x) (knows k xs) h in
    rw p.0 (ap (λ (ys : List HubConnection). x ∷ ys) (not_taken k xs p.1))

-- the first one has the name, so no other has
pub others : (k : Conn) (e : Entry) (es : List Entry) → same_conn k e.0 ≡ true → AreNamed es → AllByRecursion (λ q. same_conn e.0 q ≡ false) (keys_of es) → knows k (connections_of es) ≡ false
others k e [] same named apart = refl
others k e (d ∷ es) same named apart =
    let one : k ≡ e.0 = one_conn k e.0 same in
    let other : is_connection k (connection_of d.1) ≡ false = first_is k d named.0 ∙ ap (λ (x : Conn). same_conn x d.0) one ∙ apart.0 in
    ap₂ (λ (a b : Bool). a || b) other (others k e es same named.1 apart.1)

-- a write to the connection of a name is a change of the list of connections
pub changed : (f : HubConnection → HubConnection) (k : Conn) (es : List Entry) (c w : Connection) → AreNamed es → IsDistinct same_conn (keys_of es) → lookup (same_conn k) es ≡ Some c
    → connection_of w ≡ f (connection_of c) → connections_of (set_value (same_conn k) es w) ≡ with_connection f k (connections_of es)
unfolding IsDistinct
changed f k [] c w named distinct there says = refl
changed f k (e ∷ es) c w named distinct there says = go (same_conn k e.0) refl (changed f k es c w named.1 distinct.1)
  where
    go : (b : Bool) → same_conn k e.0 ≡ b
        → (lookup (same_conn k) es ≡ Some c → connection_of w ≡ f (connection_of c) → connections_of (set_value (same_conn k) es w) ≡ with_connection f k (connections_of es))
        → connections_of (set_value (same_conn k) (e ∷ es) w) ≡ with_connection f k (connections_of (e ∷ es))
    go true same rest =
        let v : Some e.1 ≡ Some c = sym (cond-true (same_conn k e.0) (Some e.1) (lookup (same_conn k) es) same) ∙ there in
        let is : e.1 ≡ c = cc in
        let head : connection_of w ≡ f (connection_of e.1) = says ∙ ap (λ (x : Connection). f (connection_of x)) (sym is) in
        ap connections_of (cond-true (same_conn k e.0) ((e.0, w) ∷ es) (e ∷ set_value (same_conn k) es w) same)
        ∙ ap₂ (λ (y : HubConnection) (ys : List HubConnection). y ∷ ys)
        (head ∙ sym (cond-true (is_connection k (connection_of e.1)) (f (connection_of e.1)) (connection_of e.1) (first_is k e named.0 ∙ same)))
        (sym (unknown f k (connections_of es) (others k e es same named.1 distinct.0)))
    go false same rest =
        ap connections_of (cond-false (same_conn k e.0) ((e.0, w) ∷ es) (e ∷ set_value (same_conn k) es w) same)
        ∙ ap₂ (λ (y : HubConnection) (ys : List HubConnection). y ∷ ys)
        (sym (cond-false (is_connection k (connection_of e.1)) (f (connection_of e.1)) (connection_of e.1) (first_is k e named.0 ∙ same)))
        (rest (sym (cond-false (same_conn k e.0) (Some e.1) (lookup (same_conn k) es) same) ∙ there) says)

-- the connection of a name is removed
pub taken_out : (k : Conn) (es : List Entry) → AreNamed es → IsDistinct same_conn (keys_of es) → connections_of (remove_entry (same_conn k) es) ≡ without_connection k (connections_of es)
unfolding IsDistinct
taken_out k [] named distinct = refl
taken_out k (e ∷ es) named distinct = go (same_conn k e.0) refl (taken_out k es named.1 distinct.1)
  where
    go : (b : Bool) → same_conn k e.0 ≡ b → connections_of (remove_entry (same_conn k) es) ≡ without_connection k (connections_of es)
        → connections_of (remove_entry (same_conn k) (e ∷ es)) ≡ without_connection k (connections_of (e ∷ es))
    go true same rest =
        let there = first_is k e named.0 ∙ same in
        rw (same, there) (sym (not_taken k (connections_of es) (others k e es same named.1 distinct.0)))
    go false same rest =
        let apart = first_is k e named.0 ∙ same in
        rw (same, apart) (ap (λ (ys : List HubConnection). connection_of e.1 ∷ ys) rest)

-- ---- each is stored under its name, with its decoder

pub served_set : (by : Service) (k : Conn) (es : List Entry) (c w : Connection) → AllByRecursion (IsServed by) es → lookup (same_conn k) es ≡ Some c
    → w.conn ≡ c.conn → IsServedBy by w → AllByRecursion (IsServed by) (set_value (same_conn k) es w)
served_set by k [] c w served there same reading = tt
served_set by k (e ∷ es) c w served there same reading = go (same_conn k e.0) refl (served_set by k es c w served.1)
  where
    go : (b : Bool) → same_conn k e.0 ≡ b
        → (lookup (same_conn k) es ≡ Some c → w.conn ≡ c.conn → IsServedBy by w → AllByRecursion (IsServed by) (set_value (same_conn k) es w))
        → AllByRecursion (IsServed by) (set_value (same_conn k) (e ∷ es) w)
    go true here rest =
        let v : Some e.1 ≡ Some c = sym (cond-true (same_conn k e.0) (Some e.1) (lookup (same_conn k) es) here) ∙ there in
        let is : e.1 ≡ c = cc in
        rw here ((served.0.0 ∙ ap (λ (x : Connection). x.conn) is ∙ sym same, reading), served.1)
    go false here rest =
        rw here (served.0, rest (sym (cond-false (same_conn k e.0) (Some e.1) (lookup (same_conn k) es) here) ∙ there) same reading)

pub served_at : (by : Service) (k : Conn) (es : List Entry) (c : Connection) → AllByRecursion (IsServed by) es → lookup (same_conn k) es ≡ Some c → IsServedBy by c
served_at by k [] c served there = absurd cc
served_at by k (e ∷ es) c served there = go (same_conn k e.0) refl (served_at by k es c served.1)
  where
    go : (b : Bool) → same_conn k e.0 ≡ b → (lookup (same_conn k) es ≡ Some c → IsServedBy by c) → IsServedBy by c
    go true here rest =
        let v : Some e.1 ≡ Some c = sym (cond-true (same_conn k e.0) (Some e.1) (lookup (same_conn k) es) here) ∙ there in
        let is : e.1 ≡ c = cc in
        subst (λ (x : Connection). IsServedBy by x) is served.0.1
    go false here rest = rest (sym (cond-false (same_conn k e.0) (Some e.1) (lookup (same_conn k) es) here) ∙ there)

pub served_last : (by : Service) (e : Entry) (es : List Entry) → AllByRecursion (IsServed by) es → IsServed by e → AllByRecursion (IsServed by) (es ++ e ∷ [])
served_last by e [] served own = (own, tt)
served_last by e (d ∷ es) served own = (served.0, served_last by e es served.1 own)

pub served_without : (by : Service) (k : Conn) (es : List Entry) → AllByRecursion (IsServed by) es → AllByRecursion (IsServed by) (remove_entry (same_conn k) es)
served_without by k [] served = tt
served_without by k (e ∷ es) served = go (same_conn k e.0) (served_without by k es served.1)
  where
    go : (b : Bool) → AllByRecursion (IsServed by) (remove_entry (same_conn k) es) → AllByRecursion (IsServed by) (cond b es (e ∷ remove_entry (same_conn k) es))
    go true rest = served.1
    go false rest = (served.0, rest)

-- ---- alarms

pub awaited_of : (by : Service) (es : List Entry) → AllByRecursion (IsServed by) es → AreAwaited by.within by.alarms es
awaited_of by [] served = tt
awaited_of by (e ∷ es) served = (served.0.1.1, awaited_of by es served.1)

served_anew : (by : Service) (alarms : AlarmTable) (es : List Entry) → AreAwaited by.within alarms es → AllByRecursion (IsServed by) es
    → AllByRecursion (IsServed (record by { alarms = alarms })) es
served_anew by alarms [] all served = tt
served_anew by alarms (e ∷ es) all served = ((served.0.0, (served.0.1.0, all.0)), served_anew by alarms es all.1 served.1)

-- ---- the connection of a client

for_key : (key : ℕ) (s : ConnectionState) → is_for key s ≡ has_key key (key_on s)
for_key key AwaitingConnect = refl
for_key key (ConnectedAs other terms last_activity) = refl
for_key key Closed = refl

pub up_is : (key : ℕ) (es : List Entry) → up_on key (connections_of es) ≡ up_in key (ups_of es)
up_is key [] = refl
up_is key (e ∷ es) = ap₂ (λ (b : Bool) (o : Option Conn). cond b (Some e.1.conn) o) (for_key key e.1.stage) (up_is key es)

count_cons : {X : Type 0} (p : X → Bool) (x : X) (xs : List X) → count_by p (x ∷ xs) ≡ cond (p x) 1 0 + count_by p xs
count_cons p x xs = sum_by-cons (λ y. cond (p y) 1 0) x xs

pub count_is : (es : List Entry) → up_count (connections_of es) ≡ count_by (λ (u : Up). is_some u.1) (ups_of es)
count_is [] = refl
count_is (e ∷ es) =
    count_cons (λ (x : HubConnection). is_some (key_on x.stage)) (connection_of e.1) (connections_of es)
    ∙ ap (λ (n : ℕ). cond (is_some (key_on e.1.stage)) 1 0 + n) (count_is es)
    ∙ sym (count_cons (λ (u : Up). is_some u.1) (e.1.conn, key_on e.1.stage) (ups_of es))

-- ---- one connection has another key, or none

-- the first connection of a name is connected for this key
abbrev pub first_up : Conn → Option ℕ → List Up → List Up
first_up k o [] = []
first_up k o (u ∷ us) = cond (same_conn k u.0) ((u.0, o) ∷ us) (u ∷ first_up k o us)

-- the key for which the first connection of a name is connected
abbrev pub key_in : Conn → List Up → Option ℕ
key_in k [] = None
key_in k (u ∷ us) = cond (same_conn k u.0) u.1 (key_in k us)

abbrev pub ups_count : List Up → ℕ
ups_count us = count_by (λ (u : Up). is_some u.1) us

one_count : (u : Up) (us : List Up) → ups_count (u ∷ us) ≡ cond (is_some u.1) 1 0 + ups_count us
one_count u us = count_cons (λ (v : Up). is_some v.1) u us

pub key_there : (k : Conn) (es : List Entry) (c : Connection) → AreNamed es → lookup (same_conn k) es ≡ Some c → key_in k (ups_of es) ≡ key_on c.stage
key_there k [] c named there = absurd cc
key_there k (e ∷ es) c named there = go (same_conn k e.0) refl (key_there k es c named.1)
  where
    go : (b : Bool) → same_conn k e.0 ≡ b → (lookup (same_conn k) es ≡ Some c → key_in k (ups_of es) ≡ key_on c.stage) → key_in k (ups_of (e ∷ es)) ≡ key_on c.stage
    go true same rest =
        let v : Some e.1 ≡ Some c = sym (cond-true (same_conn k e.0) (Some e.1) (lookup (same_conn k) es) same) ∙ there in
        let is : e.1 ≡ c = cc in
        cond-true (same_conn k e.1.conn) (key_on e.1.stage) (key_in k (ups_of es)) (ap (same_conn k) (sym named.0) ∙ same) ∙ ap (λ (x : Connection). key_on x.stage) is
    go false same rest =
        cond-false (same_conn k e.1.conn) (key_on e.1.stage) (key_in k (ups_of es)) (ap (same_conn k) (sym named.0) ∙ same)
        ∙ rest (sym (cond-false (same_conn k e.0) (Some e.1) (lookup (same_conn k) es) same) ∙ there)

pub ups_set : (k : Conn) (es : List Entry) (c w : Connection) → AreNamed es → lookup (same_conn k) es ≡ Some c → w.conn ≡ c.conn
    → ups_of (set_value (same_conn k) es w) ≡ first_up k (key_on w.stage) (ups_of es)
ups_set k [] c w named there same = refl
ups_set k (e ∷ es) c w named there same = go (same_conn k e.0) refl (ups_set k es c w named.1)
  where
    go : (b : Bool) → same_conn k e.0 ≡ b
        → (lookup (same_conn k) es ≡ Some c → w.conn ≡ c.conn → ups_of (set_value (same_conn k) es w) ≡ first_up k (key_on w.stage) (ups_of es))
        → ups_of (set_value (same_conn k) (e ∷ es) w) ≡ first_up k (key_on w.stage) (ups_of (e ∷ es))
    go true here rest =
        let v : Some e.1 ≡ Some c = sym (cond-true (same_conn k e.0) (Some e.1) (lookup (same_conn k) es) here) ∙ there in
        let is : e.1 ≡ c = cc in
        ap ups_of (cond-true (same_conn k e.0) ((e.0, w) ∷ es) (e ∷ set_value (same_conn k) es w) here)
        ∙ ap (λ (x : Conn). (x, key_on w.stage) ∷ ups_of es) (same ∙ sym (ap (λ (x : Connection). x.conn) is))
        ∙ sym (cond-true (same_conn k e.1.conn) ((e.1.conn, key_on w.stage) ∷ ups_of es) ((e.1.conn, key_on e.1.stage) ∷ first_up k (key_on w.stage) (ups_of es)) (ap (same_conn k) (sym named.0) ∙ here))
    go false here rest =
        ap ups_of (cond-false (same_conn k e.0) ((e.0, w) ∷ es) (e ∷ set_value (same_conn k) es w) here)
        ∙ ap (λ (us : List Up). (e.1.conn, key_on e.1.stage) ∷ us) (rest (sym (cond-false (same_conn k e.0) (Some e.1) (lookup (same_conn k) es) here) ∙ there) same)
        ∙ sym (cond-false (same_conn k e.1.conn) ((e.1.conn, key_on w.stage) ∷ ups_of es) ((e.1.conn, key_on e.1.stage) ∷ first_up k (key_on w.stage) (ups_of es)) (ap (same_conn k) (sym named.0) ∙ here))

pub ups_removed : (k : Conn) (es : List Entry) → AreNamed es → key_in k (ups_of es) ≡ None → (key : ℕ) → up_in key (ups_of (remove_entry (same_conn k) es)) ≡ up_in key (ups_of es)
ups_removed k [] named none key = refl
ups_removed k (e ∷ es) named none key = go (same_conn k e.0) refl (ups_removed k es named.1)
  where
    go : (b : Bool) → same_conn k e.0 ≡ b → (key_in k (ups_of es) ≡ None → (key : ℕ) → up_in key (ups_of (remove_entry (same_conn k) es)) ≡ up_in key (ups_of es))
        → up_in key (ups_of (remove_entry (same_conn k) (e ∷ es))) ≡ up_in key (ups_of (e ∷ es))
    go true same rest =
        let own : key_on e.1.stage ≡ None = sym (cond-true (same_conn k e.1.conn) (key_on e.1.stage) (key_in k (ups_of es)) (ap (same_conn k) (sym named.0) ∙ same)) ∙ none in
        ap (λ (rs : List Entry). up_in key (ups_of rs)) (cond-true (same_conn k e.0) es (e ∷ remove_entry (same_conn k) es) same)
        ∙ sym (ap (λ (o : Option ℕ). cond (has_key key o) (Some e.1.conn) (up_in key (ups_of es))) own)
    go false same rest =
        let later = sym (cond-false (same_conn k e.1.conn) (key_on e.1.stage) (key_in k (ups_of es)) (ap (same_conn k) (sym named.0) ∙ same)) ∙ none in
        ap (λ (rs : List Entry). up_in key (ups_of rs)) (cond-false (same_conn k e.0) es (e ∷ remove_entry (same_conn k) es) same)
        ∙ ap (λ (o : Option Conn). cond (has_key key (key_on e.1.stage)) (Some e.1.conn) o) (rest later key)

pub count_removed : (k : Conn) (es : List Entry) → AreNamed es → key_in k (ups_of es) ≡ None → ups_count (ups_of (remove_entry (same_conn k) es)) ≡ ups_count (ups_of es)
count_removed k [] named none = refl
count_removed k (e ∷ es) named none = go (same_conn k e.0) refl (count_removed k es named.1)
  where
    go : (b : Bool) → same_conn k e.0 ≡ b → (key_in k (ups_of es) ≡ None → ups_count (ups_of (remove_entry (same_conn k) es)) ≡ ups_count (ups_of es))
        → ups_count (ups_of (remove_entry (same_conn k) (e ∷ es))) ≡ ups_count (ups_of (e ∷ es))
    go true same rest =
        let own : key_on e.1.stage ≡ None = sym (cond-true (same_conn k e.1.conn) (key_on e.1.stage) (key_in k (ups_of es)) (ap (same_conn k) (sym named.0) ∙ same)) ∙ none in
        ap (λ (rs : List Entry). ups_count (ups_of rs)) (cond-true (same_conn k e.0) es (e ∷ remove_entry (same_conn k) es) same)
        ∙ sym (one_count (e.1.conn, key_on e.1.stage) (ups_of es) ∙ ap (λ (o : Option ℕ). cond (is_some o) 1 0 + ups_count (ups_of es)) own ∙ zero-add (ups_count (ups_of es)))
    go false same rest =
        let later = sym (cond-false (same_conn k e.1.conn) (key_on e.1.stage) (key_in k (ups_of es)) (ap (same_conn k) (sym named.0) ∙ same)) ∙ none in
        ap (λ (rs : List Entry). ups_count (ups_of rs)) (cond-false (same_conn k e.0) es (e ∷ remove_entry (same_conn k) es) same)
        ∙ one_count (e.1.conn, key_on e.1.stage) (ups_of (remove_entry (same_conn k) es))
        ∙ ap (λ (n : ℕ). cond (is_some (key_on e.1.stage)) 1 0 + n) (rest later)
        ∙ sym (one_count (e.1.conn, key_on e.1.stage) (ups_of es))

pub singly_removed : (k : Conn) (es : List Entry) → AreNamed es → key_in k (ups_of es) ≡ None → AreUpOnce (ups_of es) → AreUpOnce (ups_of (remove_entry (same_conn k) es))
singly_removed k [] named none once = tt
singly_removed k (e ∷ es) named none once = go (same_conn k e.0) refl (singly_removed k es named.1)
  where
    go : (b : Bool) → same_conn k e.0 ≡ b → (key_in k (ups_of es) ≡ None → AreUpOnce (ups_of es) → AreUpOnce (ups_of (remove_entry (same_conn k) es)))
        → AreUpOnce (ups_of (remove_entry (same_conn k) (e ∷ es)))
    go true same rest = rw same once.1
    go false same rest =
        let later = sym (cond-false (same_conn k e.1.conn) (key_on e.1.stage) (key_in k (ups_of es)) (ap (same_conn k) (sym named.0) ∙ same)) ∙ none in
        rw same ((λ key is. ups_removed k es named.1 later key ∙ once.0 key is), rest later once.1)

-- the same key again
pub first_same : (k : Conn) (us : List Up) → first_up k (key_in k us) us ≡ us
first_same k [] = refl
first_same k (u ∷ us) = go (same_conn k u.0) refl (first_same k us)
  where
    go : (b : Bool) → same_conn k u.0 ≡ b → first_up k (key_in k us) us ≡ us → first_up k (key_in k (u ∷ us)) (u ∷ us) ≡ u ∷ us
    go true same rest =
        ap (λ (o : Option ℕ). first_up k o (u ∷ us)) (cond-true (same_conn k u.0) u.1 (key_in k us) same)
        ∙ cond-true (same_conn k u.0) (u ∷ us) (u ∷ first_up k u.1 us) same
    go false same rest =
        ap (λ (o : Option ℕ). first_up k o (u ∷ us)) (cond-false (same_conn k u.0) u.1 (key_in k us) same)
        ∙ cond-false (same_conn k u.0) ((u.0, key_in k us) ∷ us) (u ∷ first_up k (key_in k us) us) same
        ∙ ap (λ (vs : List Up). u ∷ vs) rest

-- ---- one is connected, or closed

has_itself : (key : ℕ) → has_key key (Some key) ≡ true
has_itself key = eq-eqb key key refl

-- no connection is connected for a key that the first one does not have
pub not_first : (key : ℕ) (u : Up) (us : List Up) → up_in key (u ∷ us) ≡ None → (has_key key u.1 ≡ false) × (up_in key us ≡ None)
not_first key u us none = go (has_key key u.1) refl
  where
    go : (b : Bool) → has_key key u.1 ≡ b → (has_key key u.1 ≡ false) × (up_in key us ≡ None)
    go true e = let w : Some u.0 ≡ None = sym (cond-true (has_key key u.1) (Some u.0) (up_in key us) e) ∙ none in absurd cc
    go false e = (e, sym (cond-false (has_key key u.1) (Some u.0) (up_in key us) e) ∙ none)

-- a connection of that name is among them
abbrev pub stands : Conn → List Up → Bool
stands k [] = false
stands k (u ∷ us) = same_conn k u.0 || stands k us

pub stands_there : (k : Conn) (es : List Entry) (c : Connection) → AreNamed es → lookup (same_conn k) es ≡ Some c → stands k (ups_of es) ≡ true
stands_there k [] c named there = absurd cc
stands_there k (e ∷ es) c named there = go (same_conn k e.0) refl (stands_there k es c named.1)
  where
    go : (b : Bool) → same_conn k e.0 ≡ b → (lookup (same_conn k) es ≡ Some c → stands k (ups_of es) ≡ true) → stands k (ups_of (e ∷ es)) ≡ true
    go true same rest = ap (λ (b : Bool). b || stands k (ups_of es)) (ap (same_conn k) (sym named.0) ∙ same)
    go false same rest =
        ap (λ (b : Bool). b || stands k (ups_of es)) (ap (same_conn k) (sym named.0) ∙ same)
        ∙ rest (sym (cond-false (same_conn k e.0) (Some e.1) (lookup (same_conn k) es) same) ∙ there)

-- two keys of one connection are equal
same_keys : (a b : ℕ) (o : Option ℕ) → has_key a o ≡ true → o ≡ Some b → a ≡ b
same_keys a b o has is =
    let w : eqb b a ≡ true = ap (has_key a) (sym is) ∙ has in
    sym (eqb-true b a w)

pub up_rise : (k : Conn) (key n : ℕ) (us : List Up) → stands k us ≡ true → key_in k us ≡ None → up_in key us ≡ None
    → up_in n (first_up k (Some key) us) ≡ cond (eqb key n) (Some k) (up_in n us)
up_rise k key n [] there fresh none = absurd (true≢false (sym there))
up_rise k key n (u ∷ us) there fresh none = go (same_conn k u.0) refl (up_rise k key n us)
  where
    go : (b : Bool) → same_conn k u.0 ≡ b
        → (stands k us ≡ true → key_in k us ≡ None → up_in key us ≡ None → up_in n (first_up k (Some key) us) ≡ cond (eqb key n) (Some k) (up_in n us))
        → up_in n (first_up k (Some key) (u ∷ us)) ≡ cond (eqb key n) (Some k) (up_in n (u ∷ us))
    go true same rest =
        let own : u.1 ≡ None = sym (cond-true (same_conn k u.0) u.1 (key_in k us) same) ∙ fresh in
        ap (up_in n) (cond-true (same_conn k u.0) ((u.0, Some key) ∷ us) (u ∷ first_up k (Some key) us) same)
        ∙ ap (λ (x : Conn). cond (eqb key n) (Some x) (up_in n us)) (sym (one_conn k u.0 same))
        ∙ ap (λ (o : Option ℕ). cond (eqb key n) (Some k) (cond (has_key n o) (Some u.0) (up_in n us))) (sym own)
    go false same rest =
        let later = rest (sym (ap (λ (b : Bool). b || stands k us) same) ∙ there) (sym (cond-false (same_conn k u.0) u.1 (key_in k us) same) ∙ fresh) (not_first key u us none).1 in
        ap (up_in n) (cond-false (same_conn k u.0) ((u.0, Some key) ∷ us) (u ∷ first_up k (Some key) us) same)
        ∙ ap (λ (o : Option Conn). cond (has_key n u.1) (Some u.0) o) later
        ∙ turn (eqb key n) refl
      where
        turn : (c : Bool) → eqb key n ≡ c → cond (has_key n u.1) (Some u.0) (cond (eqb key n) (Some k) (up_in n us)) ≡ cond (eqb key n) (Some k) (cond (has_key n u.1) (Some u.0) (up_in n us))
        turn true e =
            let apart : has_key n u.1 ≡ false = subst (λ (m : ℕ). has_key m u.1 ≡ false) (eqb-true key n e) (not_first key u us none).0 in
            cond-false (has_key n u.1) (Some u.0) (cond (eqb key n) (Some k) (up_in n us)) apart
            ∙ cond-true (eqb key n) (Some k) (up_in n us) e
            ∙ sym (cond-true (eqb key n) (Some k) (cond (has_key n u.1) (Some u.0) (up_in n us)) e)
        turn false e = rw e refl

pub singly_rise : (k : Conn) (key : ℕ) (us : List Up) → stands k us ≡ true → key_in k us ≡ None → up_in key us ≡ None → AreUpOnce us → AreUpOnce (first_up k (Some key) us)
singly_rise k key [] there fresh none once = tt
singly_rise k key (u ∷ us) there fresh none once = go (same_conn k u.0) refl (singly_rise k key us)
  where
    go : (b : Bool) → same_conn k u.0 ≡ b → (stands k us ≡ true → key_in k us ≡ None → up_in key us ≡ None → AreUpOnce us → AreUpOnce (first_up k (Some key) us))
        → AreUpOnce (first_up k (Some key) (u ∷ us))
    go true same rest =
        rw same ((λ n is. let w : key ≡ n = cc in subst (λ (m : ℕ). up_in m us ≡ None) w (not_first key u us none).1), once.1)
    go false same rest =
        let more = sym (ap (λ (b : Bool). b || stands k us) same) ∙ there in
        let free = sym (cond-false (same_conn k u.0) u.1 (key_in k us) same) ∙ fresh in
        let left = not_first key u us none in
        rw same ((λ n is. up_rise k key n us more free left.1 ∙ apart n is left.0 (eqb key n) refl (once.0 n is)), rest more free left.1 once.1)
      where
        apart : (n : ℕ) → u.1 ≡ Some n → has_key key u.1 ≡ false → (c : Bool) → eqb key n ≡ c → up_in n us ≡ None → cond (eqb key n) (Some k) (up_in n us) ≡ None
        apart n is other true e left =
            absurd (true≢false (sym (ap (has_key key) is ∙ ap (λ (m : ℕ). eqb m key) (sym (eqb-true key n e)) ∙ has_itself key) ∙ other))
        apart n is other false e left = cond-false (eqb key n) (Some k) (up_in n us) e ∙ left

pub count_rise : (k : Conn) (key : ℕ) (us : List Up) → stands k us ≡ true → key_in k us ≡ None → ups_count (first_up k (Some key) us) ≡ ups_count us + 1
count_rise k key [] there fresh = absurd (true≢false (sym there))
count_rise k key (u ∷ us) there fresh = go (same_conn k u.0) refl (count_rise k key us)
  where
    go : (b : Bool) → same_conn k u.0 ≡ b → (stands k us ≡ true → key_in k us ≡ None → ups_count (first_up k (Some key) us) ≡ ups_count us + 1)
        → ups_count (first_up k (Some key) (u ∷ us)) ≡ ups_count (u ∷ us) + 1
    go true same rest =
        let own : u.1 ≡ None = sym (cond-true (same_conn k u.0) u.1 (key_in k us) same) ∙ fresh in
        let none : ups_count (u ∷ us) ≡ 0 + ups_count us = one_count u us ∙ ap (λ (o : Option ℕ). cond (is_some o) 1 0 + ups_count us) own in
        let first : ups_count (first_up k (Some key) (u ∷ us)) ≡ 1 + ups_count us =
        ap ups_count (cond-true (same_conn k u.0) ((u.0, Some key) ∷ us) (u ∷ first_up k (Some key) us) same) ∙ one_count (u.0, Some key) us in
        omega (arith, none, first)
    go false same rest =
        let more = sym (ap (λ (b : Bool). b || stands k us) same) ∙ there in
        let free = sym (cond-false (same_conn k u.0) u.1 (key_in k us) same) ∙ fresh in
        let later = rest more free in
        let first : ups_count (first_up k (Some key) (u ∷ us)) ≡ cond (is_some u.1) 1 0 + ups_count (first_up k (Some key) us) =
        ap ups_count (cond-false (same_conn k u.0) ((u.0, Some key) ∷ us) (u ∷ first_up k (Some key) us) same) ∙ one_count u (first_up k (Some key) us) in
        let own = one_count u us in
        omega (arith, later, first, own)

-- a connected connection is found
pub up_there : (k : Conn) (key : ℕ) (us : List Up) → key_in k us ≡ Some key → is_some (up_in key us) ≡ true
up_there k key [] e = absurd cc
up_there k key (u ∷ us) e = go (same_conn k u.0) refl (up_there k key us)
  where
    by : (c : Bool) → is_some (up_in key us) ≡ true → is_some (cond c (Some u.0) (up_in key us)) ≡ true
    by true h = refl
    by false h = h

    go : (b : Bool) → same_conn k u.0 ≡ b → (key_in k us ≡ Some key → is_some (up_in key us) ≡ true) → is_some (up_in key (u ∷ us)) ≡ true
    go true same rest =
        let own : u.1 ≡ Some key = sym (cond-true (same_conn k u.0) u.1 (key_in k us) same) ∙ e in
        ap is_some (cond-true (has_key key u.1) (Some u.0) (up_in key us) (ap (has_key key) own ∙ has_itself key))
    go false same rest = by (has_key key u.1) (rest (sym (cond-false (same_conn k u.0) u.1 (key_in k us) same) ∙ e))

pub up_shut : (k : Conn) (key n : ℕ) (us : List Up) → key_in k us ≡ Some key → AreUpOnce us → up_in n (first_up k None us) ≡ cond (eqb key n) None (up_in n us)
up_shut k key n [] up once = absurd cc
up_shut k key n (u ∷ us) up once = go (same_conn k u.0) refl (up_shut k key n us)
  where
    go : (b : Bool) → same_conn k u.0 ≡ b → (key_in k us ≡ Some key → AreUpOnce us → up_in n (first_up k None us) ≡ cond (eqb key n) None (up_in n us))
        → up_in n (first_up k None (u ∷ us)) ≡ cond (eqb key n) None (up_in n (u ∷ us))
    go true same rest =
        let own : u.1 ≡ Some key = sym (cond-true (same_conn k u.0) u.1 (key_in k us) same) ∙ up in
        ap (up_in n) (cond-true (same_conn k u.0) ((u.0, None) ∷ us) (u ∷ first_up k None us) same)
        ∙ left (eqb key n) refl own
        ∙ ap (λ (o : Option ℕ). cond (eqb key n) None (cond (has_key n o) (Some u.0) (up_in n us))) (sym own)
      where
        left : (c : Bool) → eqb key n ≡ c → u.1 ≡ Some key → up_in n us ≡ cond (eqb key n) None (cond (eqb key n) (Some u.0) (up_in n us))
        left true e own =
            subst (λ (m : ℕ). up_in m us ≡ None) (eqb-true key n e) (once.0 key own)
            ∙ sym (cond-true (eqb key n) None (cond (eqb key n) (Some u.0) (up_in n us)) e)
        left false e own = rw e refl
    go false same rest =
        let later = sym (cond-false (same_conn k u.0) u.1 (key_in k us) same) ∙ up in
        ap (up_in n) (cond-false (same_conn k u.0) ((u.0, None) ∷ us) (u ∷ first_up k None us) same)
        ∙ ap (λ (o : Option Conn). cond (has_key n u.1) (Some u.0) o) (rest later once.1)
        ∙ turn later (eqb key n) refl (has_key n u.1) refl
      where
        owner : (o : Option ℕ) → has_key n o ≡ true → o ≡ Some n
        owner None has = absurd (true≢false (sym has))
        owner (Some m) has = ap (λ (x : ℕ). Some x) (eqb-true m n has)

        turn : key_in k us ≡ Some key → (c : Bool) → eqb key n ≡ c → (d : Bool) → has_key n u.1 ≡ d
            → cond (has_key n u.1) (Some u.0) (cond (eqb key n) None (up_in n us)) ≡ cond (eqb key n) None (cond (has_key n u.1) (Some u.0) (up_in n us))
        turn later true e true h =
            let gone : up_in key us ≡ None = subst (λ (m : ℕ). up_in m us ≡ None) (sym (eqb-true key n e)) (once.0 n (owner u.1 h)) in
            absurd (true≢false (sym (up_there k key us later) ∙ ap is_some gone))
        turn later true e false h = rw (e, h) refl
        turn later false e d h = rw e refl

pub singly_shut : (k : Conn) (key : ℕ) (us : List Up) → key_in k us ≡ Some key → AreUpOnce us → AreUpOnce (first_up k None us)
singly_shut k key [] up once = tt
singly_shut k key (u ∷ us) up once = go (same_conn k u.0) refl (singly_shut k key us)
  where
    gone : (c : Bool) (o : Option Conn) → o ≡ None → cond c None o ≡ None
    gone true o none = refl
    gone false o none = none

    go : (b : Bool) → same_conn k u.0 ≡ b → (key_in k us ≡ Some key → AreUpOnce us → AreUpOnce (first_up k None us)) → AreUpOnce (first_up k None (u ∷ us))
    go true same rest = rw same ((λ n is. absurd cc), once.1)
    go false same rest =
        let later = sym (cond-false (same_conn k u.0) u.1 (key_in k us) same) ∙ up in
        rw same ((λ n is. up_shut k key n us later once.1 ∙ gone (eqb key n) (up_in n us) (once.0 n is)), rest later once.1)

pub count_shut : (k : Conn) (key : ℕ) (us : List Up) → key_in k us ≡ Some key → ups_count (first_up k None us) + 1 ≡ ups_count us
count_shut k key [] up = absurd cc
count_shut k key (u ∷ us) up = go (same_conn k u.0) refl (count_shut k key us)
  where
    go : (b : Bool) → same_conn k u.0 ≡ b → (key_in k us ≡ Some key → ups_count (first_up k None us) + 1 ≡ ups_count us) → ups_count (first_up k None (u ∷ us)) + 1 ≡ ups_count (u ∷ us)
    go true same rest =
        let own : u.1 ≡ Some key = sym (cond-true (same_conn k u.0) u.1 (key_in k us) same) ∙ up in
        let all : ups_count (u ∷ us) ≡ 1 + ups_count us = one_count u us ∙ ap (λ (o : Option ℕ). cond (is_some o) 1 0 + ups_count us) own in
        let first : ups_count (first_up k None (u ∷ us)) ≡ 0 + ups_count us =
        ap ups_count (cond-true (same_conn k u.0) ((u.0, None) ∷ us) (u ∷ first_up k None us) same) ∙ one_count (u.0, None) us in
        omega (arith, all, first)
    go false same rest =
        let later = rest (sym (cond-false (same_conn k u.0) u.1 (key_in k us) same) ∙ up) in
        let first : ups_count (first_up k None (u ∷ us)) ≡ cond (is_some u.1) 1 0 + ups_count (first_up k None us) =
        ap ups_count (cond-false (same_conn k u.0) ((u.0, None) ∷ us) (u ∷ first_up k None us) same) ∙ one_count u (first_up k None us) in
        let own = one_count u us in
        omega (arith, later, first, own)

-- ---- one goes last

pub up_last : (key : ℕ) (k : Conn) (us : List Up) → up_in key (us ++ (k, None) ∷ []) ≡ up_in key us
up_last key k [] = refl
up_last key k (u ∷ us) = ap (λ (o : Option Conn). cond (has_key key u.1) (Some u.0) o) (up_last key k us)

pub singly_last : (k : Conn) (us : List Up) → AreUpOnce us → AreUpOnce (us ++ (k, None) ∷ [])
singly_last k [] once = ((λ key is. absurd cc), tt)
singly_last k (u ∷ us) once = ((λ key is. up_last key k us ∙ once.0 key is), singly_last k us once.1)

pub count_last : (k : Conn) (us : List Up) → ups_count (us ++ (k, None) ∷ []) ≡ ups_count us
count_last k [] = refl
count_last k (u ∷ us) = one_count u (us ++ (k, None) ∷ []) ∙ ap (λ (n : ℕ). cond (is_some u.1) 1 0 + n) (count_last k us) ∙ sym (one_count u us)

pub ups_last : (e : Entry) (es : List Entry) → ups_of (es ++ e ∷ []) ≡ ups_of es ++ (e.1.conn, key_on e.1.stage) ∷ []
ups_last e [] = refl
ups_last e (d ∷ es) = ap (λ (us : List Up). (d.1.conn, key_on d.1.stage) ∷ us) (ups_last e es)

pub lines_last : (e : Entry) (es : List Entry) → connections_of (es ++ e ∷ []) ≡ connections_of es ++ connection_of e.1 ∷ []
lines_last e [] = refl
lines_last e (d ∷ es) = ap (λ (xs : List HubConnection). connection_of d.1 ∷ xs) (lines_last e es)

-- ---- the invariant of the table

distinct_set : (k : Conn) (es : List Entry) (w : Connection) → IsDistinct same_conn (keys_of es) → IsDistinct same_conn (keys_of (set_value (same_conn k) es w))
distinct_set k es w distinct = subst (λ (ks : List Conn). IsDistinct same_conn ks) (sym (keys-set_value (same_conn k) es w)) distinct

-- a connection stays connected for the same key
pub kept_same : (by : Service) (k : Conn) (es : List Entry) (c w : Connection) (find : ℕ → Option Conn) (count : ℕ) → AreConnections by es find count
    → lookup (same_conn k) es ≡ Some c → w.conn ≡ c.conn → IsServedBy by w → key_on w.stage ≡ key_on c.stage → AreConnections by (set_value (same_conn k) es w) find count
kept_same by k es c w find count kept there same reading still =
    let named = are_named by es kept.served in
    let ups : ups_of (set_value (same_conn k) es w) ≡ ups_of es =
    ups_set k es c w named there same ∙ ap (λ (o : Option ℕ). first_up k o (ups_of es)) (still ∙ sym (key_there k es c named there)) ∙ first_same k (ups_of es) in
    record {
      served = served_set by k es c w kept.served there same reading;
      distinct = distinct_set k es w kept.distinct;
      singly = subst (λ (us : List Up). AreUpOnce us) (sym ups) kept.singly;
      found = λ key. kept.found key ∙ ap (up_in key) (sym ups);
      counted = kept.counted ∙ ap ups_count (sym ups);
    }

-- it becomes connected
pub kept_rise : (by : Service) (k : Conn) (key : ℕ) (es : List Entry) (c w : Connection) (find after : ℕ → Option Conn) (count more : ℕ) → AreConnections by es find count
    → lookup (same_conn k) es ≡ Some c → w.conn ≡ c.conn → IsServedBy by w → key_on c.stage ≡ None → key_on w.stage ≡ Some key → up_in key (ups_of es) ≡ None
    → ((n : ℕ) → after n ≡ cond (eqb key n) (Some k) (find n)) → more ≡ count + 1 → AreConnections by (set_value (same_conn k) es w) after more
kept_rise by k key es c w find after count more kept there same reading fresh up none says one =
    let named = are_named by es kept.served in
    let us = ups_of es in
    let stand = stands_there k es c named there in
    let free = key_there k es c named there ∙ fresh in
    let ups : ups_of (set_value (same_conn k) es w) ≡ first_up k (Some key) us = ups_set k es c w named there same ∙ ap (λ (o : Option ℕ). first_up k o us) up in
    record {
      served = served_set by k es c w kept.served there same reading;
      distinct = distinct_set k es w kept.distinct;
      singly = subst (λ (vs : List Up). AreUpOnce vs) (sym ups) (singly_rise k key us stand free none kept.singly);
      found = λ n. says n ∙ ap (λ (o : Option Conn). cond (eqb key n) (Some k) o) (kept.found n) ∙ sym (up_rise k key n us stand free none) ∙ ap (up_in n) (sym ups);
      counted = one ∙ ap (λ (n : ℕ). n + 1) kept.counted ∙ sym (count_rise k key us stand free) ∙ ap ups_count (sym ups);
    }

-- it is closed
pub kept_shut : (by : Service) (k : Conn) (key : ℕ) (es : List Entry) (c w : Connection) (find after : ℕ → Option Conn) (count less : ℕ) → AreConnections by es find count
    → lookup (same_conn k) es ≡ Some c → w.conn ≡ c.conn → IsServedBy by w → key_on c.stage ≡ Some key → key_on w.stage ≡ None
    → ((n : ℕ) → after n ≡ cond (eqb key n) None (find n)) → less + 1 ≡ count → AreConnections by (set_value (same_conn k) es w) after less
kept_shut by k key es c w find after count less kept there same reading up down says one =
    let named = are_named by es kept.served in
    let us = ups_of es in
    let own = key_there k es c named there ∙ up in
    let ups : ups_of (set_value (same_conn k) es w) ≡ first_up k None us = ups_set k es c w named there same ∙ ap (λ (o : Option ℕ). first_up k o us) down in
    let fewer = count_shut k key us own in
    let all = kept.counted in
    let last : less ≡ ups_count (first_up k None us) = omega (arith, fewer, all, one) in
    record {
      served = served_set by k es c w kept.served there same reading;
      distinct = distinct_set k es w kept.distinct;
      singly = subst (λ (vs : List Up). AreUpOnce vs) (sym ups) (singly_shut k key us own kept.singly);
      found = λ n. says n ∙ ap (λ (o : Option Conn). cond (eqb key n) None o) (kept.found n) ∙ sym (up_shut k key n us own kept.singly) ∙ ap (up_in n) (sym ups);
      counted = last ∙ ap ups_count (sym ups);
    }

-- the invariant with other alarms
pub kept_anew : (by : Service) (alarms : AlarmTable) (es : List Entry) (find : ℕ → Option Conn) (count : ℕ) → AreAwaited by.within alarms es
    → AreConnections by es find count → AreConnections (record by { alarms = alarms }) es find count
kept_anew by alarms es find count all kept = record {
  served = served_anew by alarms es all kept.served;
  distinct = kept.distinct;
  singly = kept.singly;
  found = kept.found;
  counted = kept.counted;
}

-- a connected one is found
pub is_found : (by : Service) (k : Conn) (key : ℕ) (es : List Entry) (c : Connection) (find : ℕ → Option Conn) (count : ℕ) → AreConnections by es find count
    → lookup (same_conn k) es ≡ Some c → key_on c.stage ≡ Some key → is_some (find key) ≡ true
is_found by k key es c find count kept there up =
    ap is_some (kept.found key) ∙ up_there k key (ups_of es) (key_there k es c (are_named by es kept.served) there ∙ up)

-- one is opened
pub kept_last : (by : Service) (c : Connection) (es : List Entry) (find : ℕ → Option Conn) (count : ℕ) → AreConnections by es find count
    → c.stage ≡ AwaitingConnect → IsServedBy by c → IsDistinct same_conn (keys_of (es ++ (c.conn, c) ∷ [])) → AreConnections by (es ++ (c.conn, c) ∷ []) find count
kept_last by c es find count kept fresh reading distinct =
    let us = ups_of es in
    let ups : ups_of (es ++ (c.conn, c) ∷ []) ≡ us ++ (c.conn, None) ∷ [] = ups_last (c.conn, c) es ∙ ap (λ (s : ConnectionState). us ++ (c.conn, key_on s) ∷ []) fresh in
    record {
      served = served_last by (c.conn, c) es kept.served (refl, reading);
      distinct = distinct;
      singly = subst (λ (vs : List Up). AreUpOnce vs) (sym ups) (singly_last c.conn us kept.singly);
      found = λ key. kept.found key ∙ sym (up_last key c.conn us) ∙ ap (up_in key) (sym ups);
      counted = kept.counted ∙ sym (count_last c.conn us) ∙ ap ups_count (sym ups);
    }

-- the key for which a connection is connected, in the list of connections
pub key_is : (k : Conn) (es : List Entry) → AreNamed es → key_in k (ups_of es) ≡ key_on (stage_of k (connections_of es))
key_is k [] named = refl
key_is k (e ∷ es) named = go (is_connection k (connection_of e.1)) refl (key_is k es named.1)
  where
    go : (b : Bool) → is_connection k (connection_of e.1) ≡ b → key_in k (ups_of es) ≡ key_on (stage_of k (connections_of es)) → key_in k (ups_of (e ∷ es)) ≡ key_on (stage_of k (connections_of (e ∷ es)))
    go true same rest =
        cond-true (same_conn k e.1.conn) (key_on e.1.stage) (key_in k (ups_of es)) (symm k e.1.conn ∙ same)
        ∙ ap key_on (sym (cond-true (is_connection k (connection_of e.1)) e.1.stage (stage_of k (connections_of es)) same))
    go false same rest =
        cond-false (same_conn k e.1.conn) (key_on e.1.stage) (key_in k (ups_of es)) (symm k e.1.conn ∙ same)
        ∙ rest ∙ ap key_on (sym (cond-false (is_connection k (connection_of e.1)) e.1.stage (stage_of k (connections_of es)) same))

-- one without client is removed
pub kept_without : (by : Service) (k : Conn) (es : List Entry) (find : ℕ → Option Conn) (count : ℕ) → AreConnections by es find count
    → key_on (stage_of k (connections_of es)) ≡ None → IsDistinct same_conn (keys_of (remove_entry (same_conn k) es)) → AreConnections by (remove_entry (same_conn k) es) find count
kept_without by k es find count kept down distinct =
    let named = are_named by es kept.served in
    let none = key_is k es named ∙ down in
    record {
      served = served_without by k es kept.served;
      distinct = distinct;
      singly = singly_removed k es named none kept.singly;
      found = λ key. kept.found key ∙ sym (ups_removed k es named none key);
      counted = kept.counted ∙ sym (count_removed k es named none);
    }

-- the map of connected clients agrees
pub kept_found : (by : Service) (es : List Entry) (find after : ℕ → Option Conn) (count again : ℕ) → AreConnections by es find count
    → ((n : ℕ) → after n ≡ find n) → again ≡ count → AreConnections by es after again
kept_found by es find after count again kept says same = record {
  served = kept.served;
  distinct = kept.distinct;
  singly = kept.singly;
  found = λ key. says key ∙ kept.found key;
  counted = same ∙ kept.counted;
}

-- ---- what calls show

pub heard_key : (now : ℕ) (s : ConnectionState) → key_on (touched now s) ≡ key_on s
heard_key now AwaitingConnect = refl
heard_key now (ConnectedAs key terms last_activity) = refl
heard_key now Closed = refl

pub not_some : {X : Type 0} (o : Option X) → is_some o ≡ false → o ≡ None
not_some None e = refl
not_some (Some x) e = absurd (true≢false e)

-- no connection has that name
pub lacks : (k : Conn) (es : List Entry) → AreNamed es → None ≡ lookup (same_conn k) es → knows k (connections_of es) ≡ false
lacks k es named none = sym (known k es named) ∙ ap is_some (sym none)

pub has : (k : Conn) (es : List Entry) (c : Connection) → AreNamed es → Some c ≡ lookup (same_conn k) es → knows k (connections_of es) ≡ true
has k es c named there = sym (known k es named) ∙ ap is_some (sym there)

-- and then none is changed
pub still_all : (f : HubConnection → HubConnection) (k : Conn) (es : List Entry) → AreNamed es → None ≡ lookup (same_conn k) es → connections_of es ≡ with_connection f k (connections_of es)
still_all f k es named none = sym (unknown f k (connections_of es) (lacks k es named none))

-- the key of the session for which the connection of a name is connected
pub own_key : (k : Conn) (es : List Entry) (c : Connection) (by : Service) → AllByRecursion (IsServed by) es → lookup (same_conn k) es ≡ Some c
    → key_on c.stage ≡ key_on (stage_of k (connections_of es))
own_key k es c by served there = ap key_on (sym (found_by (λ (x : HubConnection). x.stage) k (stage_of k) (λ x xs. refl) es c (are_named by es served) there))
