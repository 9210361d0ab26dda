-- The invariant over changes of the tables.
use Rattle.std.proofs.Common.{◌≡◌, ◌||◌, ℕ, Bool, false, cond, List, [], ◌∷◌, ◌++◌, map, Option, Some, None, refl, sym, ap, ap₂, subst, ◌∙◌}
use Rattle.std.proofs.lemmas.Bool.{or_parts}
use Rattle.std.specs.List.{AllByRecursion}
use Rattle.std.specs.Option.{is_some}
use Rattle.mq_topic.specs.Rows.{Row}
use Rattle.mq_packet.specs.declared.message.Message.{Message}
use Rattle.mq_end.specs.declared.state.State.TheVariants.{Disconnected, Connected}
use Rattle.mq_route.specs.declared.config.HubConfig.{HubConfig}
use Rattle.mq_route.specs.declared.conn.Conn.{Conn}
use Rattle.mq_route.specs.declared.connection_state.ConnectionState.{ConnectionState}
use Rattle.mq_route.specs.declared.connection_state.ConnectionState.TheVariants.{AwaitingConnect}
use Rattle.mq_route.specs.Hub.{HubConnection, is_clean, is_for, knows, up_on, stage_for, keep_alive_on}
use Rattle.mq_route.specs.Routed.{same_conn}
use Rattle.mq_tables.specs.declared.sessions.session.BrokerSession.{BrokerSession}
use Rattle.mq_tables.specs.Tables.{HubTables}
use Rattle.mq_tables.specs.Sessions.{AreAscending, AreBelow}
use Rattle.mq_tables.proofs.ConnectionTable.{symm}
use Rattle.mq_hub.specs.Inside.Invariant.{AreApart, HubInvariant, ConnectionHasSession, IsQuiet, SessionMatchesConnection, IsWithin, HasSession}

-- ---- tables that are seen as the same

pub kept_by : (config : HubConfig) (next : ℕ) (t u : HubTables) → HubInvariant config next t → u.rows ≡ t.rows → u.retained.messages ≡ t.retained.messages
    → u.sessions.list ≡ t.sessions.list → u.connections.connections ≡ t.connections.connections → u.connections.limits ≡ t.connections.limits → HubInvariant config next u
kept_by config next t u kept rows retained list connections limits = record {
  capacity = kept.capacity;
  window = kept.window;
  limits = limits ∙ kept.limits;
  apart = subst AreApart (sym connections) kept.apart;
  quiet = subst (λ (xs : List HubConnection). AllByRecursion (λ x. IsQuiet x.stage x.waiting) xs) (sym connections) kept.quiet;
  backed =
      subst (λ (xs : List HubConnection). AllByRecursion (λ x. ConnectionHasSession config.limits.most u.sessions.list x.stage) xs) (sym connections)
      (subst (λ (ts : List BrokerSession). AllByRecursion (λ x. ConnectionHasSession config.limits.most ts x.stage) t.connections.connections) (sym list) kept.backed);
  fitting =
      subst (λ (ts : List BrokerSession). AllByRecursion (SessionMatchesConnection config u.connections.connections) ts) (sym list)
      (subst (λ (xs : List HubConnection). AllByRecursion (SessionMatchesConnection config xs) t.sessions.list) (sym connections) kept.fitting);
  ascending = subst AreAscending (sym list) kept.ascending;
  below = subst (AreBelow next) (sym list) kept.below;
  next = kept.next;
  owned =
      subst (λ (rs : List Row). AllByRecursion (λ r. HasSession u.sessions.list r.0.0) rs) (sym rows)
      (subst (λ (ts : List BrokerSession). AllByRecursion (λ r. HasSession ts r.0.0) t.rows) (sym list) kept.owned);
  retained = subst (λ (ms : List Message). AllByRecursion (IsWithin config.limits.most) ms) (sym retained) kept.retained;
}

-- ---- sessions while other connections come and go

-- a session fits the connections as before if its client is connected as before
pub fitting_same : (config : HubConfig) (xs ys : List HubConnection) → ((key : ℕ) → up_on key ys ≡ up_on key xs) → ((key : ℕ) → stage_for key ys ≡ stage_for key xs) → (t : BrokerSession)
    → SessionMatchesConnection config xs t → SessionMatchesConnection config ys t
fitting_same config xs ys up stage t boxed = record {
  capacity = boxed.capacity;
  limit = boxed.limit;
  window = boxed.window;
  known = boxed.known;
  state = boxed.state ∙ ap (λ (o : Option Conn). cond (is_some o) Connected Disconnected) (sym (up t.key));
  clean = boxed.clean ∙ ap is_clean (sym (stage t.key));
  keep_alive = boxed.keep_alive ∙ ap keep_alive_on (sym (stage t.key));
  claims = boxed.claims;
  away = λ none. boxed.away (sym (up t.key) ∙ none);
}

pub all_fitting_same : (config : HubConfig) (xs ys : List HubConnection) → ((key : ℕ) → up_on key ys ≡ up_on key xs) → ((key : ℕ) → stage_for key ys ≡ stage_for key xs) → (ts : List BrokerSession)
    → AllByRecursion (SessionMatchesConnection config xs) ts → AllByRecursion (SessionMatchesConnection config ys) ts
all_fitting_same config xs ys up stage [] all = tt
all_fitting_same config xs ys up stage (t ∷ ts) all = (fitting_same config xs ys up stage t all.0, all_fitting_same config xs ys up stage ts all.1)

-- ---- a connection that is opened

module _ (x : HubConnection) (fresh : x.stage ≡ AwaitingConnect) (empty : x.waiting ≡ []) where
  not_for : (key : ℕ) → is_for key x.stage ≡ false
  not_for key = ap (is_for key) fresh

  pub up_opened : (key : ℕ) (xs : List HubConnection) → up_on key (xs ++ x ∷ []) ≡ up_on key xs
  up_opened key [] = ap (λ (b : Bool). cond b (Some x.conn) None) (not_for key)
  up_opened key (y ∷ ys) = ap (λ (o : Option Conn). cond (is_for key y.stage) (Some y.conn) o) (up_opened key ys)

  pub stage_opened : (key : ℕ) (xs : List HubConnection) → stage_for key (xs ++ x ∷ []) ≡ stage_for key xs
  stage_opened key [] = ap (λ (b : Bool). cond b x.stage (stage_for key [])) (not_for key)
  stage_opened key (y ∷ ys) = ap (λ (s : ConnectionState). cond (is_for key y.stage) y.stage s) (stage_opened key ys)

  known_opened : (k : Conn) (xs : List HubConnection) → knows k xs ≡ false → same_conn x.conn k ≡ false → knows k (xs ++ x ∷ []) ≡ false
  known_opened k [] none other = ap (λ (b : Bool). b || false) other
  known_opened k (y ∷ ys) none other =
      let p = or_parts (same_conn y.conn k) (knows k ys) none in
      ap₂ (λ (a b : Bool). a || b) p.0 (known_opened k ys p.1 other)

  pub apart_opened : (xs : List HubConnection) → knows x.conn xs ≡ false → AreApart xs → AreApart (xs ++ x ∷ [])
  apart_opened [] none apart = (refl, λ key e. refl, tt)
  apart_opened (y ∷ ys) none apart =
      let p = or_parts (same_conn y.conn x.conn) (knows x.conn ys) none in
      (known_opened y.conn ys apart.0 (symm x.conn y.conn ∙ p.0), λ key e. up_opened key ys ∙ apart.1 key e, apart_opened ys p.1 apart.2)

  pub backed_opened : (most : ℕ) (ts : List BrokerSession) (xs : List HubConnection) → AllByRecursion (λ y. ConnectionHasSession most ts y.stage) xs
      → AllByRecursion (λ y. ConnectionHasSession most ts y.stage) (xs ++ x ∷ [])
  backed_opened most ts [] all = (subst (ConnectionHasSession most ts) (sym fresh) tt, tt)
  backed_opened most ts (y ∷ ys) all = (all.0, backed_opened most ts ys all.1)

  quiet_opened : (xs : List HubConnection) → AllByRecursion (λ y. IsQuiet y.stage y.waiting) xs → AllByRecursion (λ y. IsQuiet y.stage y.waiting) (xs ++ x ∷ [])
  quiet_opened [] all = (subst (λ (s : ConnectionState). IsQuiet s x.waiting) (sym fresh) empty, tt)
  quiet_opened (y ∷ ys) all = (all.0, quiet_opened ys all.1)

  pub kept_opened : (config : HubConfig) (next : ℕ) (t u : HubTables) → HubInvariant config next t → knows x.conn t.connections.connections ≡ false → u.rows ≡ t.rows
      → u.retained.messages ≡ t.retained.messages → u.sessions.list ≡ t.sessions.list → u.connections.connections ≡ t.connections.connections ++ x ∷ [] → u.connections.limits ≡ t.connections.limits
      → HubInvariant config next u
  kept_opened config next t u kept none rows retained list connections limits =
      let xs = t.connections.connections in
      let ts = t.sessions.list in
      let v : HubTables = record t { connections = record t.connections { connections = xs ++ x ∷ [] } } in
      let k : HubInvariant config next v = record {
        capacity = kept.capacity;
        window = kept.window;
        limits = kept.limits;
        apart = apart_opened xs none kept.apart;
        quiet = quiet_opened xs kept.quiet;
        backed = backed_opened config.limits.most ts xs kept.backed;
        fitting = all_fitting_same config xs (xs ++ x ∷ []) (λ key. up_opened key xs) (λ key. stage_opened key xs) ts kept.fitting;
        ascending = kept.ascending;
        below = kept.below;
        next = kept.next;
        owned = kept.owned;
        retained = kept.retained;
      } in
      kept_by config next v u k rows retained list connections limits

-- ---- connections that stay in their state

-- names and stages stay
module _ (g : HubConnection → HubConnection) (stages : (x : HubConnection) → (g x).stage ≡ x.stage) where
  pub stage_same : (key : ℕ) (xs : List HubConnection) → stage_for key (map g xs) ≡ stage_for key xs
  stage_same key [] = refl
  stage_same key (x ∷ xs) = λ i. cond (is_for key (stages x i)) (stages x i) (stage_same key xs i)

  pub backed_same : (most : ℕ) (ts : List BrokerSession) (xs : List HubConnection) → AllByRecursion (λ y. ConnectionHasSession most ts y.stage) xs → AllByRecursion (λ y. ConnectionHasSession most ts y.stage) (map g xs)
  backed_same most ts [] all = tt
  backed_same most ts (x ∷ xs) all = (subst (ConnectionHasSession most ts) (sym (stages x)) all.0, backed_same most ts xs all.1)

module _ (g : HubConnection → HubConnection) (names : (x : HubConnection) → (g x).conn ≡ x.conn) (stages : (x : HubConnection) → (g x).stage ≡ x.stage) where
  pub up_same : (key : ℕ) (xs : List HubConnection) → up_on key (map g xs) ≡ up_on key xs
  up_same key [] = refl
  up_same key (x ∷ xs) = λ i. cond (is_for key (stages x i)) (Some (names x i)) (up_same key xs i)

  pub known_same : (k : Conn) (xs : List HubConnection) → knows k (map g xs) ≡ knows k xs
  known_same k [] = refl
  known_same k (x ∷ xs) = λ i. same_conn (names x i) k || known_same k xs i

  pub apart_same : (xs : List HubConnection) → AreApart xs → AreApart (map g xs)
  apart_same [] apart = tt
  apart_same (x ∷ xs) apart = (
    known_same (g x).conn xs ∙ ap (λ (n : Conn). knows n xs) (names x) ∙ apart.0,
    λ key e. up_same key xs ∙ apart.1 key (ap (is_for key) (sym (stages x)) ∙ e),
    apart_same xs apart.2,
  )
