-- Changes of connections that leave their sessions as they are.
use Rattle.std.proofs.Common.{◌≡◌, ◌||◌, ℕ, Bool, true, false, cond, List, [], ◌∷◌, map, Option, Some, refl, sym, ap, ◌∙◌}
use Rattle.std.specs.List.{AllByRecursion}
use Rattle.std.specs.Option.{is_some}
use Rattle.mq_end.specs.declared.state.State.TheVariants.{Disconnected, Connected}
use Rattle.mq_route.specs.declared.config.HubConfig.{HubConfig}
use Rattle.mq_route.specs.declared.conn.Conn.{Conn}
use Rattle.mq_route.specs.declared.connection_state.ConnectionState.{ConnectionState}
use Rattle.mq_route.specs.declared.connection_state.ConnectionState.TheVariants.{AwaitingConnect, ConnectedAs, Closed}
use Rattle.mq_route.specs.Arrives.{touched}
use Rattle.mq_route.specs.Hub.{HubConnection, changed, held_on, is_clean, is_for, is_connection, knows, up_on, stage_for, keep_alive_on}
use Rattle.mq_route.specs.Routed.{same_conn}
use Rattle.mq_tables.specs.declared.sessions.session.BrokerSession.{BrokerSession}
use Rattle.mq_tables.specs.Connections.{touched_at, holds}
use Rattle.mq_tables.specs.Tables.{HubTables}
use Rattle.mq_tables.specs.Sessions.{sessions_of}
use Rattle.mq_hub.specs.Inside.Invariant.{AreApart, HubInvariant, ConnectionHasSession, IsQuiet, SessionMatchesConnection}
use Rattle.mq_hub.specs.Inside.View.{all_seen, hub_of, seen, waiting_by}
use Rattle.mq_hub.proofs.InvariantChanges.{kept_by}

-- a change that keeps a connection's name and the client it is connected for, its terms and its
-- pending output
pub record StaysFor (f : HubConnection → HubConnection) : Type 0 where
  pub name : (x : HubConnection) → (f x).conn ≡ x.conn
  pub client : (key : ℕ) (x : HubConnection) → is_for key (f x).stage ≡ is_for key x.stage
  pub clean : (x : HubConnection) → is_clean (f x).stage ≡ is_clean x.stage
  pub keep_alive : (x : HubConnection) → keep_alive_on (f x).stage ≡ keep_alive_on x.stage
  pub backed : (most : ℕ) (ts : List BrokerSession) (x : HubConnection) → ConnectionHasSession most ts x.stage → ConnectionHasSession most ts (f x).stage
  pub quiet : (x : HubConnection) → IsQuiet x.stage x.waiting → IsQuiet (f x).stage (f x).waiting
  pub seen : (ts : List BrokerSession) (x : HubConnection) → seen ts (f x) ≡ f (seen ts x)

-- it may be made of one connection alone
pub stays_on : (k : Conn) (f : HubConnection → HubConnection) → StaysFor f → StaysFor (changed f k)
stays_on k f s = record {
  name = λ x. name x (is_connection k x);
  client = λ key x. client key x (is_connection k x);
  clean = λ x. clean x (is_connection k x);
  keep_alive = λ x. keep_alive x (is_connection k x);
  backed = λ most ts x. backed most ts x (is_connection k x);
  quiet = λ x. quiet x (is_connection k x);
  seen = λ ts x. see ts x (is_connection k x);
}
  where
    name : (x : HubConnection) (b : Bool) → (cond b (f x) x).conn ≡ x.conn
    name x true = s.name x
    name x false = refl

    client : (key : ℕ) (x : HubConnection) (b : Bool) → is_for key (cond b (f x) x).stage ≡ is_for key x.stage
    client key x true = s.client key x
    client key x false = refl

    clean : (x : HubConnection) (b : Bool) → is_clean (cond b (f x) x).stage ≡ is_clean x.stage
    clean x true = s.clean x
    clean x false = refl

    keep_alive : (x : HubConnection) (b : Bool) → keep_alive_on (cond b (f x) x).stage ≡ keep_alive_on x.stage
    keep_alive x true = s.keep_alive x
    keep_alive x false = refl

    backed : (most : ℕ) (ts : List BrokerSession) (x : HubConnection) (b : Bool) → ConnectionHasSession most ts x.stage → ConnectionHasSession most ts (cond b (f x) x).stage
    backed most ts x true = s.backed most ts x
    backed most ts x false = λ h. h

    quiet : (x : HubConnection) (b : Bool) → IsQuiet x.stage x.waiting → IsQuiet (cond b (f x) x).stage (cond b (f x) x).waiting
    quiet x true = s.quiet x
    quiet x false = λ h. h

    see : (ts : List BrokerSession) (x : HubConnection) (b : Bool) → seen ts (cond b (f x) x) ≡ cond b (f (seen ts x)) (seen ts x)
    see ts x true = s.seen ts x
    see ts x false = refl

module _ (g : HubConnection → HubConnection) (s : StaysFor g) where
  up_alike : (key : ℕ) (xs : List HubConnection) → up_on key (map g xs) ≡ up_on key xs
  up_alike key [] = refl
  up_alike key (x ∷ xs) = λ i. cond (s.client key x i) (Some (s.name x i)) (up_alike key xs i)

  -- a property that each state keeps is kept by the state of a client's connection
  stage_alike : {X : Type 0} (p : ConnectionState → X) → ((x : HubConnection) → p (g x).stage ≡ p x.stage) → (key : ℕ) (xs : List HubConnection) → p (stage_for key (map g xs)) ≡ p (stage_for key xs)
  stage_alike p same key [] = refl
  stage_alike p same key (x ∷ xs) =
      ap (λ (b : Bool). p (cond b (g x).stage (stage_for key (map g xs)))) (s.client key x)
      ∙ go (is_for key x.stage) (stage_alike p same key xs)
    where
      go : (b : Bool) → p (stage_for key (map g xs)) ≡ p (stage_for key xs) → p (cond b (g x).stage (stage_for key (map g xs))) ≡ p (cond b x.stage (stage_for key xs))
      go true rest = same x
      go false rest = rest

  known_alike : (k : Conn) (xs : List HubConnection) → knows k (map g xs) ≡ knows k xs
  known_alike k [] = refl
  known_alike k (x ∷ xs) = λ i. same_conn (s.name x i) k || known_alike k xs i

  apart_alike : (xs : List HubConnection) → AreApart xs → AreApart (map g xs)
  apart_alike [] apart = tt
  apart_alike (x ∷ xs) apart = (
    known_alike (g x).conn xs ∙ ap (λ (n : Conn). knows n xs) (s.name x) ∙ apart.0,
    λ key e. up_alike key xs ∙ apart.1 key (sym (s.client key x) ∙ e),
    apart_alike xs apart.2,
  )

  backed_alike : (most : ℕ) (ts : List BrokerSession) (xs : List HubConnection) → AllByRecursion (λ x. ConnectionHasSession most ts x.stage) xs
      → AllByRecursion (λ x. ConnectionHasSession most ts x.stage) (map g xs)
  backed_alike most ts [] all = tt
  backed_alike most ts (x ∷ xs) all = (s.backed most ts x all.0, backed_alike most ts xs all.1)

  quiet_alike : (xs : List HubConnection) → AllByRecursion (λ x. IsQuiet x.stage x.waiting) xs → AllByRecursion (λ x. IsQuiet x.stage x.waiting) (map g xs)
  quiet_alike [] all = tt
  quiet_alike (x ∷ xs) all = (s.quiet x all.0, quiet_alike xs all.1)

  fitting_alike : (config : HubConfig) (xs : List HubConnection) (t : BrokerSession) → SessionMatchesConnection config xs t → SessionMatchesConnection config (map g xs) t
  fitting_alike config xs t boxed = record {
    capacity = boxed.capacity;
    limit = boxed.limit;
    window = boxed.window;
    known = boxed.known;
    state = boxed.state ∙ ap (λ (o : Option Conn). cond (is_some o) Connected Disconnected) (sym (up_alike t.key xs));
    clean = boxed.clean ∙ sym (stage_alike is_clean s.clean t.key xs);
    keep_alive = boxed.keep_alive ∙ sym (stage_alike keep_alive_on s.keep_alive t.key xs);
    claims = boxed.claims;
    away = λ none. boxed.away (sym (up_alike t.key xs) ∙ none);
  }

  all_fitting_alike : (config : HubConfig) (xs : List HubConnection) (ts : List BrokerSession) → AllByRecursion (SessionMatchesConnection config xs) ts
      → AllByRecursion (SessionMatchesConnection config (map g xs)) ts
  all_fitting_alike config xs [] all = tt
  all_fitting_alike config xs (t ∷ ts) all = (fitting_alike config xs t all.0, all_fitting_alike config xs ts all.1)

  all_seen_alike : (ts : List BrokerSession) (xs : List HubConnection) → all_seen ts (map g xs) ≡ map g (all_seen ts xs)
  all_seen_alike ts [] = refl
  all_seen_alike ts (x ∷ xs) = λ i. s.seen ts x i ∷ all_seen_alike ts xs i

  module _ (config : HubConfig) (next : ℕ) (t u : HubTables) (rows : u.rows ≡ t.rows) (retained : u.retained.messages ≡ t.retained.messages)
      (list : u.sessions.list ≡ t.sessions.list) (connections : u.connections.connections ≡ map g t.connections.connections) where
    pub kept_alike : HubInvariant config next t → u.connections.limits ≡ t.connections.limits → HubInvariant config next u
    kept_alike kept limits =
        let ts = t.sessions.list in
        let xs = t.connections.connections in
        let v : HubTables = record t { connections = record t.connections { connections = map g xs } } in
        let k : HubInvariant config next v = record {
          capacity = kept.capacity;
          window = kept.window;
          limits = kept.limits;
          apart = apart_alike xs kept.apart;
          quiet = quiet_alike xs kept.quiet;
          backed = backed_alike config.limits.most ts xs kept.backed;
          fitting = all_fitting_alike config xs ts kept.fitting;
          ascending = kept.ascending;
          below = kept.below;
          next = kept.next;
          owned = kept.owned;
          retained = kept.retained;
        } in
        kept_by config next v u k rows retained list connections limits

    pub hub_alike : (clock : ℕ) → hub_of config clock next u ≡ record (hub_of config clock next t) { connections = map g (all_seen t.sessions.list t.connections.connections) }
    hub_alike clock =
        let waits : all_seen u.sessions.list u.connections.connections ≡ map g (all_seen t.sessions.list t.connections.connections) =
        (λ i. all_seen (list i) (connections i)) ∙ all_seen_alike t.sessions.list t.connections.connections in
        λ i. record {
          config = config;
          clock = clock;
          next_key = next;
          rows = rows i;
          retained = retained i;
          sessions = sessions_of (list i);
          connections = waits i;
        }

-- ---- the two changes

pub holds_stays : (b : List ℕ) → StaysFor (holds b)
holds_stays b = record {
  name = λ x. refl;
  client = λ key x. refl;
  clean = λ x. refl;
  keep_alive = λ x. refl;
  backed = λ most ts x h. h;
  quiet = λ x h. h;
  seen = λ ts x. refl;
}

pub hears_stays : (now : ℕ) → StaysFor (touched_at now)
hears_stays now = record {
  name = λ x. refl;
  client = λ key x. client key x.stage;
  clean = λ x. clean x.stage;
  keep_alive = λ x. keep_alive x.stage;
  backed = λ most ts x. backed most ts x.stage;
  quiet = λ x. quiet x.waiting x.stage;
  seen = λ ts x. ap (λ (b : List ℕ). record (touched_at now x) { waiting = b }) (waits ts x.waiting x.stage);
}
  where
    client : (key : ℕ) (s : ConnectionState) → is_for key (touched now s) ≡ is_for key s
    client key AwaitingConnect = refl
    client key (ConnectedAs other terms last_activity) = refl
    client key Closed = refl

    clean : (s : ConnectionState) → is_clean (touched now s) ≡ is_clean s
    clean AwaitingConnect = refl
    clean (ConnectedAs other terms last_activity) = refl
    clean Closed = refl

    keep_alive : (s : ConnectionState) → keep_alive_on (touched now s) ≡ keep_alive_on s
    keep_alive AwaitingConnect = refl
    keep_alive (ConnectedAs other terms last_activity) = refl
    keep_alive Closed = refl

    backed : (most : ℕ) (ts : List BrokerSession) (s : ConnectionState) → ConnectionHasSession most ts s → ConnectionHasSession most ts (touched now s)
    backed most ts AwaitingConnect h = h
    backed most ts (ConnectedAs other terms last_activity) h = h
    backed most ts Closed h = h

    quiet : (b : List ℕ) (s : ConnectionState) → IsQuiet s b → IsQuiet (touched now s) b
    quiet b AwaitingConnect h = h
    quiet b (ConnectedAs other terms last_activity) h = h
    quiet b Closed h = h

    waits : (ts : List BrokerSession) (own : List ℕ) (s : ConnectionState) → waiting_by (touched now s) ts own ≡ waiting_by s ts own
    waits ts own AwaitingConnect = refl
    waits ts own (ConnectedAs other terms last_activity) = refl
    waits ts own Closed = refl

-- ---- held bytes

pub held_seen : (k : Conn) (ts : List BrokerSession) (xs : List HubConnection) → held_on k (all_seen ts xs) ≡ held_on k xs
held_seen k ts [] = refl
held_seen k ts (x ∷ xs) = ap (λ (b : List ℕ). cond (is_connection k x) x.held b) (held_seen k ts xs)
