-- A broker that is made from a snapshot: its connections.
use Rattle.std.proofs.Common.{◌≡◌, ◌||◌, ℕ, Bool, true, false, cond, List, [], ◌∷◌, ◌++◌, map, Option, Some, None, refl, sym, ap, ap₂, ◌∙◌, eqb, eq-eqb}
use Rattle.std.proofs.lemmas.Bool.{cond-true, cond-false, cond_both, or_parts}
use Rattle.std.specs.Option.{is_some, IfSome}
use Rattle.mq_end.specs.declared.state.State.TheVariants.{Disconnected, Connected}
use Rattle.mq_end.specs.End.{is_live}
use Rattle.mq_end.specs.State.{EndState}
use Rattle.mq_route.specs.declared.config.HubConfig.{HubConfig}
use Rattle.mq_route.specs.declared.conn.Conn.{Conn}
use Rattle.mq_route.specs.declared.connection_state.ConnectionState.{ConnectionState}
use Rattle.mq_route.specs.declared.connection_state.ConnectionState.TheVariants.{AwaitingConnect, ConnectedAs, Closed}
use Rattle.mq_route.specs.declared.connection_state.ConnectionTerms.{ConnectionTerms}
use Rattle.mq_route.specs.Hub.{HubConnection, HubState, changed, is_clean, is_connection, is_for, knows, stage_for, stage_of, up_on, with_connection, keep_alive_on}
use Rattle.mq_route.specs.Routed.{same_conn}
use Rattle.mq_route.specs.Snapshot.{quiet, quieted}
use Rattle.mq_tables.specs.declared.sessions.session.BrokerSession.{BrokerSession}
use Rattle.mq_tables.specs.Connections.{connected_for}
use Rattle.mq_tables.specs.Connecting.{continued, HasContinued}
use Rattle.mq_tables.specs.Sessions.{session_at, sessions_of, with_server}
use Rattle.mq_tables.specs.Tables.{HubTables}
use Rattle.mq_tables.proofs.OtherEnd.{below_as, holds_at, key_is}
use Rattle.mq_tables.proofs.SessionLemmas.{ascending_with}
use Rattle.mq_tables.proofs.LoadedConnections.{down}
use Rattle.mq_hub.specs.Inside.Invariant.{AreApart, HubInvariant, IsWillWithin, SessionMatchesConnection}
use Rattle.mq_hub.specs.Inside.Loading.{with_opened, HaveNoOutput}
use Rattle.mq_hub.specs.Inside.View.{all_seen, hub_of, seen, waiting_by}
use Rattle.mq_hub.proofs.ConnectedSession.{apart_risen, backed_risen, fitting_other, none_for, own_up, quiet_risen, some_none, stage_risen, up_risen}
use Rattle.mq_hub.proofs.ConnectionChange.{output_here, seen_served}
use Rattle.mq_hub.proofs.InvariantChanges.{kept_by}
use Rattle.mq_hub.proofs.OtherEnd.{all_backed_as, all_fitting_with, all_owned_as}
use Rattle.mq_hub.proofs.RefusedConnect.{seen_fresh}
use Rattle.mq_hub.proofs.TableView.{seen_append}

-- ---- the end of a session continues a connection

module _ (k : Conn) (key : ℕ) (terms : ConnectionTerms) (now : ℕ) where
  abbrev stage : ConnectionState
  stage = ConnectedAs key terms now

  for : (n : ℕ) → is_for n stage ≡ eqb key n
  for n = refl

  fitting_continued : (config : HubConfig) (xs : List HubConnection) → AreApart xs → up_on key xs ≡ None → stage_of k xs ≡ AwaitingConnect → (t : BrokerSession) → t.key ≡ key
      → SessionMatchesConnection config xs t → SessionMatchesConnection config (with_connection (connected_for key terms now) k xs) (record t { end = continued terms now t.end })
  fitting_continued config xs apart none at t own boxed =
      let ys = with_connection (connected_for key terms now) k xs in
      let there : up_on t.key ys ≡ Some k = up_risen k key stage for t.key xs apart none at ∙ own_up key t.key k (up_on t.key xs) own in
      let stage_is : stage_for t.key ys ≡ stage = stage_risen k key stage for t.key xs apart none at ∙ cond-true (eqb key t.key) stage (stage_for t.key xs) (eq-eqb key t.key (sym own)) in
      record {
        capacity = boxed.capacity;
        limit = boxed.limit;
        window = boxed.window;
        known = boxed.known;
        state = ap (λ (o : Option Conn). cond (is_some o) Connected Disconnected) (sym there);
        clean = ap is_clean (sym stage_is);
        keep_alive = ap keep_alive_on (sym stage_is);
        claims = boxed.claims;
        away = λ no. absurd (some_none (sym there ∙ no));
      }

  module _ (config : HubConfig) (next : ℕ) (t u : HubTables) (kept : HubInvariant config next t) (none : up_on key t.connections.connections ≡ None) (at : stage_of k t.connections.connections ≡ AwaitingConnect)
      (is : HasContinued terms now key t.sessions.list u.sessions.list) (rows : u.rows ≡ t.rows) (retained : u.retained.messages ≡ t.retained.messages)
      (connections : u.connections.connections ≡ with_connection (connected_for key terms now) k t.connections.connections) where
    pub kept_continued : IsWillWithin config.limits.most terms.will → u.connections.limits ≡ t.connections.limits → HubInvariant config next u
    kept_continued will limits =
        let ts = t.sessions.list in
        let xs = t.connections.connections in
        let e : EndState = continued terms now is.session.end in
        let us = with_server key e ts in
        let ys = with_connection (connected_for key terms now) k xs in
        let boxed = holds_at (SessionMatchesConnection config xs) key is.session ts is.there kept.fitting in
        let own = key_is key is.session ts is.there in
        let v : HubTables = record t { sessions = record t.sessions { list = us }; connections = record t.connections { connections = ys } } in
        let kv : HubInvariant config next v = record {
          capacity = kept.capacity;
          window = kept.window;
          limits = kept.limits;
          apart = apart_risen k key stage for xs kept.apart none at;
          quiet = quiet_risen k key stage for (λ b. tt) xs kept.quiet;
          backed = all_backed_as key e config.limits.most ts ys (backed_risen k key stage for config.limits.most ts (ap is_some is.there, will) xs kept.backed);
          fitting =
              all_fitting_with key e is.session config xs ys (fitting_other k key stage for config xs kept.apart none at) ts kept.ascending is.there
              (fitting_continued config xs kept.apart none at is.session own boxed) kept.fitting;
          ascending = ascending_with key e ts kept.ascending;
          below = below_as key e next ts kept.below;
          next = kept.next;
          owned = all_owned_as key e ts t.rows kept.owned;
          retained = kept.retained;
        } in
        kept_by config next v u kv rows retained is.after connections limits

    pub hub_continued : (clock : ℕ) → hub_of config clock next u ≡ record (hub_of config clock next t) {
      sessions = sessions_of u.sessions.list;
      connections = with_connection (connected_for key terms now) k (all_seen t.sessions.list t.connections.connections);
    }
    hub_continued clock =
        let ts = t.sessions.list in
        let xs = t.connections.connections in
        let f = connected_for key terms now in
        let e : EndState = continued terms now is.session.end in
        let us = with_server key e ts in
        let boxed = holds_at (SessionMatchesConnection config xs) key is.session ts is.there kept.fitting in
        let own = key_is key is.session ts is.there in
        let empty_end : is.session.end.output ≡ [] = boxed.away (ap (λ (n : ℕ). up_on n xs) own ∙ none) in
        let here : (x : HubConnection) → x.stage ≡ AwaitingConnect → x.waiting ≡ [] → seen us (f x) ≡ f (seen ts x) =
        λ x fresh empty. ap (λ (w : List ℕ). record (f x) { waiting = w }) (output_here key e ts (ap is_some is.there) ∙ empty_end ∙ sym (λ i. waiting_by (fresh i) ts (empty i))) in
        let waits : all_seen u.sessions.list u.connections.connections ≡ with_connection f k (all_seen ts xs) =
        (λ i. all_seen (is.after i) (connections i))
        ∙ seen_fresh k ts us (λ x. is_for key x.stage ≡ false) (λ x far. seen_served key e ts x far) f f here xs kept.apart kept.quiet (none_for key xs none) at in
        λ i. record {
          config = config;
          clock = clock;
          next_key = next;
          rows = rows i;
          retained = retained i;
          sessions = sessions_of u.sessions.list;
          connections = waits i;
        }

pub is_down : (config : HubConfig) (next key : ℕ) (t : HubTables) → HubInvariant config next t → up_on key t.connections.connections ≡ None
    → IfSome (session_at key t.sessions.list) (λ s. is_live s.end.end.state ≡ false)
is_down config next key t kept none = go (session_at key t.sessions.list) refl
  where
    go : (o : Option BrokerSession) → session_at key t.sessions.list ≡ o → IfSome o (λ s. is_live s.end.end.state ≡ false)
    go None e = tt
    go (Some s) e =
        let boxed = holds_at (SessionMatchesConnection config t.connections.connections) key s t.sessions.list e kept.fitting in
        let own = key_is key s t.sessions.list e in
        down s.end.end.state (up_on s.key t.connections.connections) boxed.state (ap (λ (n : ℕ). up_on n t.connections.connections) own ∙ none)

-- ---- the connection that was opened last

pub hub_opened : (x : HubConnection) → x.stage ≡ AwaitingConnect → (config : HubConfig) (clock next : ℕ) (t u : HubTables) → u.rows ≡ t.rows → u.retained.messages ≡ t.retained.messages
    → u.sessions.list ≡ t.sessions.list → u.connections.connections ≡ t.connections.connections ++ x ∷ [] → hub_of config clock next u ≡ with_opened x (hub_of config clock next t)
hub_opened x fresh config clock next t u rows retained list connections =
    let ts = t.sessions.list in
    let xs = t.connections.connections in
    let one : seen ts x ≡ x = ap (λ (s : ConnectionState). record x { waiting = waiting_by s ts x.waiting }) fresh in
    let waits : all_seen u.sessions.list u.connections.connections ≡ all_seen ts xs ++ x ∷ [] =
    (λ i. all_seen (list i) (connections i)) ∙ seen_append ts xs (x ∷ []) ∙ ap (λ (y : HubConnection). all_seen ts xs ++ y ∷ []) one in
    λ i. record {
      config = config;
      clock = clock;
      next_key = next;
      rows = rows i;
      retained = retained i;
      sessions = sessions_of (list i);
      connections = waits i;
    }

pub opened_known : (k : Conn) (x : HubConnection) (xs : List HubConnection) → is_connection k x ≡ true → knows k (xs ++ x ∷ []) ≡ true
opened_known k x [] own = ap (λ (b : Bool). b || false) own
opened_known k x (y ∷ ys) own = ap (λ (b : Bool). is_connection k y || b) (opened_known k x ys own) ∙ any_true (is_connection k y)
  where
    any_true : (b : Bool) → b || true ≡ true
    any_true true = refl
    any_true false = refl

pub opened_stage : (k : Conn) (x : HubConnection) (xs : List HubConnection) → knows k xs ≡ false → is_connection k x ≡ true → stage_of k (xs ++ x ∷ []) ≡ x.stage
opened_stage k x [] none own = cond-true (is_connection k x) x.stage Closed own
opened_stage k x (y ∷ ys) none own =
    let p = or_parts (is_connection k y) (knows k ys) none in
    cond-false (is_connection k y) y.stage (stage_of k (ys ++ x ∷ [])) p.0 ∙ opened_stage k x ys p.1 own

pub known_changed : (f : HubConnection → HubConnection) (k : Conn) → ((x : HubConnection) → (f x).conn ≡ x.conn) → (xs : List HubConnection) → knows k (with_connection f k xs) ≡ knows k xs
known_changed f k names [] = refl
known_changed f k names (x ∷ xs) = λ i. same_conn (name i) k || known_changed f k names xs i
  where
    name : (changed f k x).conn ≡ x.conn
    name = cond_both (is_connection k x) (f x) x (λ (y : HubConnection). y.conn ≡ x.conn) (λ e. names x) (λ e. refl)

-- ---- no pending output

pub silent_opened : (x : HubConnection) (xs : List HubConnection) → x.waiting ≡ [] → HaveNoOutput xs → HaveNoOutput (xs ++ x ∷ [])
silent_opened x [] own all = (own, tt)
silent_opened x (y ∷ ys) own all = (all.0, silent_opened x ys own all.1)

pub silent_changed : (f : HubConnection → HubConnection) (k : Conn) → ((x : HubConnection) → (f x).waiting ≡ x.waiting) → (xs : List HubConnection) → HaveNoOutput xs → HaveNoOutput (with_connection f k xs)
silent_changed f k same [] all = tt
silent_changed f k same (x ∷ xs) all =
    (cond_both (is_connection k x) (f x) x (λ (y : HubConnection). y.waiting ≡ []) (λ e. same x ∙ all.0) (λ e. all.0), silent_changed f k same xs all.1)

silent_lines : (xs : List HubConnection) → HaveNoOutput xs → map quieted xs ≡ xs
silent_lines [] all = refl
silent_lines (x ∷ xs) all = ap₂ (λ (b : List ℕ) (ys : List HubConnection). record x { waiting = b } ∷ ys) (sym all.0) (silent_lines xs all.1)

pub silent_hub : (h : HubState) → HaveNoOutput h.connections → quiet h ≡ h
silent_hub h all = ap (λ (xs : List HubConnection). record h { connections = xs }) (silent_lines h.connections all)
