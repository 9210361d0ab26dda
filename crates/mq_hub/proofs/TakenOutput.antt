-- The pending output of a connection is taken.
use Rattle.std.proofs.Common.{◌≡◌, ℕ, Bool, true, false, List, [], ◌∷◌, Some, None, refl, sym, ap, subst, ◌∙◌}
use Rattle.std.proofs.lemmas.Bool.{cond_both, cond-true, cond-false}
use Rattle.std.specs.List.{AllByRecursion}
use Rattle.std.specs.Option.{is_some}
use Rattle.mq_end.specs.State.{EndState, Room}
use Rattle.mq_route.specs.declared.config.HubConfig.{HubConfig}
use Rattle.mq_route.specs.declared.conn.Conn.{Conn}
use Rattle.mq_route.specs.declared.connection_state.ConnectionState.{ConnectionState}
use Rattle.mq_route.specs.declared.connection_state.ConnectionState.TheVariants.{AwaitingConnect, ConnectedAs, Closed}
use Rattle.mq_route.specs.declared.connection_state.ConnectionTerms.{ConnectionTerms}
use Rattle.mq_route.specs.Hub.{HubConnection, changed, is_connection, key_on, stage_of, waiting_on, with_connection}
use Rattle.mq_route.specs.Step.{on_collect}
use Rattle.mq_tables.specs.declared.sessions.session.BrokerSession.{BrokerSession}
use Rattle.mq_tables.specs.Output.{drained}
use Rattle.mq_tables.specs.Tables.{HubTables}
use Rattle.mq_tables.specs.Sessions.{sessions_of, session_at, with_server}
use Rattle.mq_tables.proofs.OtherEnd.{below_as, holds_at}
use Rattle.mq_tables.proofs.SessionLemmas.{ascending_with}
use Rattle.mq_tables.proofs.TakenOutput.{emptied, output_found, still_lines}
use Rattle.mq_hub.specs.Inside.Invariant.{HubInvariant, ConnectionHasSession, IsQuiet, SessionMatchesConnection, HasSession}
use Rattle.mq_hub.specs.Inside.View.{all_seen, hub_of, seen, waiting_by}
use Rattle.mq_hub.proofs.ConnectionChange.{output_here, own_bytes, seen_changed, seen_served, seen_still, waiting_up}
use Rattle.mq_hub.proofs.InvariantChanges.{all_fitting_same, apart_same, backed_same, kept_by, stage_same, up_same}
use Rattle.mq_hub.proofs.OtherEnd.{all_backed_as, all_owned_as, all_fitting_with, sessions_as}

-- a connection that is connected for a key
pub record IsUpFor (key : ℕ) (s : ConnectionState) : Type 0 where
  pub terms : ConnectionTerms
  pub last_activity : ℕ
  pub is : s ≡ ConnectedAs key terms last_activity

pub is_up_for : (key : ℕ) (s : ConnectionState) → key_on s ≡ Some key → IsUpFor key s
is_up_for key AwaitingConnect e = absurd cc
is_up_for key (ConnectedAs other terms last_activity) e = let same : other ≡ key = cc in record { terms = terms; last_activity = last_activity; is = ap (λ (c : ℕ). ConnectedAs c terms last_activity) same }
is_up_for key Closed e = absurd cc

emptied_name : (k : Conn) (x : HubConnection) → (changed emptied k x).conn ≡ x.conn
emptied_name k x = cond_both (is_connection k x) (emptied x) x (λ (y : HubConnection). y.conn ≡ x.conn) (λ e. refl) (λ e. refl)

emptied_stage : (k : Conn) (x : HubConnection) → (changed emptied k x).stage ≡ x.stage
emptied_stage k x = cond_both (is_connection k x) (emptied x) x (λ (y : HubConnection). y.stage ≡ x.stage) (λ e. refl) (λ e. refl)

quiet_emptied : (k : Conn) (xs : List HubConnection) → AllByRecursion (λ y. IsQuiet y.stage y.waiting) xs → AllByRecursion (λ y. IsQuiet y.stage y.waiting) (with_connection emptied k xs)
quiet_emptied k [] all = tt
quiet_emptied k (x ∷ xs) all =
    (cond_both (is_connection k x) (emptied x) x (λ (y : HubConnection). IsQuiet y.stage y.waiting) (λ e. none x.stage) (λ e. all.0), quiet_emptied k xs all.1)
  where
    none : (s : ConnectionState) → IsQuiet s []
    none AwaitingConnect = refl
    none (ConnectedAs key terms last_activity) = tt
    none Closed = tt

pub waits_up : (k : Conn) (key : ℕ) (t : BrokerSession) (ts : List BrokerSession) (xs : List HubConnection) → key_on (stage_of k xs) ≡ Some key → session_at key ts ≡ Some t
    → waiting_on k (all_seen ts xs) ≡ t.end.output
waits_up k key t ts xs up there = let at = is_up_for key (stage_of k xs) up in waiting_up k key at.terms at.last_activity ts xs at.is ∙ output_found key t ts there

-- ---- the session of a connected one

pub backed_at : (most : ℕ) (k : Conn) (key : ℕ) (ts : List BrokerSession) (xs : List HubConnection) → AllByRecursion (λ x. ConnectionHasSession most ts x.stage) xs → key_on (stage_of k xs) ≡ Some key → HasSession ts key
backed_at most k key ts [] all up = absurd cc
backed_at most k key ts (x ∷ xs) all up = go (is_connection k x) refl (backed_at most k key ts xs all.1)
  where
    of : (s : ConnectionState) → ConnectionHasSession most ts s → key_on s ≡ Some key → HasSession ts key
    of AwaitingConnect backed e = absurd cc
    of (ConnectedAs other terms last_activity) backed e = let same : other ≡ key = cc in subst (HasSession ts) same backed.0
    of Closed backed e = absurd cc

    go : (b : Bool) → is_connection k x ≡ b → (key_on (stage_of k xs) ≡ Some key → HasSession ts key) → HasSession ts key
    go true same rest = of x.stage all.0 (ap key_on (sym (cond-true (is_connection k x) x.stage (stage_of k xs) same)) ∙ up)
    go false differ rest = rest (ap key_on (sym (cond-false (is_connection k x) x.stage (stage_of k xs) differ)) ∙ up)

-- ---- of a connected one

module _ (config : HubConfig) (next key : ℕ) (room : Room) (s : BrokerSession) (t u : HubTables) (there : session_at key t.sessions.list ≡ Some s) (kept : HubInvariant config next t)
    (rows : u.rows ≡ t.rows) (retained : u.retained.messages ≡ t.retained.messages) (list : u.sessions.list ≡ with_server key (drained room s.end) t.sessions.list)
    (connections : u.connections.connections ≡ t.connections.connections) where
  pub kept_drained : u.connections.limits ≡ t.connections.limits → HubInvariant config next u
  kept_drained limits =
      let ts = t.sessions.list in
      let xs = t.connections.connections in
      let e : EndState = drained room s.end in
      let boxed = holds_at (SessionMatchesConnection config xs) key s ts there kept.fitting in
      let here : SessionMatchesConnection config xs (record s { end = e }) = record {
        capacity = boxed.capacity;
        limit = boxed.limit;
        window = boxed.window;
        known = boxed.known;
        state = boxed.state;
        clean = boxed.clean;
        keep_alive = boxed.keep_alive;
        claims = boxed.claims;
        away = λ none. refl;
      } in
      let v : HubTables = record t { sessions = record t.sessions { list = with_server key e ts } } in
      let k : HubInvariant config next v = record {
        capacity = kept.capacity;
        window = kept.window;
        limits = kept.limits;
        apart = kept.apart;
        quiet = kept.quiet;
        backed = all_backed_as key e config.limits.most ts xs kept.backed;
        fitting = all_fitting_with key e s config xs xs (λ r far h. h) ts kept.ascending there here kept.fitting;
        ascending = ascending_with key e ts kept.ascending;
        below = below_as key e next ts kept.below;
        next = kept.next;
        owned = all_owned_as key e ts t.rows kept.owned;
        retained = kept.retained;
      } in
      kept_by config next v u k rows retained list connections limits

  pub hub_drained : (clock : ℕ) (k : Conn) → key_on (stage_of k t.connections.connections) ≡ Some key → hub_of config clock next u ≡ on_collect k (hub_of config clock next t)
  hub_drained clock k up =
      let ts = t.sessions.list in
      let xs = t.connections.connections in
      let e : EndState = drained room s.end in
      let at = is_up_for key (stage_of k xs) up in
      let stands : HasSession ts key = ap is_some there in
      let here : (x : HubConnection) → x.stage ≡ ConnectedAs key at.terms at.last_activity → seen (with_server key e ts) x ≡ emptied (seen ts x) =
      λ x stage. ap (λ (b : List ℕ). record x { waiting = b }) (ap (λ (c : ConnectionState). waiting_by c (with_server key e ts) x.waiting) stage ∙ output_here key e ts stands) in
      let waits : all_seen u.sessions.list u.connections.connections ≡ with_connection emptied k (all_seen ts xs) =
      (λ i. all_seen (list i) (connections i))
      ∙ ap (all_seen (with_server key e ts)) (sym (still_lines k xs))
      ∙ seen_changed key ts (with_server key e ts) (seen_served key e ts) k at.terms at.last_activity (λ x. x) emptied here xs kept.apart at.is in
      let sessions : sessions_of u.sessions.list ≡ sessions_of ts = ap sessions_of list ∙ sessions_as key e s ts kept.ascending there refl in
      λ i. record {
        config = config;
        clock = clock;
        next_key = next;
        rows = rows i;
        retained = retained i;
        sessions = sessions i;
        connections = waits i;
      }

-- ---- of one without client

-- the pending output of a connection without client is taken, and no session changes
pub kept_emptied : (config : HubConfig) (next : ℕ) (k : Conn) (t u : HubTables) → HubInvariant config next t → u.rows ≡ t.rows → u.retained.messages ≡ t.retained.messages
    → u.sessions.list ≡ t.sessions.list → u.connections.connections ≡ with_connection emptied k t.connections.connections → u.connections.limits ≡ t.connections.limits → HubInvariant config next u
kept_emptied config next k t u kept rows retained list connections limits =
    let ts = t.sessions.list in
    let xs = t.connections.connections in
    let ys = with_connection emptied k xs in
    let v : HubTables = record t { connections = record t.connections { connections = ys } } in
    let kv : HubInvariant config next v = record {
      capacity = kept.capacity;
      window = kept.window;
      limits = kept.limits;
      apart = apart_same (changed emptied k) (emptied_name k) (emptied_stage k) xs kept.apart;
      quiet = quiet_emptied k xs kept.quiet;
      backed = backed_same (changed emptied k) (emptied_stage k) config.limits.most ts xs kept.backed;
      fitting = all_fitting_same config xs ys (λ key. up_same (changed emptied k) (emptied_name k) (emptied_stage k) key xs) (λ key. stage_same (changed emptied k) (emptied_stage k) key xs) ts kept.fitting;
      ascending = kept.ascending;
      below = kept.below;
      next = kept.next;
      owned = kept.owned;
      retained = kept.retained;
    } in
    kept_by config next v u kv rows retained list connections limits

pub hub_emptied : (config : HubConfig) (clock next : ℕ) (k : Conn) (t u : HubTables) → HubInvariant config next t → key_on (stage_of k t.connections.connections) ≡ None → u.rows ≡ t.rows
    → u.retained.messages ≡ t.retained.messages → u.sessions.list ≡ t.sessions.list → u.connections.connections ≡ with_connection emptied k t.connections.connections
    → hub_of config clock next u ≡ on_collect k (hub_of config clock next t)
hub_emptied config clock next k t u kept down rows retained list connections =
    let ts = t.sessions.list in
    let xs = t.connections.connections in
    let here : (x : HubConnection) → x.stage ≡ stage_of k xs → seen ts (emptied x) ≡ emptied (seen ts x) =
    λ x stage. ap (λ (b : List ℕ). record x { waiting = b }) (own_bytes x.stage ts [] (ap key_on stage ∙ down)) in
    let waits : all_seen u.sessions.list u.connections.connections ≡ with_connection emptied k (all_seen ts xs) =
    (λ i. all_seen (list i) (connections i)) ∙ seen_still k ts (stage_of k xs) emptied emptied here xs kept.apart refl in
    λ i. record {
      config = config;
      clock = clock;
      next_key = next;
      rows = rows i;
      retained = retained i;
      sessions = sessions_of (list i);
      connections = waits i;
    }
