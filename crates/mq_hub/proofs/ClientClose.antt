-- A connection on which a client is connected is closed.
use Rattle.std.proofs.Common.{◌≡◌, ◌||◌, ℕ, ◌<◌, Bool, true, false, cond, List, [], ◌∷◌, ◌++◌, Option, Some, None, refl, sym, ap, ap₂, subst, ◌∙◌, eqb, eq-eqb, true≢false}
use Rattle.std.proofs.lemmas.Bool.{cond-true, cond-false, cond_both, ne_eqb}
use Rattle.std.specs.List.{AllByRecursion}
use Rattle.std.specs.Option.{is_some}
use Rattle.mq_topic.specs.Rows.{without_client}
use Rattle.mq_packet.specs.declared.connect.Will.{Will}
use Rattle.mq_flow.specs.Sender.{SenderBook, blank_book, no_claims}
use Rattle.mq_end.specs.declared.reason.CloseReason.TheVariants.{Left}
use Rattle.mq_end.specs.declared.state.State.TheVariants.{Disconnected, Connected}
use Rattle.mq_end.specs.End.{End, over}
use Rattle.mq_end.specs.State.{EndState}
use Rattle.mq_route.specs.declared.act.Act.{Act}
use Rattle.mq_route.specs.declared.act.Act.TheVariants as acts
use Rattle.mq_route.specs.declared.close.HubClose.{HubClose}
use Rattle.mq_route.specs.declared.close.HubClose.TheVariants.{Own}
use Rattle.mq_route.specs.declared.config.HubConfig.{HubConfig}
use Rattle.mq_route.specs.declared.conn.Conn.{Conn}
use Rattle.mq_route.specs.declared.connection_state.ConnectionState.{ConnectionState}
use Rattle.mq_route.specs.declared.connection_state.ConnectionState.TheVariants.{AwaitingConnect, ConnectedAs, Closed}
use Rattle.mq_route.specs.declared.connection_state.ConnectionTerms.{ConnectionTerms}
use Rattle.mq_route.specs.Hub.{HubState, HubSession, HubConnection, changed, end_of, is_clean, is_for, is_connection, key_on, knows, stage_of, up_on, with_end, with_connection, without_session, stage_for, keep_alive_on}
use Rattle.mq_route.specs.Routed.{same_conn}
use Rattle.mq_route.specs.Work.{Work, last_will, leaves_behind, remove, said, shut, shut_down, will_after}
use Rattle.mq_tables.specs.declared.sessions.session.BrokerSession.{BrokerSession}
use Rattle.mq_tables.specs.Connections.{left_with}
use Rattle.mq_tables.specs.Connecting.{parted}
use Rattle.mq_tables.specs.Tables.{HubTables}
use Rattle.mq_tables.specs.Sessions.{sessions_of, session_at, with_server, without_key}
use Rattle.mq_tables.proofs.TakenOutput.{output_found}
use Rattle.mq_tables.proofs.ConnectionTable.{unknown}
use Rattle.mq_tables.proofs.OtherEnd.{below_as, key_is, holds_at}
use Rattle.mq_tables.proofs.ClosedConnection.{closed}
use Rattle.mq_tables.proofs.SessionLemmas.{ascending_with, ascending_without}
use Rattle.mq_tables.proofs.ClientClose.{sessions_with, without_with}
use Rattle.mq_hub.specs.Inside.Refinement.{Refines}
use Rattle.mq_hub.specs.Inside.Invariant.{AreApart, HubInvariant, ConnectionHasSession, IsQuiet, SessionMatchesConnection, IsWillWithin}
use Rattle.mq_hub.specs.Inside.Close.{parts, will_left}
use Rattle.mq_hub.specs.Inside.View.{all_seen, hub_of, seen, waiting_by}
use Rattle.mq_hub.proofs.ConnectionChange.{rest_unknown, seen_changed, seen_served, up_there}
use Rattle.mq_hub.proofs.InvariantChanges.{kept_by}
use Rattle.mq_hub.proofs.RemovedSession.{all_without, backed_without, owned_without, seen_without, sessions_without}
use Rattle.mq_hub.proofs.OtherEnd.{all_backed_as, all_owned_as, all_fitting_with}
use Rattle.mq_hub.proofs.PlacedCopies.{end_there}

-- a client that is not connected has the state `Closed`
away_shut : (key : ℕ) (xs : List HubConnection) → up_on key xs ≡ None → stage_for key xs ≡ Closed
away_shut key [] none = refl
away_shut key (x ∷ xs) none = go (is_for key x.stage) refl (away_shut key xs)
  where
    go : (b : Bool) → is_for key x.stage ≡ b → (up_on key xs ≡ None → stage_for key xs ≡ Closed) → stage_for key (x ∷ xs) ≡ Closed
    go true up rest = let w : Some x.conn ≡ None = sym (cond-true (is_for key x.stage) (Some x.conn) (up_on key xs) up) ∙ none in absurd cc
    go false down rest =
        cond-false (is_for key x.stage) x.stage (stage_for key xs) down ∙ rest (sym (cond-false (is_for key x.stage) (Some x.conn) (up_on key xs) down) ∙ none)

module _ (k : Conn) (key : ℕ) (terms : ConnectionTerms) (last_activity : ℕ) where
  -- another connection in front is not connected for this client
  other_down : (x : HubConnection) (xs : List HubConnection) → AreApart (x ∷ xs) → stage_of k xs ≡ ConnectedAs key terms last_activity → is_for key x.stage ≡ false
  other_down x xs apart at = go (is_for key x.stage) refl
    where
      go : (b : Bool) → is_for key x.stage ≡ b → is_for key x.stage ≡ false
      go false e = e
      go true e = absurd (true≢false (sym (up_there k key terms last_activity xs at) ∙ ap is_some (apart.1 key e)))

  -- that connection is the one on which the client is connected
  stage_there : (xs : List HubConnection) → AreApart xs → stage_of k xs ≡ ConnectedAs key terms last_activity → stage_for key xs ≡ ConnectedAs key terms last_activity
  stage_there [] apart at = absurd cc
  stage_there (x ∷ xs) apart at = go (is_connection k x) refl (stage_there xs apart.2)
    where
      go : (b : Bool) → is_connection k x ≡ b → (stage_of k xs ≡ ConnectedAs key terms last_activity → stage_for key xs ≡ ConnectedAs key terms last_activity)
          → stage_for key (x ∷ xs) ≡ ConnectedAs key terms last_activity
      go true same rest =
          let here : x.stage ≡ ConnectedAs key terms last_activity = sym (cond-true (is_connection k x) x.stage (stage_of k xs) same) ∙ at in
          cond-true (is_for key x.stage) x.stage (stage_for key xs) (ap (is_for key) here ∙ eq-eqb key key refl) ∙ here
      go false differ rest =
          let later : stage_of k xs ≡ ConnectedAs key terms last_activity = sym (cond-false (is_connection k x) x.stage (stage_of k xs) differ) ∙ at in
          cond-false (is_for key x.stage) x.stage (stage_for key xs) (other_down x xs apart later) ∙ rest later

  module _ (b : List ℕ) where
    abbrev gone : HubConnection → HubConnection
    gone = left_with b

    gone_name : (x : HubConnection) → (changed gone k x).conn ≡ x.conn
    gone_name x = cond_both (is_connection k x) (gone x) x (λ (y : HubConnection). y.conn ≡ x.conn) (λ e. refl) (λ e. refl)

    known_gone : (n : Conn) (xs : List HubConnection) → knows n (with_connection gone k xs) ≡ knows n xs
    known_gone n [] = refl
    known_gone n (x ∷ xs) = λ i. same_conn (gone_name x i) n || known_gone n xs i

    -- a client that is not connected is not connected afterwards
    still_none : (c : ℕ) (xs : List HubConnection) → up_on c xs ≡ None → up_on c (with_connection gone k xs) ≡ None
    still_none c [] none = refl
    still_none c (x ∷ xs) none = go (is_for c x.stage) refl (still_none c xs)
      where
        go : (d : Bool) → is_for c x.stage ≡ d → (up_on c xs ≡ None → up_on c (with_connection gone k xs) ≡ None) → up_on c (with_connection gone k (x ∷ xs)) ≡ None
        go true up rest = let w : Some x.conn ≡ None = sym (cond-true (is_for c x.stage) (Some x.conn) (up_on c xs) up) ∙ none in absurd cc
        go false down rest =
            let low : is_for c (changed gone k x).stage ≡ false =
            cond_both (is_connection k x) (gone x) x (λ (y : HubConnection). is_for c y.stage ≡ false) (λ e. refl) (λ e. down) in
            cond-false (is_for c (changed gone k x).stage) (Some (changed gone k x).conn) (up_on c (with_connection gone k xs)) low
            ∙ rest (sym (cond-false (is_for c x.stage) (Some x.conn) (up_on c xs) down) ∙ none)

    -- the client is not connected any more
    up_gone : (xs : List HubConnection) → AreApart xs → stage_of k xs ≡ ConnectedAs key terms last_activity → up_on key (with_connection gone k xs) ≡ None
    up_gone [] apart at = refl
    up_gone (x ∷ xs) apart at = go (is_connection k x) refl (up_gone xs apart.2)
      where
        go : (d : Bool) → is_connection k x ≡ d → (stage_of k xs ≡ ConnectedAs key terms last_activity → up_on key (with_connection gone k xs) ≡ None)
            → up_on key (with_connection gone k (x ∷ xs)) ≡ None
        go true same rest =
            let here : x.stage ≡ ConnectedAs key terms last_activity = sym (cond-true (is_connection k x) x.stage (stage_of k xs) same) ∙ at in
            ap (λ (y : HubConnection). up_on key (y ∷ with_connection gone k xs)) (cond-true (is_connection k x) (gone x) x same)
            ∙ still_none key xs (apart.1 key (ap (is_for key) here ∙ eq-eqb key key refl))
        go false differ rest =
            let later : stage_of k xs ≡ ConnectedAs key terms last_activity = sym (cond-false (is_connection k x) x.stage (stage_of k xs) differ) ∙ at in
            ap (λ (y : HubConnection). up_on key (y ∷ with_connection gone k xs)) (cond-false (is_connection k x) (gone x) x differ)
            ∙ cond-false (is_for key x.stage) (Some x.conn) (up_on key (with_connection gone k xs)) (other_down x xs apart later) ∙ rest later

    -- look-ups by another client are unchanged
    module _ {X : Type 0} (c : ℕ) (far : eqb key c ≡ false) (p : HubConnection → X) (g : List HubConnection → X)
        (step : (x : HubConnection) (xs : List HubConnection) → g (x ∷ xs) ≡ cond (is_for c x.stage) (p x) (g xs)) where
      found_gone : (xs : List HubConnection) → AreApart xs → stage_of k xs ≡ ConnectedAs key terms last_activity → g (with_connection gone k xs) ≡ g xs
      found_gone [] apart at = refl
      found_gone (x ∷ xs) apart at = go (is_connection k x) refl (found_gone xs apart.2)
        where
          go : (d : Bool) → is_connection k x ≡ d → (stage_of k xs ≡ ConnectedAs key terms last_activity → g (with_connection gone k xs) ≡ g xs)
              → g (with_connection gone k (x ∷ xs)) ≡ g (x ∷ xs)
          go true same rest =
              let down : is_for c x.stage ≡ false = ap (is_for c) (sym (cond-true (is_connection k x) x.stage (stage_of k xs) same) ∙ at) ∙ far in
              ap (λ (y : HubConnection). g (y ∷ with_connection gone k xs)) (cond-true (is_connection k x) (gone x) x same)
              ∙ ap (λ (ys : List HubConnection). g (gone x ∷ ys)) (unknown gone k xs (rest_unknown k x xs same apart.0))
              ∙ step (gone x) xs
              ∙ sym (cond-false (is_for c x.stage) (p x) (g xs) down) ∙ sym (step x xs)
          go false differ rest =
              ap (λ (y : HubConnection). g (y ∷ with_connection gone k xs)) (cond-false (is_connection k x) (gone x) x differ)
              ∙ step x (with_connection gone k xs)
              ∙ ap (λ (v : X). cond (is_for c x.stage) (p x) v) (rest (sym (cond-false (is_connection k x) x.stage (stage_of k xs) differ) ∙ at))
              ∙ sym (step x xs)

    up_far : (c : ℕ) → eqb key c ≡ false → (xs : List HubConnection) → AreApart xs → stage_of k xs ≡ ConnectedAs key terms last_activity → up_on c (with_connection gone k xs) ≡ up_on c xs
    up_far c far = found_gone c far (λ (x : HubConnection). Some x.conn) (up_on c) (λ x xs. refl)

    stage_far : (c : ℕ) → eqb key c ≡ false → (xs : List HubConnection) → AreApart xs → stage_of k xs ≡ ConnectedAs key terms last_activity
        → stage_for c (with_connection gone k xs) ≡ stage_for c xs
    stage_far c far = found_gone c far (λ (x : HubConnection). x.stage) (stage_for c) (λ x xs. refl)

    backed_gone : (most : ℕ) (ts : List BrokerSession) (xs : List HubConnection) → AllByRecursion (λ y. ConnectionHasSession most ts y.stage) xs
        → AllByRecursion (λ y. ConnectionHasSession most ts y.stage) (with_connection gone k xs)
    backed_gone most ts [] all = tt
    backed_gone most ts (x ∷ xs) all =
        (cond_both (is_connection k x) (gone x) x (λ (y : HubConnection). ConnectionHasSession most ts y.stage) (λ e. tt) (λ e. all.0), backed_gone most ts xs all.1)

    quiet_gone : (xs : List HubConnection) → AllByRecursion (λ y. IsQuiet y.stage y.waiting) xs → AllByRecursion (λ y. IsQuiet y.stage y.waiting) (with_connection gone k xs)
    quiet_gone [] all = tt
    quiet_gone (x ∷ xs) all =
        (cond_both (is_connection k x) (gone x) x (λ (y : HubConnection). IsQuiet y.stage y.waiting) (λ e. tt) (λ e. all.0), quiet_gone xs all.1)

    apart_gone : (xs : List HubConnection) → AreApart xs → AreApart (with_connection gone k xs)
    apart_gone [] apart = tt
    apart_gone (x ∷ xs) apart = (
      known_gone (changed gone k x).conn xs ∙ ap (λ (n : Conn). knows n xs) (gone_name x) ∙ apart.0,
      λ c e. still_none c xs (apart.1 c (was c (is_connection k x) refl e)),
      apart_gone xs apart.2,
    )
      where
        was : (c : ℕ) (d : Bool) → is_connection k x ≡ d → is_for c (changed gone k x).stage ≡ true → is_for c x.stage ≡ true
        was c true same e = absurd (true≢false (sym e ∙ ap (λ (y : HubConnection). is_for c y.stage) (cond-true (is_connection k x) (gone x) x same)))
        was c false differ e = ap (λ (y : HubConnection). is_for c y.stage) (sym (cond-false (is_connection k x) (gone x) x differ)) ∙ e

    -- another session fits the connections as before
    far_fitting : (config : HubConfig) (xs : List HubConnection) → AreApart xs → stage_of k xs ≡ ConnectedAs key terms last_activity → (s : BrokerSession) → eqb key s.key ≡ false
        → SessionMatchesConnection config xs s
        → SessionMatchesConnection config (with_connection gone k xs) s
    far_fitting config xs apart at s far boxed =
        let up = up_far s.key far xs apart at in
        record {
          capacity = boxed.capacity;
          limit = boxed.limit;
          window = boxed.window;
          known = boxed.known;
          state = boxed.state ∙ ap (λ (o : Option Conn). cond (is_some o) Connected Disconnected) (sym up);
          clean = boxed.clean ∙ ap is_clean (sym (stage_far s.key far xs apart at));
          keep_alive = boxed.keep_alive ∙ ap keep_alive_on (sym (stage_far s.key far xs apart at));
          claims = boxed.claims;
          away = λ none. boxed.away (sym up ∙ none);
        }

far_from : (key c : ℕ) → eqb c key ≡ false → eqb key c ≡ false
far_from key c far = ne_eqb key c (λ w. true≢false (sym (eq-eqb c key (sym w)) ∙ far))

gone_with : (key : ℕ) (e : End) (ss : List HubSession) → without_session key (with_end key e ss) ≡ without_session key ss
gone_with key e [] = refl
gone_with key e (s ∷ ss) = go (eqb s.key key) refl (gone_with key e ss)
  where
    go : (b : Bool) → eqb s.key key ≡ b → without_session key (with_end key e ss) ≡ without_session key ss
        → without_session key (with_end key e (s ∷ ss)) ≡ without_session key (s ∷ ss)
    go true same rest = rw same (rw same rest)
    go false differ rest = rw differ (rw differ (ap (λ (rs : List HubSession). s ∷ rs) rest))

fitting_without : (config : HubConfig) (key : ℕ) (xs ys : List HubConnection) → ((s : BrokerSession) → eqb s.key key ≡ false → SessionMatchesConnection config xs s → SessionMatchesConnection config ys s)
    → (ts : List BrokerSession)
    → AllByRecursion (SessionMatchesConnection config xs) ts → AllByRecursion (SessionMatchesConnection config ys) (without_key key ts)
fitting_without config key xs ys other [] all = tt
fitting_without config key xs ys other (s ∷ ts) all = go (eqb s.key key) refl (fitting_without config key xs ys other ts all.1)
  where
    go : (b : Bool) → eqb s.key key ≡ b → AllByRecursion (SessionMatchesConnection config ys) (without_key key ts)
        → AllByRecursion (SessionMatchesConnection config ys) (without_key key (s ∷ ts))
    go true own rest =
        let left : without_key key (s ∷ ts) ≡ without_key key ts = rw own refl in
        subst (AllByRecursion (SessionMatchesConnection config ys)) (sym left) rest
    go false own rest =
        let left : without_key key (s ∷ ts) ≡ s ∷ without_key key ts = rw own refl in
        subst (AllByRecursion (SessionMatchesConnection config ys)) (sym left) (other s own all.0, rest)

-- ---- the broker

-- the connection is closed, and the session's end loses it
abbrev pub part_hub : Conn → ℕ → HubState → HubState
part_hub k key h = record h { connections = with_connection closed k h.connections; sessions = with_end key (over (end_of key h.sessions)) h.sessions }

-- and the session ends
abbrev pub remove_hub : ℕ → HubState → HubState
remove_hub key h = record h { rows = without_client key h.rows; sessions = without_session key h.sessions }

module _ (config : HubConfig) (next : ℕ) (k : Conn) (key : ℕ) (terms : ConnectionTerms) (last_activity : ℕ) (s : BrokerSession) (t u : HubTables) (kept : HubInvariant config next t)
    (at : stage_of k t.connections.connections ≡ ConnectedAs key terms last_activity) (there : session_at key t.sessions.list ≡ Some s)
    (retained : u.retained.messages ≡ t.retained.messages) (connections : u.connections.connections ≡ with_connection (left_with s.end.output) k t.connections.connections) where
  abbrev ends : EndState
  ends = parted s.end

  abbrev left : List HubConnection
  left = with_connection (left_with s.end.output) k t.connections.connections

  other_fitting : (r : BrokerSession) → eqb r.key key ≡ false → SessionMatchesConnection config t.connections.connections r → SessionMatchesConnection config left r
  other_fitting r far = far_fitting k key terms last_activity s.end.output config t.connections.connections kept.apart at r (far_from key r.key far)

  none_left : up_on key left ≡ None
  none_left = up_gone k key terms last_activity s.end.output t.connections.connections kept.apart at

  here_left : (x : HubConnection) → x.stage ≡ ConnectedAs key terms last_activity → seen t.sessions.list x ≡ record x { waiting = s.end.output }
  here_left x stage =
      ap (λ (b : List ℕ). record x { waiting = b })
      (ap (λ (c : ConnectionState). waiting_by c t.sessions.list x.waiting) stage ∙ output_found key s t.sessions.list there)

  waits_left : (us : List BrokerSession) → ((x : HubConnection) → is_for key x.stage ≡ false → seen us x ≡ seen t.sessions.list x)
      → all_seen us left ≡ with_connection closed k (all_seen t.sessions.list t.connections.connections)
  waits_left us other =
      seen_changed key t.sessions.list us other k terms last_activity (left_with s.end.output) closed
      (λ x stage. ap closed (sym (here_left x stage))) t.connections.connections kept.apart at

  over_there : over (end_of key (sessions_of t.sessions.list)) ≡ ends.end
  over_there = ap over (end_there key s t.sessions.list there)

  module _ (clean : terms.clean_session ≡ false) (rows : u.rows ≡ t.rows) (list : u.sessions.list ≡ with_server key ends t.sessions.list) where
    pub kept_parted : u.connections.limits ≡ t.connections.limits → HubInvariant config next u
    kept_parted limits =
        let ts = t.sessions.list in
        let xs = t.connections.connections in
        let own = key_is key s ts there in
        let boxed = holds_at (SessionMatchesConnection config xs) key s ts there kept.fitting in
        let none : up_on s.key left ≡ None = ap (λ (c : ℕ). up_on c left) own ∙ none_left in
        let lasts : s.end.end.clean ≡ false =
        boxed.clean ∙ ap (λ (c : ℕ). is_clean (stage_for c xs)) own ∙ ap is_clean (stage_there k key terms last_activity xs kept.apart at) ∙ clean in
        let here : SessionMatchesConnection config left (record s { end = ends }) = record {
          capacity = boxed.capacity;
          limit = boxed.limit;
          window = boxed.window;
          known = cond-false s.end.end.clean false s.end.end.known lasts ∙ boxed.known;
          state = ap (λ (o : Option Conn). cond (is_some o) Connected Disconnected) (sym none);
          clean = ap is_clean (sym (away_shut s.key left none));
          keep_alive = ap keep_alive_on (sym (away_shut s.key left none));
          claims = ap (λ (b : SenderBook). b.claimed) (cond-false s.end.end.clean blank_book (no_claims s.end.end.book) lasts);
          away = λ away. refl;
        } in
        let v : HubTables = record t { sessions = record t.sessions { list = with_server key ends ts }; connections = record t.connections { connections = left } } in
        let w : HubInvariant config next v = record {
          capacity = kept.capacity;
          window = kept.window;
          limits = kept.limits;
          apart = apart_gone k key terms last_activity s.end.output xs kept.apart;
          quiet = quiet_gone k key terms last_activity s.end.output xs kept.quiet;
          backed = all_backed_as key ends config.limits.most ts left (backed_gone k key terms last_activity s.end.output config.limits.most ts xs kept.backed);
          fitting = all_fitting_with key ends s config xs left other_fitting ts kept.ascending there here kept.fitting;
          ascending = ascending_with key ends ts kept.ascending;
          below = below_as key ends next ts kept.below;
          next = kept.next;
          owned = all_owned_as key ends ts t.rows kept.owned;
          retained = kept.retained;
        } in
        kept_by config next v u w rows retained list connections limits

    pub hub_parted : (clock : ℕ) → hub_of config clock next u ≡ part_hub k key (hub_of config clock next t)
    hub_parted clock =
        let ts = t.sessions.list in
        let sessions : sessions_of u.sessions.list ≡ with_end key (over (end_of key (sessions_of ts))) (sessions_of ts) =
        ap sessions_of list ∙ sessions_with key ends ts ∙ ap (λ (e : End). with_end key e (sessions_of ts)) (sym over_there) in
        let waits : all_seen u.sessions.list u.connections.connections ≡ with_connection closed k (all_seen ts t.connections.connections) =
        (λ i. all_seen (list i) (connections i)) ∙ waits_left (with_server key ends ts) (seen_served key ends ts) in
        λ i. record {
          config = config;
          clock = clock;
          next_key = next;
          rows = rows i;
          retained = retained i;
          sessions = sessions i;
          connections = waits i;
        }

  module _ (rows : u.rows ≡ without_client key t.rows) (list : u.sessions.list ≡ without_key key (with_server key ends t.sessions.list)) where
    list_left : u.sessions.list ≡ without_key key t.sessions.list
    list_left = list ∙ without_with key ends t.sessions.list

    pub kept_left : u.connections.limits ≡ t.connections.limits → HubInvariant config next u
    kept_left limits =
        let ts = t.sessions.list in
        let xs = t.connections.connections in
        let v : HubTables =
        record t {
          rows = without_client key t.rows;
          sessions = record t.sessions { list = without_key key ts };
          connections = record t.connections { connections = left };
        } in
        let w : HubInvariant config next v = record {
          capacity = kept.capacity;
          window = kept.window;
          limits = kept.limits;
          apart = apart_gone k key terms last_activity s.end.output xs kept.apart;
          quiet = quiet_gone k key terms last_activity s.end.output xs kept.quiet;
          backed = backed_without key config.limits.most ts left none_left (backed_gone k key terms last_activity s.end.output config.limits.most ts xs kept.backed);
          fitting = fitting_without config key xs left other_fitting ts kept.fitting;
          ascending = ascending_without key ts kept.ascending;
          below = all_without key (λ r. r.key < next) ts kept.below;
          next = kept.next;
          owned = owned_without key ts t.rows kept.owned;
          retained = kept.retained;
        } in
        kept_by config next v u w rows retained list_left connections limits

    pub hub_left : (clock : ℕ) → hub_of config clock next u ≡ remove_hub key (part_hub k key (hub_of config clock next t))
    hub_left clock =
        let ts = t.sessions.list in
        let ss = sessions_of ts in
        let sessions : sessions_of u.sessions.list ≡ without_session key (with_end key (over (end_of key ss)) ss) =
        ap sessions_of list_left ∙ sessions_without key ts ∙ sym (gone_with key (over (end_of key ss)) ss) in
        let waits : all_seen u.sessions.list u.connections.connections ≡ with_connection closed k (all_seen ts t.connections.connections) =
        (λ i. all_seen (list_left i) (connections i)) ∙ waits_left (without_key key ts) (seen_without key ts) in
        λ i. record {
          config = config;
          clock = clock;
          next_key = next;
          rows = rows i;
          retained = retained i;
          sessions = sessions i;
          connections = waits i;
        }

-- ---- the changes of the definition

pub goes_parted : (k : Conn) (why : HubClose) (key : ℕ) (h g : HubState) (did says : List Act) → g ≡ part_hub k key h → says ≡ did ++ acts.Closed k why ∷ []
    → Refines (parts k why key false) h did g says
unfolding parts
goes_parted k why key h g did says is said_is = record {
  hub = λ w e f. ap (part_hub k key) e ∙ sym is;
  did = λ w e f. ap (λ (a : List Act). a ++ acts.Closed k why ∷ []) f ∙ sym said_is;
}

pub goes_left : (k : Conn) (why : HubClose) (key : ℕ) (h g : HubState) (did says : List Act) → g ≡ remove_hub key (part_hub k key h)
    → says ≡ (did ++ acts.Closed k why ∷ []) ++ acts.Removed key ∷ [] → Refines (parts k why key true) h did g says
unfolding parts remove
goes_left k why key h g did says is said_is = record {
  hub = λ w e f. ap (λ (a : HubState). remove_hub key (part_hub k key a)) e ∙ sym is;
  did = λ w e f. ap (λ (a : List Act). (a ++ acts.Closed k why ∷ []) ++ acts.Removed key ∷ []) f ∙ sym said_is;
}

-- `leaves_behind` is that, and then the last will
pub close_parts : (k : Conn) (why : HubClose) (fits : Bool) (key : ℕ) (w : Work) → key_on (stage_of k w.hub.connections) ≡ Some key
    → shut_down k why fits w ≡ last_will key (will_left why (stage_of k w.hub.connections)) fits (parts k why key (is_clean (stage_of k w.hub.connections)) w)
unfolding shut_down leaves_behind parts
close_parts k why fits key w up = go (stage_of k w.hub.connections) up
  where
    go : (s : ConnectionState) → key_on s ≡ Some key
        → leaves_behind why fits s (said (acts.Closed k why) (shut k w)) ≡ last_will key (will_left why s) fits (parts k why key (is_clean s) w)
    go AwaitingConnect e = absurd cc
    go (ConnectedAs other terms last_activity) e =
        let same : other ≡ key = cc in
        ap (λ (c : ℕ). leaves_behind why fits (ConnectedAs c terms last_activity) (said (acts.Closed k why) (shut k w))) same
    go Closed e = absurd cc

-- ---- the will

will_after_within : (most : ℕ) (why : HubClose) (will : Option Will) → IsWillWithin most will → IsWillWithin most (will_after why will)
will_after_within most (Own Left) will within = tt
will_after_within most why will within = within

-- the will that is left is within the limit
pub will_within : (most : ℕ) (why : HubClose) (k : Conn) (ts : List BrokerSession) (xs : List HubConnection) → AllByRecursion (λ x. ConnectionHasSession most ts x.stage) xs
    → IsWillWithin most (will_left why (stage_of k xs))
will_within most why k ts [] all = tt
will_within most why k ts (x ∷ xs) all =
    cond_both (is_connection k x) x.stage (stage_of k xs) (λ (s : ConnectionState). IsWillWithin most (will_left why s)) (λ e. of x.stage all.0)
    (λ e. will_within most why k ts xs all.1)
  where
    of : (s : ConnectionState) → ConnectionHasSession most ts s → IsWillWithin most (will_left why s)
    of AwaitingConnect backed = tt
    of (ConnectedAs key terms last_activity) backed = will_after_within most why terms.will backed.1
    of Closed backed = tt

-- the connection is closed, and then its last will is published
pub goes_close : (k : Conn) (why : HubClose) (fits : Bool) (key : ℕ) (h g : HubState) (x z : List Act) (will : Option Will) (mid : HubState) (y : List Act)
    → key_on (stage_of k h.connections) ≡ Some key → will ≡ will_left why (stage_of k h.connections) → Refines (parts k why key (is_clean (stage_of k h.connections))) h x mid y
    → Refines (last_will key will fits) mid y g z → Refines (shut_down k why fits) h x g z
goes_close k why fits key h g x z will mid y up is p q = record {
  hub = λ w e f. ap (λ (v : Work). v.hub) (same w e) ∙ q.hub (parts k why key (is_clean (stage_of k h.connections)) w) (p.hub w e f) (p.did w e f);
  did = λ w e f. ap (λ (v : Work). v.did) (same w e) ∙ q.did (parts k why key (is_clean (stage_of k h.connections)) w) (p.hub w e f) (p.did w e f);
}
  where
    same : (w : Work) → w.hub ≡ h → shut_down k why fits w ≡ last_will key will fits (parts k why key (is_clean (stage_of k h.connections)) w)
    same w e =
        close_parts k why fits key w (ap (λ (a : HubState). key_on (stage_of k a.connections)) e ∙ up)
        ∙ ap₂ (λ (o : Option Will) (c : Bool). last_will key o fits (parts k why key c w))
        (ap (λ (a : HubState). will_left why (stage_of k a.connections)) e ∙ sym is)
        (ap (λ (a : HubState). is_clean (stage_of k a.connections)) e)

-- the client of a closed connection is not connected
pub up_left : (k : Conn) (key : ℕ) (terms : ConnectionTerms) (last_activity : ℕ) (b : List ℕ) (xs : List HubConnection) → AreApart xs → stage_of k xs ≡ ConnectedAs key terms last_activity
    → up_on key (with_connection (left_with b) k xs) ≡ None
up_left k key terms last_activity b = up_gone k key terms last_activity b
