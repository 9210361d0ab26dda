-- A connection is connected for a client's session, whose end processes the CONNECT.
use Rattle.std.proofs.Common.{◌≡◌, ◌||◌, ◌&&◌, ℕ, ◌==◌, not, Bool, true, false, cond, List, [], ◌∷◌, ◌++◌, length, Option, Some, None, refl, sym, ap, ap₂, subst, ◌∙◌, eqb, eqb-true, eq-eqb, true≢false}
use Rattle.std.proofs.lemmas.Bool.{cond-true, cond-false, cond_both, ne_eqb}
use Rattle.std.specs.List.{AllByRecursion}
use Rattle.std.specs.Option.{is_some}
use Rattle.mq_packet.specs.declared.connack.ConnAck.TheVariants as connacks
use Rattle.mq_packet.specs.declared.connack.RefusalCode.TheVariants.{IdentifierRejected}
use Rattle.mq_packet.specs.declared.connect.Connect.{Connect}
use Rattle.mq_packet.specs.declared.packet.Packet.TheVariants as packets
use Rattle.mq_packet.specs.Encoding.{encodings}
use Rattle.mq_flow.specs.Sender.{SenderBook, blank_book, no_claims}
use Rattle.mq_end.specs.declared.happening.Happening.{Happening}
use Rattle.mq_end.specs.declared.happening.Happening.TheVariants as happens
use Rattle.mq_end.specs.declared.state.State.TheVariants.{Disconnected, Connected}
use Rattle.mq_end.specs.End.{End, Reply, becomes_connected, renewed}
use Rattle.mq_end.specs.Server.{opens, refuses}
use Rattle.mq_end.specs.State.{EndState, Room}
use Rattle.mq_route.specs.declared.act.Act.{Act}
use Rattle.mq_route.specs.declared.act.Act.TheVariants as acts
use Rattle.mq_route.specs.declared.config.HubConfig.{HubConfig}
use Rattle.mq_route.specs.declared.conn.Conn.{Conn}
use Rattle.mq_route.specs.declared.connection_state.ConnectionState.{ConnectionState}
use Rattle.mq_route.specs.declared.connection_state.ConnectionState.TheVariants.{AwaitingConnect, ConnectedAs, Closed}
use Rattle.mq_route.specs.Arrives.{answers, answers_all, resume_session, greeting, terms_of}
use Rattle.mq_route.specs.Hub.{HubState, HubSession, HubConnection, changed, end_of, is_clean, is_for, is_connection, knows, stage_of, up_on, with_end, with_connection, stage_for, keep_alive_on}
use Rattle.mq_route.specs.Routed.{same_conn}
use Rattle.mq_route.specs.Work.{Work, does, put_on, put_where, said, staged, with_sessions}
use Rattle.mq_tables.specs.declared.sessions.session.BrokerSession.{BrokerSession}
use Rattle.mq_tables.specs.Connecting.{connected_end, roomed, HasConnected, IsRoomed}
use Rattle.mq_tables.specs.Tables.{HubTables}
use Rattle.mq_tables.specs.Sessions.{session_of, sessions_of, session_at, with_server}
use Rattle.mq_tables.proofs.ConnectionTable.{one_conn, unknown}
use Rattle.mq_tables.proofs.RefusedConnect.{changed_twice}
use Rattle.mq_tables.proofs.OtherEnd.{below_as, key_is, holds_at}
use Rattle.mq_tables.proofs.SessionLemmas.{ascending_with}
use Rattle.mq_hub.specs.Inside.Refinement.{Refines}
use Rattle.mq_hub.specs.Inside.Invariant.{AreApart, HubInvariant, ConnectionHasSession, IsQuiet, SessionMatchesConnection, IsWillWithin}
use Rattle.mq_hub.specs.Inside.ConnectRoom.{has_session}
use Rattle.mq_hub.specs.Inside.View.{all_seen, hub_of, seen, waiting_by}
use Rattle.mq_hub.proofs.ConnectionChange.{output_here, rest_unknown, seen_others, seen_served, stage_seen, up_seen}
use Rattle.mq_hub.proofs.FirstPackets.{goes_as}
use Rattle.mq_hub.proofs.Refinements.{goes_then, goes_to}
use Rattle.mq_hub.proofs.InvariantChanges.{apart_same, kept_by}
use Rattle.mq_hub.proofs.RefusedConnect.{grown, seen_fresh}
use Rattle.mq_hub.proofs.OtherEnd.{all_backed_as, all_owned_as, all_fitting_with, sessions_as}
use Rattle.mq_hub.proofs.PlacedCopies.{end_there}

-- ---- the end and the CONNECT

-- it has an identifier, or clean session is 1 (3.1.3.1)
abbrev pub is_anonymous : Connect → Bool
is_anonymous c = not c.clean_session && length c.client_id == 0

-- the session was there before (3.2.2.2)
abbrev pub is_present : Connect → End → Bool
is_present c e = not c.clean_session && (opens e).end.known

abbrev pub accepting : Connect → End → Reply
accepting c e =
    becomes_connected (packets.ConnAck (connacks.Accepted (is_present c e)) ∷ []) (is_present c e) (record (renewed c.clean_session (opens e).end) { keep_alive = c.keep_alive })

pub greeting_is : (c : Connect) (e : End) → is_anonymous c ≡ false → greeting c e ≡ accepting c e
greeting_is c e named = cond-false (is_anonymous c) (refuses IdentifierRejected (opens e).end) (accepting c e) named

-- the session of a key exists
pub stands_of : (key : ℕ) (ts : List BrokerSession) → has_session key (sessions_of ts) ≡ true → is_some (session_at key ts) ≡ true
stands_of key [] e = absurd (true≢false (sym e))
stands_of key (t ∷ ts) e = go (eqb t.key key) refl (stands_of key ts)
  where
    go : (b : Bool) → eqb t.key key ≡ b → (has_session key (sessions_of ts) ≡ true → is_some (session_at key ts) ≡ true) → is_some (session_at key (t ∷ ts)) ≡ true
    go true same rest = ap is_some (cond-true (eqb t.key key) (Some t) (session_at key ts) same)
    go false differ rest =
        ap is_some (cond-false (eqb t.key key) (Some t) (session_at key ts) differ)
        ∙ rest (sym (ap (λ (b : Bool). b || has_session key (sessions_of ts)) differ) ∙ e)

-- ---- an end that has other room

module _ (config : HubConfig) (next key : ℕ) (t u : HubTables) (kept : HubInvariant config next t) (none : up_on key t.connections.connections ≡ None) (is : IsRoomed key t.sessions.list u.sessions.list)
    (rows : u.rows ≡ t.rows) (retained : u.retained.messages ≡ t.retained.messages) (connections : u.connections.connections ≡ t.connections.connections) where
  pub kept_roomed : u.connections.limits ≡ t.connections.limits → HubInvariant config next u
  kept_roomed limits =
      let ts = t.sessions.list in
      let xs = t.connections.connections in
      let e : EndState = roomed is.room is.session.end in
      let boxed = holds_at (SessionMatchesConnection config xs) key is.session ts is.there kept.fitting in
      let here : SessionMatchesConnection config xs (record is.session { end = e }) = record {
        capacity = boxed.capacity;
        limit = boxed.limit;
        window = boxed.window;
        known = boxed.known;
        state = boxed.state;
        clean = boxed.clean;
        keep_alive = boxed.keep_alive;
        claims = boxed.claims;
        away = boxed.away;
      } in
      let v : HubTables = record t { sessions = record t.sessions { list = with_server key e ts } } in
      let k : HubInvariant config next v = record {
        capacity = kept.capacity;
        window = kept.window;
        limits = kept.limits;
        apart = kept.apart;
        quiet = kept.quiet;
        backed = all_backed_as key e config.limits.most ts xs kept.backed;
        fitting = all_fitting_with key e is.session config xs xs (λ r far h. h) ts kept.ascending is.there here kept.fitting;
        ascending = ascending_with key e ts kept.ascending;
        below = below_as key e next ts kept.below;
        next = kept.next;
        owned = all_owned_as key e ts t.rows kept.owned;
        retained = kept.retained;
      } in
      kept_by config next v u k rows retained is.after connections limits

  pub hub_roomed : (clock : ℕ) → hub_of config clock next u ≡ hub_of config clock next t
  hub_roomed clock =
      let ts = t.sessions.list in
      let xs = t.connections.connections in
      let e : EndState = roomed is.room is.session.end in
      let sessions : sessions_of u.sessions.list ≡ sessions_of ts = ap sessions_of is.after ∙ sessions_as key e is.session ts kept.ascending is.there refl in
      let waits : all_seen u.sessions.list u.connections.connections ≡ all_seen ts xs =
      (λ i. all_seen (is.after i) (connections i)) ∙ seen_others key ts (with_server key e ts) (seen_served key e ts) xs none in
      λ i. record {
        config = config;
        clock = clock;
        next_key = next;
        rows = rows i;
        retained = retained i;
        sessions = sessions i;
        connections = waits i;
      }

-- ---- the connections

pub some_none : {X : Type 0} {x : X} → Some x ≡ None → ⊥
some_none e = absurd cc

-- no connection is connected for the client: neither the first nor one behind it
not_first : (key : ℕ) (x : HubConnection) (xs : List HubConnection) → up_on key (x ∷ xs) ≡ None → (is_for key x.stage ≡ false) × (up_on key xs ≡ None)
not_first key x xs none = go (is_for key x.stage) refl
  where
    go : (b : Bool) → is_for key x.stage ≡ b → (is_for key x.stage ≡ false) × (up_on key xs ≡ None)
    go true e = absurd (some_none (sym (cond-true (is_for key x.stage) (Some x.conn) (up_on key xs) e) ∙ none))
    go false e = (e, sym (cond-false (is_for key x.stage) (Some x.conn) (up_on key xs) e) ∙ none)

pub none_for : (key : ℕ) (xs : List HubConnection) → up_on key xs ≡ None → AllByRecursion (λ x. is_for key x.stage ≡ false) xs
none_for key [] none = tt
none_for key (x ∷ xs) none = let p = not_first key x xs none in (p.0, none_for key xs p.1)

module _ (k : Conn) (key : ℕ) (s : ConnectionState) (for : (c : ℕ) → is_for c s ≡ eqb key c) where
  abbrev pub up : HubConnection → HubConnection
  up x = record x { stage = s }

  up_name : (x : HubConnection) → (changed up k x).conn ≡ x.conn
  up_name x = cond_both (is_connection k x) (up x) x (λ (y : HubConnection). y.conn ≡ x.conn) (λ e. refl) (λ e. refl)

  known_risen : (n : Conn) (xs : List HubConnection) → knows n (with_connection up k xs) ≡ knows n xs
  known_risen n [] = refl
  known_risen n (x ∷ xs) = λ i. same_conn (up_name x i) n || known_risen n xs i

  module _ {X : Type 0} (c : ℕ) (p : HubConnection → X) (v : X) (here : (x : HubConnection) → is_connection k x ≡ true → p (up x) ≡ v) (g : List HubConnection → X)
      (step : (x : HubConnection) (xs : List HubConnection) → g (x ∷ xs) ≡ cond (is_for c x.stage) (p x) (g xs)) where
    found_risen : (xs : List HubConnection) → AreApart xs → up_on key xs ≡ None → stage_of k xs ≡ AwaitingConnect → g (with_connection up k xs) ≡ cond (eqb key c) v (g xs)
    found_risen [] apart none at = absurd cc
    found_risen (x ∷ xs) apart none at = go (is_connection k x) refl (found_risen xs apart.2)
      where
        left : (is_for key x.stage ≡ false) × (up_on key xs ≡ None)
        left = not_first key x xs none

        go : (b : Bool) → is_connection k x ≡ b → (up_on key xs ≡ None → stage_of k xs ≡ AwaitingConnect → g (with_connection up k xs) ≡ cond (eqb key c) v (g xs))
            → g (with_connection up k (x ∷ xs)) ≡ cond (eqb key c) v (g (x ∷ xs))
        go true same rest =
            let fresh : x.stage ≡ AwaitingConnect = sym (cond-true (is_connection k x) x.stage (stage_of k xs) same) ∙ at in
            ap (λ (y : HubConnection). g (y ∷ with_connection up k xs)) (cond-true (is_connection k x) (up x) x same)
            ∙ ap (λ (ys : List HubConnection). g (up x ∷ ys)) (unknown up k xs (rest_unknown k x xs same apart.0))
            ∙ step (up x) xs
            ∙ ap₂ (λ (b : Bool) (w : X). cond b w (g xs)) (for c) (here x same)
            ∙ ap (λ (w : X). cond (eqb key c) v w) (sym (step x xs ∙ cond-false (is_for c x.stage) (p x) (g xs) (ap (is_for c) fresh)))
        go false differ rest =
            ap (λ (y : HubConnection). g (y ∷ with_connection up k xs)) (cond-false (is_connection k x) (up x) x differ)
            ∙ step x (with_connection up k xs)
            ∙ ap (λ (w : X). cond (is_for c x.stage) (p x) w) (rest left.1 (sym (cond-false (is_connection k x) x.stage (stage_of k xs) differ) ∙ at))
            ∙ turn (eqb key c) refl
            ∙ ap (λ (w : X). cond (eqb key c) v w) (sym (step x xs))
          where
            turn : (b : Bool) → eqb key c ≡ b → cond (is_for c x.stage) (p x) (cond (eqb key c) v (g xs)) ≡ cond (eqb key c) v (cond (is_for c x.stage) (p x) (g xs))
            turn true e =
                let other : is_for c x.stage ≡ false = subst (λ (n : ℕ). is_for n x.stage ≡ false) (eqb-true key c e) left.0 in
                cond-false (is_for c x.stage) (p x) (cond (eqb key c) v (g xs)) other ∙ cond-true (eqb key c) v (g xs) e
                ∙ sym (cond-true (eqb key c) v (cond (is_for c x.stage) (p x) (g xs)) e)
            turn false e = rw e refl

  pub up_risen : (c : ℕ) (xs : List HubConnection) → AreApart xs → up_on key xs ≡ None → stage_of k xs ≡ AwaitingConnect → up_on c (with_connection up k xs) ≡ cond (eqb key c) (Some k) (up_on c xs)
  up_risen c = found_risen c (λ (x : HubConnection). Some x.conn) (Some k) (λ x same. ap Some (one_conn x.conn k same)) (up_on c) (λ x xs. refl)

  pub stage_risen : (c : ℕ) (xs : List HubConnection) → AreApart xs → up_on key xs ≡ None → stage_of k xs ≡ AwaitingConnect → stage_for c (with_connection up k xs) ≡ cond (eqb key c) s (stage_for c xs)
  stage_risen c = found_risen c (λ (x : HubConnection). x.stage) s (λ x same. refl) (stage_for c) (λ x xs. refl)

  pub apart_risen : (xs : List HubConnection) → AreApart xs → up_on key xs ≡ None → stage_of k xs ≡ AwaitingConnect → AreApart (with_connection up k xs)
  apart_risen [] apart none at = tt
  apart_risen (x ∷ xs) apart none at = go (is_connection k x) refl (apart_risen xs apart.2)
    where
      left : (is_for key x.stage ≡ false) × (up_on key xs ≡ None)
      left = not_first key x xs none

      go : (b : Bool) → is_connection k x ≡ b → (up_on key xs ≡ None → stage_of k xs ≡ AwaitingConnect → AreApart (with_connection up k xs)) → AreApart (with_connection up k (x ∷ xs))
      go true same rest =
          subst AreApart (sym (ap₂ (λ (y : HubConnection) (ys : List HubConnection). y ∷ ys) (cond-true (is_connection k x) (up x) x same) (unknown up k xs (rest_unknown k x xs same apart.0))))
          (apart.0, λ c e. subst (λ (n : ℕ). up_on n xs ≡ None) (eqb-true key c (sym (for c) ∙ e)) left.1, apart.2)
      go false differ rest =
          let later : stage_of k xs ≡ AwaitingConnect = sym (cond-false (is_connection k x) x.stage (stage_of k xs) differ) ∙ at in
          subst (λ (y : HubConnection). AreApart (y ∷ with_connection up k xs)) (sym (cond-false (is_connection k x) (up x) x differ))
          (known_risen x.conn xs ∙ apart.0, λ c e. up_risen c xs apart.2 left.1 later ∙ none_up c e (eqb key c) refl ∙ apart.1 c e, rest left.1 later)
        where
          none_up : (c : ℕ) → is_for c x.stage ≡ true → (b : Bool) → eqb key c ≡ b → cond (eqb key c) (Some k) (up_on c xs) ≡ up_on c xs
          none_up c e true is = absurd (true≢false (sym e ∙ subst (λ (n : ℕ). is_for n x.stage ≡ false) (eqb-true key c is) left.0))
          none_up c e false is = cond-false (eqb key c) (Some k) (up_on c xs) is

  pub backed_risen : (most : ℕ) (ts : List BrokerSession) → ConnectionHasSession most ts s → (xs : List HubConnection) → AllByRecursion (λ y. ConnectionHasSession most ts y.stage) xs
      → AllByRecursion (λ y. ConnectionHasSession most ts y.stage) (with_connection up k xs)
  backed_risen most ts one [] all = tt
  backed_risen most ts one (x ∷ xs) all =
      (cond_both (is_connection k x) (up x) x (λ (y : HubConnection). ConnectionHasSession most ts y.stage) (λ e. one) (λ e. all.0), backed_risen most ts one xs all.1)

  pub quiet_risen : ((b : List ℕ) → IsQuiet s b) → (xs : List HubConnection) → AllByRecursion (λ y. IsQuiet y.stage y.waiting) xs → AllByRecursion (λ y. IsQuiet y.stage y.waiting) (with_connection up k xs)
  quiet_risen one [] all = tt
  quiet_risen one (x ∷ xs) all =
      (cond_both (is_connection k x) (up x) x (λ (y : HubConnection). IsQuiet y.stage y.waiting) (λ e. one x.waiting) (λ e. all.0), quiet_risen one xs all.1)

  -- the other sessions
  pub fitting_other : (config : HubConfig) (xs : List HubConnection) → AreApart xs → up_on key xs ≡ None → stage_of k xs ≡ AwaitingConnect → (t : BrokerSession) → eqb t.key key ≡ false → SessionMatchesConnection config xs t
      → SessionMatchesConnection config (with_connection up k xs) t
  fitting_other config xs apart none at t far boxed =
      let other : eqb key t.key ≡ false = ne_eqb key t.key (λ w. true≢false (sym (eq-eqb t.key key (sym w)) ∙ far)) in
      let up_same : up_on t.key (with_connection up k xs) ≡ up_on t.key xs = up_risen t.key xs apart none at ∙ cond-false (eqb key t.key) (Some k) (up_on t.key xs) other in
      let stage_same : stage_for t.key (with_connection up k xs) ≡ stage_for t.key xs = stage_risen t.key xs apart none at ∙ cond-false (eqb key t.key) s (stage_for t.key xs) other in
      record {
        capacity = boxed.capacity;
        limit = boxed.limit;
        window = boxed.window;
        known = boxed.known;
        state = boxed.state ∙ ap (λ (o : Option Conn). cond (is_some o) Connected Disconnected) (sym up_same);
        clean = boxed.clean ∙ ap is_clean (sym stage_same);
        keep_alive = boxed.keep_alive ∙ ap keep_alive_on (sym stage_same);
        claims = boxed.claims;
        away = λ e. boxed.away (sym up_same ∙ e);
      }

-- ---- the session that processes the CONNECT

-- a session that continues has no claims, and neither has a new one
claims_none : (anew clean : Bool) (b : SenderBook) → (cond anew blank_book (cond clean blank_book (no_claims b))).claimed ≡ []
claims_none true clean b = refl
claims_none false true b = refl
claims_none false false b = refl

abbrev pub stage_by : ℕ → Connect → ℕ → ConnectionState
stage_by key c now = ConnectedAs key (terms_of c) now

pub for_key : (key : ℕ) (c : Connect) (now n : ℕ) → is_for n (stage_by key c now) ≡ eqb key n
for_key key c now n = refl

pub own_up : (key n : ℕ) (k : Conn) (o : Option Conn) → n ≡ key → cond (eqb key n) (Some k) o ≡ Some k
own_up key n k o same = cond-true (eqb key n) (Some k) o (eq-eqb key n (sym same))

module _ (k : Conn) (key : ℕ) (c : Connect) (now : ℕ) (named : is_anonymous c ≡ false) where
  abbrev risen_line : HubConnection → HubConnection
  risen_line x = record x { stage = stage_by key c now }

  -- the session of the key, with an end that processed the CONNECT
  pub fitting_risen : (config : HubConfig) (xs : List HubConnection) → AreApart xs → up_on key xs ≡ None → stage_of k xs ≡ AwaitingConnect → (t : BrokerSession) (e : EndState) → t.key ≡ key → e.capacity ≡ config.capacity
      → e.limit ≡ config.limits → e.end.window ≡ config.window → SessionMatchesConnection config (with_connection risen_line k xs) (record t { end = connected_end c now e })
  fitting_risen config xs apart none at t e own capacity limit window =
      let is = greeting_is c e.end named in
      let there : up_on t.key (with_connection risen_line k xs) ≡ Some k =
      up_risen k key (stage_by key c now) (for_key key c now) t.key xs apart none at ∙ own_up key t.key k (up_on t.key xs) own in
      let stage : stage_for t.key (with_connection risen_line k xs) ≡ stage_by key c now =
      stage_risen k key (stage_by key c now) (for_key key c now) t.key xs apart none at ∙ cond-true (eqb key t.key) (stage_by key c now) (stage_for t.key xs) (eq-eqb key t.key (sym own)) in
      record {
        capacity = capacity;
        limit = limit;
        window = ap (λ (r : Reply). r.end.window) is ∙ window;
        known = ap (λ (r : Reply). r.end.known) is;
        state = ap (λ (r : Reply). r.end.state) is ∙ ap (λ (o : Option Conn). cond (is_some o) Connected Disconnected) (sym there);
        clean = ap (λ (r : Reply). r.end.clean) is ∙ ap is_clean (sym stage);
        keep_alive = ap (λ (r : Reply). r.end.keep_alive) is ∙ ap keep_alive_on (sym stage);
        claims = ap (λ (r : Reply). r.end.book.claimed) is ∙ claims_none c.clean_session e.end.clean e.end.book;
        away = λ no. absurd (some_none (sym there ∙ no));
      }

  module _ (config : HubConfig) (next : ℕ) (t u : HubTables) (kept : HubInvariant config next t) (none : up_on key t.connections.connections ≡ None) (at : stage_of k t.connections.connections ≡ AwaitingConnect)
      (session : BrokerSession) (there : session_at key t.sessions.list ≡ Some session) (room : Room) (rows : u.rows ≡ t.rows) (retained : u.retained.messages ≡ t.retained.messages)
      (list : u.sessions.list ≡ with_server key (connected_end c now (roomed room session.end)) t.sessions.list) (connections : u.connections.connections ≡ with_connection risen_line k t.connections.connections) where
    pub kept_greeted : IsWillWithin config.limits.most c.will → u.connections.limits ≡ t.connections.limits → HubInvariant config next u
    kept_greeted will limits =
        let ts = t.sessions.list in
        let xs = t.connections.connections in
        let e : EndState = connected_end c now (roomed room session.end) in
        let us = with_server key e ts in
        let ys = with_connection risen_line k xs in
        let for = for_key key c now in
        let s = stage_by key c now in
        let boxed = holds_at (SessionMatchesConnection config xs) key session ts there kept.fitting in
        let own = key_is key session ts there in
        let v : HubTables = record t { sessions = record t.sessions { list = us }; connections = record t.connections { connections = ys } } in
        let kv : HubInvariant config next v = record {
          capacity = kept.capacity;
          window = kept.window;
          limits = kept.limits;
          apart = apart_risen k key s for xs kept.apart none at;
          quiet = quiet_risen k key s for (λ b. tt) xs kept.quiet;
          backed = all_backed_as key e config.limits.most ts ys (backed_risen k key s for config.limits.most ts (ap is_some there, will) xs kept.backed);
          fitting =
              all_fitting_with key e session config xs ys (fitting_other k key s for config xs kept.apart none at) ts kept.ascending there
              (fitting_risen config xs kept.apart none at session (roomed room session.end) own boxed.capacity boxed.limit boxed.window) kept.fitting;
          ascending = ascending_with key e ts kept.ascending;
          below = below_as key e next ts kept.below;
          next = kept.next;
          owned = all_owned_as key e ts t.rows kept.owned;
          retained = kept.retained;
        } in
        kept_by config next v u kv rows retained list connections limits

    pub hub_greeted : (clock : ℕ) → hub_of config clock next u ≡ record (hub_of config clock next t) {
      sessions = with_end key (greeting c session.end.end).end (sessions_of t.sessions.list);
      connections = with_connection (grown (encodings (greeting c session.end.end).out)) k (with_connection risen_line k (all_seen t.sessions.list t.connections.connections));
    }
    hub_greeted clock =
        let ts = t.sessions.list in
        let xs = t.connections.connections in
        let e : EndState = connected_end c now (roomed room session.end) in
        let us = with_server key e ts in
        let b = encodings (greeting c session.end.end).out in
        let here : (x : HubConnection) → x.stage ≡ AwaitingConnect → x.waiting ≡ [] → seen us (risen_line x) ≡ grown b (risen_line (seen ts x)) =
        λ x fresh empty. ap (λ (w : List ℕ). record (risen_line x) { waiting = w }) (output_here key e ts (ap is_some there) ∙ (λ i. waiting_by (sym fresh i) ts (sym empty i) ++ b)) in
        let waits : all_seen u.sessions.list u.connections.connections ≡ with_connection (grown b) k (with_connection risen_line k (all_seen ts xs)) =
        (λ i. all_seen (list i) (connections i))
        ∙ seen_fresh k ts us (λ x. is_for key x.stage ≡ false) (λ x far. seen_served key e ts x far) risen_line (λ x. grown b (risen_line x)) here xs kept.apart kept.quiet (none_for key xs none) at
        ∙ sym (changed_twice k risen_line (grown b) (λ x. refl) (all_seen ts xs)) in
        let sessions : sessions_of u.sessions.list ≡ with_end key (greeting c session.end.end).end (sessions_of ts) = ap sessions_of list ∙ sessions_served e ts in
        λ i. record {
          config = config;
          clock = clock;
          next_key = next;
          rows = rows i;
          retained = retained i;
          sessions = sessions i;
          connections = waits i;
        }
      where
        one : (e : EndState) (s : BrokerSession) (b : Bool) → session_of (cond b (record s { end = e }) s) ≡ cond b (record (session_of s) { end = e.end }) (session_of s)
        one e s true = refl
        one e s false = refl

        sessions_served : (e : EndState) (ts : List BrokerSession) → sessions_of (with_server key e ts) ≡ with_end key e.end (sessions_of ts)
        sessions_served e [] = refl
        sessions_served e (s ∷ ts) = ap₂ (λ (x : HubSession) (xs : List HubSession). x ∷ xs) (one e s (eqb s.key key)) (sessions_served e ts)

-- ---- the change of the definition

module _ (k : Conn) (c : Connect) (key : ℕ) (named : is_anonymous c ≡ false) (h : HubState) (did : List Act) (apart : AreApart h.connections) (none : up_on key h.connections ≡ None)
    (at : stage_of k h.connections ≡ AwaitingConnect) where
  abbrev reply : Reply
  reply = greeting c (end_of key h.sessions)

  abbrev staged_line : HubConnection → HubConnection
  staged_line x = record x { stage = ConnectedAs key (terms_of c) h.clock }

  abbrev up_hub : HubState
  up_hub = record h { connections = with_connection staged_line k h.connections }

  abbrev pub greeted_hub : HubState
  greeted_hub = record h { sessions = with_end key reply.end h.sessions; connections = with_connection (grown (encodings reply.out)) k (with_connection staged_line k h.connections) }

  goes_up : Refines (λ w. staged k (ConnectedAs key (terms_of c) w.hub.clock) w) h did up_hub did
  goes_up =
      goes_to (λ w. staged k (ConnectedAs key (terms_of c) w.hub.clock) w) h up_hub did
      (λ w e. ap (λ (a : HubState). record a { connections = with_connection (λ x. record x { stage = ConnectedAs key (terms_of c) a.clock }) k a.connections }) e) (λ w. refl)

  put : Work → Work
  put w = put_on k (greeting c (end_of key w.hub.sessions)).out (with_sessions (with_end key (greeting c (end_of key w.hub.sessions)).end) w)

  goes_does : Refines (does key (greeting c)) up_hub did greeted_hub did
  unfolding does put_on put
  goes_does =
      goes_as put (does key (greeting c)) up_hub greeted_hub did did
      (λ w e. ap (λ (o : Option Conn). put_where o (greeting c (end_of key w.hub.sessions)).out (with_sessions (with_end key (greeting c (end_of key w.hub.sessions)).end) w))
      (ap (λ (a : HubState). up_on key a.connections) e
      ∙ up_risen k key (stage_by key c h.clock) (for_key key c h.clock) key h.connections apart none at ∙ own_up key key k (up_on key h.connections) refl))
      (goes_to put up_hub greeted_hub did
      (λ w e. ap (λ (a : HubState). record a {
        sessions = with_end key (greeting c (end_of key a.sessions)).end a.sessions;
        connections = with_connection (grown (encodings (greeting c (end_of key a.sessions)).out)) k a.connections;
      }) e) (λ w. refl))

  pub goes_greeted : (present : Bool) → is_present c (end_of key h.sessions) ≡ present → Refines (resume_session k c key) h did greeted_hub (did ++ acts.Up k key present ∷ [])
  unfolding resume_session answers
  goes_greeted present is =
      let turned : Work → Work = λ w. does key (greeting c) (staged k (ConnectedAs key (terms_of c) w.hub.clock) w) in
      goes_as (λ w. said (acts.Up k key present) (turned w)) (resume_session k c key) h greeted_hub did (did ++ acts.Up k key present ∷ [])
      (λ w e. ap (λ (hs : List Happening). answers_all k key hs (turned w))
      (ap (λ (r : Reply). r.happenings) (greeting_is c (end_of key w.hub.sessions) named)
      ∙ ap (λ (a : HubState). happens.Up (is_present c (end_of key a.sessions)) ∷ []) e ∙ ap (λ (b : Bool). happens.Up b ∷ []) is))
      (goes_then turned (said (acts.Up k key present)) h greeted_hub greeted_hub did did (did ++ acts.Up k key present ∷ [])
      (goes_then (λ w. staged k (ConnectedAs key (terms_of c) w.hub.clock) w) (does key (greeting c)) h up_hub greeted_hub did did did goes_up goes_does)
      (record { hub = λ w e f. e; did = λ w e f. ap (λ (a : List Act). a ++ acts.Up k key present ∷ []) f }))

-- ---- the tables, and the change of the definition

-- a client that is not connected
shut_for : (key : ℕ) (xs : List HubConnection) → up_on key xs ≡ None → stage_for key xs ≡ Closed
shut_for key [] none = refl
shut_for key (x ∷ xs) none = let p = not_first key x xs none in cond-false (is_for key x.stage) x.stage (stage_for key xs) p.0 ∙ shut_for key xs p.1

module _ (k : Conn) (c : Connect) (key : ℕ) (named : is_anonymous c ≡ false) (config : HubConfig) (clock next : ℕ) (t u : HubTables) (kept : HubInvariant config next t)
    (none : up_on key t.connections.connections ≡ None) (at : stage_of k t.connections.connections ≡ AwaitingConnect) (is : HasConnected c clock key t.sessions.list u.sessions.list) (rows : u.rows ≡ t.rows)
    (retained : u.retained.messages ≡ t.retained.messages) (connections : u.connections.connections ≡ with_connection (λ x. record x { stage = stage_by key c clock }) k t.connections.connections) where
  pub keeps_greeted : IsWillWithin config.limits.most c.will → u.connections.limits ≡ t.connections.limits → HubInvariant config next u
  keeps_greeted will limits = kept_greeted k key c clock named config next t u kept none at is.session is.there is.room rows retained is.after connections will limits

  pub goes_on_greeted : c.clean_session ≡ false → (did : List Act) → Refines (resume_session k c key) (hub_of config clock next t) did (hub_of config clock next u) (did ++ acts.Up k key true ∷ [])
  goes_on_greeted going did =
      let ts = t.sessions.list in
      let xs = t.connections.connections in
      let h = hub_of config clock next t in
      let there : end_of key h.sessions ≡ is.session.end.end = end_there key is.session ts is.there in
      let boxed = holds_at (SessionMatchesConnection config xs) key is.session ts is.there kept.fitting in
      let own = key_is key is.session ts is.there in
      let quit : is.session.end.end.clean ≡ false = boxed.clean ∙ ap (λ (n : ℕ). is_clean (stage_for n xs)) own ∙ ap is_clean (shut_for key xs none) in
      let present : is_present c (end_of key h.sessions) ≡ true =
      ap (is_present c) there ∙ (λ i. not (going i) && cond (quit i) false (boxed.known i)) in
      let after : hub_of config clock next u ≡ greeted_hub k c key named h did (apart_same (seen ts) (λ x. refl) (λ x. refl) xs kept.apart) (up_seen key ts xs ∙ none) (stage_seen k ts xs ∙ at) =
      hub_greeted k key c clock named config next t u kept none at is.session is.there is.room rows retained is.after connections clock
      ∙ ap (λ (e : End). record h {
        sessions = with_end key (greeting c e).end h.sessions;
        connections = with_connection (grown (encodings (greeting c e).out)) k (with_connection (λ x. record x { stage = stage_by key c clock }) k h.connections);
      }) (sym there) in
      subst (λ (g : HubState). Refines (resume_session k c key) h did g (did ++ acts.Up k key true ∷ [])) (sym after)
      (goes_greeted k c key named h did (apart_same (seen ts) (λ x. refl) (λ x. refl) xs kept.apart) (up_seen key ts xs ∙ none) (stage_seen k ts xs ∙ at) true present)
