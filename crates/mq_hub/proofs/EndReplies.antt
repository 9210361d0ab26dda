-- The end of a connected session makes a reply.
use Rattle.std.proofs.Common.{◌≡◌, ◌||◌, ℕ, Bool, true, false, cond, List, [], ◌∷◌, ◌++◌, Option, Some, None, refl, sym, ap, ap₂, subst, ◌∙◌, eqb, eqb-true, eq-eqb, true≢false}
use Rattle.std.proofs.lemmas.Bool.{cond_both, cond-true, cond-false}
use Rattle.std.specs.Option.{is_some}
use Rattle.mq_topic.specs.declared.qos.Qos.{Qos}
use Rattle.mq_topic.specs.declared.qos.Qos.TheVariants.{Q0, Q1, Q2}
use Rattle.mq_packet.specs.declared.message.Message.{Message}
use Rattle.mq_packet.specs.declared.publish.Delivery.{Delivery}
use Rattle.mq_packet.specs.declared.packet.Packet.{Packet}
use Rattle.mq_packet.specs.declared.packet.Packet.TheVariants as packets
use Rattle.mq_packet.specs.Encoding.{encodings}
use Rattle.mq_flow.specs.Window.{fits_window}
use Rattle.mq_end.specs.declared.reason.CloseReason.TheVariants as reasons
use Rattle.mq_end.specs.declared.state.State.{State}
use Rattle.mq_end.specs.declared.state.State.TheVariants.{Connected}
use Rattle.mq_end.specs.Both.{publish_gets, stores}
use Rattle.mq_end.specs.End.{End, Reply, closes}
use Rattle.mq_end.specs.Server.{server_gets, server_gets_in, server_up_gets}
use Rattle.mq_end.specs.State.{EndState}
use Rattle.mq_route.specs.declared.act.Act.{Act}
use Rattle.mq_route.specs.declared.config.HubConfig.{HubConfig}
use Rattle.mq_route.specs.declared.conn.Conn.{Conn}
use Rattle.mq_route.specs.declared.connection_state.ConnectionState.{ConnectionState}
use Rattle.mq_route.specs.declared.connection_state.ConnectionState.TheVariants.{AwaitingConnect, ConnectedAs, Closed}
use Rattle.mq_route.specs.declared.connection_state.ConnectionTerms.{ConnectionTerms}
use Rattle.mq_route.specs.Hub.{HubState, HubSession, HubConnection, end_of, is_for, is_connection, key_on, knows, stage_of, up_on, with_end, with_connection}
use Rattle.mq_route.specs.Routed.{same_conn}
use Rattle.mq_route.specs.Work.{Work, does, put_on, put_where, with_sessions}
use Rattle.mq_tables.specs.declared.sessions.session.BrokerSession.{BrokerSession}
use Rattle.mq_tables.specs.Calls.{Replies}
use Rattle.mq_tables.specs.Tables.{HubTables}
use Rattle.mq_tables.specs.Output.{output_of}
use Rattle.mq_tables.specs.Sessions.{session_of, sessions_of, session_at, with_server}
use Rattle.mq_tables.proofs.ConnectionTable.{itself, one_conn}
use Rattle.mq_tables.proofs.SessionRoom.{all_there, key_there, some_same}
use Rattle.mq_tables.proofs.OtherEnd.{below_as}
use Rattle.mq_tables.proofs.SessionLemmas.{ascending_with}
use Rattle.mq_hub.specs.Inside.Refinement.{Refines}
use Rattle.mq_hub.specs.Inside.Invariant.{AreApart, HubInvariant, SessionMatchesConnection, HasSession}
use Rattle.mq_hub.specs.Inside.Placement.{with_list}
use Rattle.mq_hub.specs.Inside.View.{all_seen, hub_of, seen, waiting_by}
use Rattle.mq_hub.proofs.ConnectionChange.{output_here, seen_changed, seen_served, up_seen, up_there}
use Rattle.mq_hub.proofs.TakenOutput.{is_up_for}
use Rattle.mq_hub.proofs.OtherEnd.{all_backed_as, all_owned_as, all_fitting_with}

some_none : {X : Type 0} {x : X} → Some x ≡ None → ⊥
some_none e = absurd cc

-- ---- an end that stays connected

-- the part of an end that the invariant speaks of is unchanged
pub record Stays (old new : End) : Type 0 where
  pub window : new.window ≡ old.window
  pub known : new.known ≡ old.known
  pub state : new.state ≡ old.state
  pub clean : new.clean ≡ old.clean
  pub keep_alive : new.keep_alive ≡ old.keep_alive
  pub claims : new.book.claimed ≡ old.book.claimed

still : (e : End) → Stays e e
still e = record { window = refl; known = refl; state = refl; clean = refl; keep_alive = refl; claims = refl }

publish_stays : (q : Qos) (d : Option Delivery) (m : Message) (e : End) → (publish_gets q d m e).close ≡ None → Stays e (publish_gets q d m e).end
publish_stays Q0 None m e lives = still e
publish_stays Q0 (Some d) m e lives = absurd (some_none lives)
publish_stays Q1 None m e lives = absurd (some_none lives)
publish_stays Q1 (Some d) m e lives = still e
publish_stays Q2 None m e lives = absurd (some_none lives)
publish_stays Q2 (Some d) m e lives = go (fits_window e.window d.id e.received) lives
  where
    go : (b : Bool) → (cond b (stores d.id m e) (closes reasons.Window e)).close ≡ None → Stays e (cond b (stores d.id m e) (closes reasons.Window e)).end
    go true lives = record { window = refl; known = refl; state = refl; clean = refl; keep_alive = refl; claims = refl }
    go false lives = absurd (some_none lives)

up_stays : (p : Packet) (e : End) → (server_up_gets p e).close ≡ None → Stays e (server_up_gets p e).end
up_stays (packets.Connect c) e lives = absurd (some_none lives)
up_stays (packets.ConnAck a) e lives = absurd (some_none lives)
up_stays (packets.Publish p) e lives = publish_stays p.message.qos p.delivery p.message e lives
up_stays (packets.PubAck i) e lives = record { window = refl; known = refl; state = refl; clean = refl; keep_alive = refl; claims = refl }
up_stays (packets.PubRec i) e lives = record { window = refl; known = refl; state = refl; clean = refl; keep_alive = refl; claims = refl }
up_stays (packets.PubRel i) e lives = record { window = refl; known = refl; state = refl; clean = refl; keep_alive = refl; claims = refl }
up_stays (packets.PubComp i) e lives = record { window = refl; known = refl; state = refl; clean = refl; keep_alive = refl; claims = refl }
up_stays (packets.Subscribe i rs) e lives = still e
up_stays (packets.SubAck i cs) e lives = absurd (some_none lives)
up_stays (packets.Unsubscribe i fs) e lives = still e
up_stays (packets.UnsubAck i) e lives = absurd (some_none lives)
up_stays packets.PingReq e lives = still e
up_stays packets.PingResp e lives = absurd (some_none lives)
up_stays packets.Disconnect e lives = absurd (some_none lives)

pub gets_up : (p : Packet) (e : End) → e.state ≡ Connected → server_gets p e ≡ server_up_gets p e
gets_up p e up = ap (λ (s : State). server_gets_in s p e) up

-- a packet at which a connected end does not close
pub packet_stays : (p : Packet) (e : End) → e.state ≡ Connected → (server_gets p e).close ≡ None → Stays e (server_gets p e).end
packet_stays p e up lives =
    let is = gets_up p e up in
    subst (λ (r : Reply). Stays e r.end) (sym is) (up_stays p e (ap (λ (r : Reply). r.close) (sym is) ∙ lives))

-- ---- the client's connection

pub up_at : (k : Conn) (key : ℕ) (terms : ConnectionTerms) (last_activity : ℕ) (xs : List HubConnection) → AreApart xs → stage_of k xs ≡ ConnectedAs key terms last_activity → up_on key xs ≡ Some k
up_at k key terms last_activity [] apart at = absurd cc
up_at k key terms last_activity (x ∷ xs) apart at = go (is_connection k x) refl (up_at k key terms last_activity xs apart.2)
  where
    go : (b : Bool) → is_connection k x ≡ b → (stage_of k xs ≡ ConnectedAs key terms last_activity → up_on key xs ≡ Some k) → up_on key (x ∷ xs) ≡ Some k
    go true same rest =
        let here : x.stage ≡ ConnectedAs key terms last_activity = sym (cond-true (is_connection k x) x.stage (stage_of k xs) same) ∙ at in
        cond-true (is_for key x.stage) (Some x.conn) (up_on key xs) (ap (is_for key) here ∙ eq-eqb key key refl) ∙ ap (λ (c : Conn). Some c) (one_conn x.conn k same)
    go false differ rest = later (is_for key x.stage) refl
      where
        there : stage_of k xs ≡ ConnectedAs key terms last_activity
        there = sym (cond-false (is_connection k x) x.stage (stage_of k xs) differ) ∙ at

        later : (b : Bool) → is_for key x.stage ≡ b → up_on key (x ∷ xs) ≡ Some k
        later true up = absurd (true≢false (sym (up_there k key terms last_activity xs there) ∙ ap is_some (apart.1 key up)))
        later false down = cond-false (is_for key x.stage) (Some x.conn) (up_on key xs) down ∙ rest there

known_not : (k : Conn) (xs : List HubConnection) → knows k xs ≡ true → (x : HubConnection) → knows x.conn xs ≡ false → is_connection k x ≡ false
known_not k xs known x none = go (is_connection k x) refl
  where
    go : (b : Bool) → is_connection k x ≡ b → is_connection k x ≡ false
    go true same = absurd (true≢false (sym known ∙ ap (λ (n : Conn). knows n xs) (sym (one_conn x.conn k same)) ∙ none))
    go false differ = differ

is_for_key : (key : ℕ) (s : ConnectionState) → is_for key s ≡ true → key_on s ≡ Some key
is_for_key key AwaitingConnect e = absurd (true≢false (sym e))
is_for_key key (ConnectedAs c terms last_activity) e = ap (λ (n : ℕ). Some n) (eqb-true c key e)
is_for_key key Closed e = absurd (true≢false (sym e))

pub on_at : (k : Conn) (key : ℕ) (xs : List HubConnection) → AreApart xs → up_on key xs ≡ Some k → (knows k xs ≡ true) × (key_on (stage_of k xs) ≡ Some key)
on_at k key [] apart on = absurd cc
on_at k key (x ∷ xs) apart on = go (is_for key x.stage) refl (on_at k key xs apart.2)
  where
    go : (b : Bool) → is_for key x.stage ≡ b → (up_on key xs ≡ Some k → (knows k xs ≡ true) × (key_on (stage_of k xs) ≡ Some key))
        → (knows k (x ∷ xs) ≡ true) × (key_on (stage_of k (x ∷ xs)) ≡ Some key)
    go true up rest =
        let is : x.conn ≡ k = some_same (sym (cond-true (is_for key x.stage) (Some x.conn) (up_on key xs) up) ∙ on) in
        let here : is_connection k x ≡ true = ap (λ (c : Conn). same_conn c k) is ∙ itself k in
        (ap (λ (b : Bool). b || knows k xs) here, ap key_on (cond-true (is_connection k x) x.stage (stage_of k xs) here) ∙ is_for_key key x.stage up)
    go false down rest =
        let w = rest (sym (cond-false (is_for key x.stage) (Some x.conn) (up_on key xs) down) ∙ on) in
        let far : is_connection k x ≡ false = known_not k xs w.0 x apart.0 in
        (ap (λ (b : Bool). b || knows k xs) far ∙ w.0, ap key_on (cond-false (is_connection k x) x.stage (stage_of k xs) far) ∙ w.1)

still_lines : (k : Conn) (xs : List HubConnection) → with_connection (λ x. x) k xs ≡ xs
still_lines k [] = refl
still_lines k (x ∷ xs) = λ i. cond_both (is_connection k x) x x (λ (y : HubConnection). y ≡ x) (λ e. refl) (λ e. refl) i ∷ still_lines k xs i

-- ---- the change of the definition

abbrev put_line : (End → Reply) → End → HubConnection → HubConnection
put_line move e x = record x { waiting = x.waiting ++ encodings (move e).out }

abbrev served : (End → Reply) → ℕ → Conn → HubState → HubState
served move key k h = record h {
  sessions = with_end key (move (end_of key h.sessions)).end h.sessions;
  connections = with_connection (put_line move (end_of key h.sessions)) k h.connections;
}

does_hub : (move : End → Reply) (key : ℕ) (k : Conn) (w : Work) → up_on key w.hub.connections ≡ Some k → (does key move w).hub ≡ served move key k w.hub
unfolding does put_on
does_hub move key k w up =
    ap (λ (o : Option Conn). (put_where o (move (end_of key w.hub.sessions)).out (with_sessions (with_end key (move (end_of key w.hub.sessions)).end) w)).hub) up

does_did : (move : End → Reply) (key : ℕ) (k : Conn) (w : Work) → up_on key w.hub.connections ≡ Some k → (does key move w).did ≡ w.did
unfolding does put_on
does_did move key k w up =
    ap (λ (o : Option Conn). (put_where o (move (end_of key w.hub.sessions)).out (with_sessions (with_end key (move (end_of key w.hub.sessions)).end) w)).did) up

-- ---- the sessions and pending output

pub end_there : (key : ℕ) (t : BrokerSession) (ts : List BrokerSession) → session_at key ts ≡ Some t → end_of key (sessions_of ts) ≡ t.end.end
end_there key t [] there = absurd cc
end_there key t (s ∷ ts) there = go (eqb s.key key) refl (end_there key t ts)
  where
    go : (b : Bool) → eqb s.key key ≡ b → (session_at key ts ≡ Some t → end_of key (sessions_of ts) ≡ t.end.end) → end_of key (sessions_of (s ∷ ts)) ≡ t.end.end
    go true e rest =
        cond-true (eqb s.key key) s.end.end (end_of key (sessions_of ts)) e
        ∙ ap (λ (x : BrokerSession). x.end.end) (some_same (sym (cond-true (eqb s.key key) (Some s) (session_at key ts) e) ∙ there))
    go false e rest = cond-false (eqb s.key key) s.end.end (end_of key (sessions_of ts)) e ∙ rest (sym (cond-false (eqb s.key key) (Some s) (session_at key ts) e) ∙ there)

output_there : (key : ℕ) (t : BrokerSession) (ts : List BrokerSession) → session_at key ts ≡ Some t → output_of key ts ≡ t.end.output
output_there key t [] there = absurd cc
output_there key t (s ∷ ts) there = go (eqb s.key key) refl (output_there key t ts)
  where
    go : (b : Bool) → eqb s.key key ≡ b → (session_at key ts ≡ Some t → output_of key ts ≡ t.end.output) → output_of key (s ∷ ts) ≡ t.end.output
    go true e rest =
        cond-true (eqb s.key key) s.end.output (output_of key ts) e
        ∙ ap (λ (x : BrokerSession). x.end.output) (some_same (sym (cond-true (eqb s.key key) (Some s) (session_at key ts) e) ∙ there))
    go false e rest = cond-false (eqb s.key key) s.end.output (output_of key ts) e ∙ rest (sym (cond-false (eqb s.key key) (Some s) (session_at key ts) e) ∙ there)

ended : (key : ℕ) (e : EndState) (ss : List BrokerSession) → with_end key e.end (sessions_of ss) ≡ sessions_of (with_server key e ss)
ended key e [] = refl
ended key e (s ∷ ss) = ap₂ (λ (x : HubSession) (xs : List HubSession). x ∷ xs) (one (eqb s.key key)) (ended key e ss)
  where
    one : (b : Bool) → cond b (record (session_of s) { end = e.end }) (session_of s) ≡ session_of (cond b (record s { end = e }) s)
    one true = refl
    one false = refl

-- ---- the broker

module _ (config : HubConfig) (next key : ℕ) (s : BrokerSession) (e : EndState) (t : HubTables) (there : session_at key t.sessions.list ≡ Some s) (kept : HubInvariant config next t)
    (k : Conn) (on : up_on key t.connections.connections ≡ Some k) where
  abbrev pub after : HubTables
  after = with_list (with_server key e t.sessions.list) t

  pub kept_replied : (r : Reply) → Replies r s.end e → Stays s.end.end r.end → HubInvariant config next after
  kept_replied r replies stays =
      let ts = t.sessions.list in
      let xs = t.connections.connections in
      let boxed = all_there (SessionMatchesConnection config xs) key s ts kept.fitting there in
      let is : e.end ≡ r.end = replies.end in
      let here : SessionMatchesConnection config xs (record s { end = e }) = record {
        capacity = replies.capacity ∙ boxed.capacity;
        limit = replies.limit ∙ boxed.limit;
        window = ap (λ (x : End). x.window) is ∙ stays.window ∙ boxed.window;
        known = ap (λ (x : End). x.known) is ∙ stays.known ∙ boxed.known;
        state = ap (λ (x : End). x.state) is ∙ stays.state ∙ boxed.state;
        clean = ap (λ (x : End). x.clean) is ∙ stays.clean ∙ boxed.clean;
        keep_alive = ap (λ (x : End). x.keep_alive) is ∙ stays.keep_alive ∙ boxed.keep_alive;
        claims = ap (λ (x : End). x.book.claimed) is ∙ stays.claims ∙ boxed.claims;
        away = λ none. absurd (some_none (sym on ∙ ap (λ (n : ℕ). up_on n xs) (sym (key_there key s ts there)) ∙ none));
      } in record {
        capacity = kept.capacity;
        window = kept.window;
        limits = kept.limits;
        apart = kept.apart;
        backed = all_backed_as key e config.limits.most ts xs kept.backed;
        fitting = all_fitting_with key e s config xs xs (λ r far h. h) ts kept.ascending there here kept.fitting;
        ascending = ascending_with key e ts kept.ascending;
        below = below_as key e next ts kept.below;
        next = kept.next;
        owned = all_owned_as key e ts t.rows kept.owned;
        quiet = kept.quiet;
        retained = kept.retained;
      }

  module _ (clock : ℕ) (move : End → Reply) (replies : Replies (move s.end.end) s.end e) where
    lines_replied : with_connection (put_line move s.end.end) k (all_seen t.sessions.list t.connections.connections) ≡ all_seen (with_server key e t.sessions.list) t.connections.connections
    lines_replied =
        let ts = t.sessions.list in
        let xs = t.connections.connections in
        let at = is_up_for key (stage_of k xs) (on_at k key xs kept.apart on).1 in
        let stands : HasSession ts key = ap is_some there in
        let waits : output_of key (with_server key e ts) ≡ output_of key ts ++ encodings (move s.end.end).out =
        output_here key e ts stands ∙ replies.output ∙ ap (λ (b : List ℕ). b ++ encodings (move s.end.end).out) (sym (output_there key s ts there)) in
        let here : (x : HubConnection) → x.stage ≡ ConnectedAs key at.terms at.last_activity → seen (with_server key e ts) x ≡ put_line move s.end.end (seen ts x) =
        λ x stage. ap (λ (b : List ℕ). record x { waiting = b })
        (ap (λ (c : ConnectionState). waiting_by c (with_server key e ts) x.waiting) stage ∙ waits
        ∙ ap (λ (c : ConnectionState). waiting_by c ts x.waiting ++ encodings (move s.end.end).out) (sym stage)) in
        sym (seen_changed key ts (with_server key e ts) (seen_served key e ts) k at.terms at.last_activity (λ x. x) (put_line move s.end.end) here xs kept.apart at.is)
        ∙ ap (all_seen (with_server key e ts)) (still_lines k xs)

    hub_replied : served move key k (hub_of config clock next t) ≡ hub_of config clock next after
    hub_replied =
        let ts = t.sessions.list in
        let xs = t.connections.connections in
        ap (λ (x : End). record (hub_of config clock next t) { sessions = with_end key (move x).end (sessions_of ts); connections = with_connection (put_line move x) k (all_seen ts xs) })
        (end_there key s ts there)
        ∙ ap₂ (λ (ss : List HubSession) (ls : List HubConnection). record (hub_of config clock next t) { sessions = ss; connections = ls })
        (ap (λ (x : End). with_end key x (sessions_of ts)) (sym replies.end) ∙ ended key e ts) lines_replied

    pub replied_goes : (said : List Act) → Refines (does key move) (hub_of config clock next t) said (hub_of config clock next after) said
    replied_goes said =
        let there_on : (w : Work) → w.hub ≡ hub_of config clock next t → up_on key w.hub.connections ≡ Some k =
        λ w at. ap (λ (h : HubState). up_on key h.connections) at ∙ up_seen key t.sessions.list t.connections.connections ∙ on in record {
          hub = λ w at did. does_hub move key k w (there_on w at) ∙ ap (served move key k) at ∙ hub_replied;
          did = λ w at did. does_did move key k w (there_on w at) ∙ did;
        }
