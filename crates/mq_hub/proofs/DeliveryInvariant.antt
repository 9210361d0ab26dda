-- The invariant after a message is delivered.
use Rattle.std.proofs.Common.{◌≡◌, ℕ, length, Bool, true, false, cond, not, ◌&&◌, ◌||◌, List, [], ◌∷◌, ◌++◌, filter, Option, Some, None, refl, sym, ap, ap₂, subst, ◌∙◌, eqb, true≢false}
use Rattle.std.proofs.lemmas.Bool.{cond_both}
use Rattle.std.specs.List.{AllByRecursion, list_any}
use Rattle.std.specs.Option.{is_some}
use Rattle.mq_topic.specs.declared.qos.Qos.{Qos}
use Rattle.mq_topic.specs.declared.qos.Qos.TheVariants.{Q0, Q1, Q2}
use Rattle.mq_packet.specs.declared.message.Message.{Message}
use Rattle.mq_packet.specs.declared.packet.Packet.{Packet}
use Rattle.mq_packet.specs.Encoding.{encodings}
use Rattle.mq_flow.specs.Next.{next_identifier}
use Rattle.mq_end.specs.declared.state.State.TheVariants.{Disconnected, Connected}
use Rattle.mq_end.specs.Both.{has_identifier, publishes_at}
use Rattle.mq_end.specs.End.{End, is_up}
use Rattle.mq_end.specs.State.{EndState}
use Rattle.mq_route.specs.declared.act.Act.{Act}
use Rattle.mq_route.specs.declared.config.HubConfig.{HubConfig}
use Rattle.mq_route.specs.declared.conn.Conn.{Conn}
use Rattle.mq_route.specs.Copies.{is_hidden_name, is_of, kept, replaced}
use Rattle.mq_route.specs.Hub.{HubState, HubConnection, copies_of, up_on}
use Rattle.mq_route.specs.Work.{have_room, deliver}
use Rattle.mq_tables.specs.declared.sessions.session.BrokerSession.{BrokerSession}
use Rattle.mq_tables.specs.Publishing.{IsReady, IsReadyAt, placed_at, published}
use Rattle.mq_tables.specs.Connections.{ConnectionList}
use Rattle.mq_tables.specs.Tables.{HubTables}
use Rattle.mq_tables.specs.Sessions.{sessions_of, session_at, with_server}
use Rattle.mq_tables.proofs.EndPublishes.{first_of}
use Rattle.mq_tables.proofs.SessionRoom.{same_change, same_sessions}
use Rattle.mq_tables.proofs.OtherEnd.{below_as, holds_at}
use Rattle.mq_tables.proofs.SessionLemmas.{ascending_with}
use Rattle.mq_hub.specs.Inside.Refinement.{Refines}
use Rattle.mq_hub.specs.Inside.Invariant.{HubInvariant, SessionMatchesConnection, IsWithin}
use Rattle.mq_hub.specs.Inside.Placement.{AreApart, AreReady, HasSessions, placed_all, with_retained, with_list}
use Rattle.mq_hub.specs.Inside.DeliveryPlan.{AreTablesAlike}
use Rattle.mq_hub.specs.Inside.View.{all_seen, hub_of}
use Rattle.mq_hub.proofs.InvariantChanges.{kept_by}
use Rattle.mq_hub.proofs.SessionRoom.{placed_others}
use Rattle.mq_hub.proofs.OtherRoom.{alike_seen, kept_ready}
use Rattle.mq_hub.proofs.OtherEnd.{all_backed_as, all_owned_as, all_fitting_with}

-- ---- the end of a session is another one

pub kept_served : (config : HubConfig) (next key : ℕ) (e : EndState) (s : BrokerSession) (t : HubTables) → HubInvariant config next t
    → session_at key t.sessions.list ≡ Some s
    → SessionMatchesConnection config t.connections.connections (record s { end = e }) → HubInvariant config next (with_list (with_server key e t.sessions.list) t)
kept_served config next key e s t kept there here =
    let ts = t.sessions.list in
    let xs = t.connections.connections in
    record {
      capacity = kept.capacity;
      window = kept.window;
      limits = kept.limits;
      apart = kept.apart;
      quiet = kept.quiet;
      backed = all_backed_as key e config.limits.most ts xs kept.backed;
      fitting = all_fitting_with key e s config xs xs (λ r far h. h) ts kept.ascending there here kept.fitting;
      ascending = ascending_with key e ts kept.ascending;
      below = below_as key e next ts kept.below;
      next = kept.next;
      owned = all_owned_as key e ts t.rows kept.owned;
      retained = kept.retained;
    }

-- ---- a copy that is placed

-- publishing leaves the state of the end
same_window : (q : Qos) (i : ℕ) (m : Message) (e : End) → (publishes_at q i m e).end.window ≡ e.window
same_window Q0 i m e = refl
same_window Q1 i m e = refl
same_window Q2 i m e = refl

same_known : (q : Qos) (i : ℕ) (m : Message) (e : End) → (publishes_at q i m e).end.known ≡ e.known
same_known Q0 i m e = refl
same_known Q1 i m e = refl
same_known Q2 i m e = refl

same_state : (q : Qos) (i : ℕ) (m : Message) (e : End) → (publishes_at q i m e).end.state ≡ e.state
same_state Q0 i m e = refl
same_state Q1 i m e = refl
same_state Q2 i m e = refl

same_clean : (q : Qos) (i : ℕ) (m : Message) (e : End) → (publishes_at q i m e).end.clean ≡ e.clean
same_clean Q0 i m e = refl
same_clean Q1 i m e = refl
same_clean Q2 i m e = refl

same_keep_alive : (q : Qos) (i : ℕ) (m : Message) (e : End) → (publishes_at q i m e).end.keep_alive ≡ e.keep_alive
same_keep_alive Q0 i m e = refl
same_keep_alive Q1 i m e = refl
same_keep_alive Q2 i m e = refl

same_claims : (q : Qos) (i : ℕ) (m : Message) (e : End) → (publishes_at q i m e).end.book.claimed ≡ e.book.claimed
same_claims Q0 i m e = refl
same_claims Q1 i m e = refl
same_claims Q2 i m e = refl

-- nothing is sent if the end is not connected and the message has an identifier
none_out : (q : Qos) (i : ℕ) (m : Message) (e : End) → is_up e.state ≡ false → has_identifier q ≡ true → (publishes_at q i m e).out ≡ []
none_out Q0 i m e down has = absurd (true≢false (sym has))
none_out Q1 i m e down has = rw down refl
none_out Q2 i m e down has = rw down refl

cond_none : {X : Type 0} (b : Bool) (x : X) (o : Option X) → cond b (Some x) o ≡ None → b ≡ false
cond_none true x o e = absurd cc
cond_none false x o e = refl

cond_other : {X : Type 0} (b : Bool) (x : X) (o : Option X) → cond b o (Some x) ≡ None → o ≡ None
cond_other true x o e = e
cond_other false x o e = absurd cc

-- a message that is accepted without connection has an identifier
has_one : (m : Message) (s : EndState) → IsReady (m ∷ []) 0 s → is_up s.end.state ≡ false → has_identifier m.qos ≡ true
has_one m s ready down =
    let none = cond_none _ _ _ (cond_other s.end.known _ _ (first_of m [] 0 s ready)) in
    go (has_identifier m.qos) refl none
  where
    go : (b : Bool) → has_identifier m.qos ≡ b → (not (has_identifier m.qos) && not (is_up s.end.state)) ≡ false → has_identifier m.qos ≡ true
    go true e none = e
    go false e none = absurd (true≢false (sym (ap₂ (λ (a b : Bool). not a && not b) e down) ∙ none))

down_none : (o : Option Conn) → o ≡ None → is_up (cond (is_some o) Connected Disconnected) ≡ false
down_none o e = ap (λ (x : Option Conn). is_up (cond (is_some x) Connected Disconnected)) e

fitting_placed : (config : HubConfig) (xs : List HubConnection) (m : Message) (s : BrokerSession) → IsReady (m ∷ []) 0 s.end → SessionMatchesConnection config xs s
    → SessionMatchesConnection config xs (record s { end = published m s.end })
fitting_placed config xs m s ready boxed =
    let i = next_identifier s.end.end.last s.end.end.book in
    record {
      capacity = boxed.capacity;
      limit = boxed.limit;
      window = same_window m.qos i m s.end.end ∙ boxed.window;
      known = same_known m.qos i m s.end.end ∙ boxed.known;
      state = same_state m.qos i m s.end.end ∙ boxed.state;
      clean = same_clean m.qos i m s.end.end ∙ boxed.clean;
      keep_alive = same_keep_alive m.qos i m s.end.end ∙ boxed.keep_alive;
      claims = same_claims m.qos i m s.end.end ∙ boxed.claims;
      away = λ none.
          let down = ap is_up boxed.state ∙ down_none (up_on s.key xs) none in
          ap₂ (λ (b : List ℕ) (ps : List Packet). b ++ encodings ps) (boxed.away none) (none_out m.qos i m s.end.end down (has_one m s.end ready down));
    }

kept_placed : (config : HubConfig) (next key : ℕ) (m : Message) (t : HubTables) → HubInvariant config next t → IsReadyAt key (m ∷ []) 0 t.sessions.list
    → HubInvariant config next (with_list (placed_at key m t.sessions.list) t)
kept_placed config next key m t kept ready =
    let s = ready.session in
    let ts = t.sessions.list in
    let boxed = holds_at (SessionMatchesConnection config t.connections.connections) key s ts ready.there kept.fitting in
    subst (λ (us : List BrokerSession). HubInvariant config next (with_list us t)) (same_change (published m) key s ts kept.ascending ready.there)
    (kept_served config next key (published m s.end) s t kept ready.there (fitting_placed config t.connections.connections m s ready.ready boxed))

pub kept_placed_all : (config : HubConfig) (next : ℕ) (cs : List (ℕ × Message)) (t : HubTables) → AreApart cs → AreReady 0 t.sessions.list cs
    → HubInvariant config next t
    → HubInvariant config next (with_list (placed_all cs t.sessions.list) t)
kept_placed_all config next [] t apart ready kept = kept
kept_placed_all config next (c ∷ cs) t apart ready kept =
    let ts = t.sessions.list in
    kept_placed_all config next cs (with_list (placed_at c.0 c.1 ts) t) apart.1 (placed_others c.0 c.1 0 ts cs apart.0 ready.1)
    (kept_placed config next c.0 c.1 t kept ready.0)

-- ---- a message that is retained

pub all_filtered : {X : Type 0} (P : X → Type 0) (p : X → Bool) (xs : List X) → AllByRecursion P xs → AllByRecursion P (filter p xs)
all_filtered P p [] all = tt
all_filtered P p (x ∷ xs) all = go (p x) (all_filtered P p xs all.1)
  where
    go : (b : Bool) → AllByRecursion P (filter p xs) → AllByRecursion P (cond b (x ∷ filter p xs) (filter p xs))
    go true rest = (all.0, rest)
    go false rest = rest

pub all_last : {X : Type 0} (P : X → Type 0) (xs : List X) (x : X) → AllByRecursion P xs → P x → AllByRecursion P (xs ++ x ∷ [])
all_last P [] x all p = (p, tt)
all_last P (y ∷ ys) x all p = (all.0, all_last P ys x all.1 p)

all_replaced : (P : Message → Type 0) (m : Message) (ms : List Message) → P m → AllByRecursion P ms → AllByRecursion P (replaced m ms)
all_replaced P m [] p all = tt
all_replaced P m (r ∷ ms) p all = (cond_both (is_of m.topic r) m r P (λ e. p) (λ e. all.0), all_replaced P m ms p all.1)

pub all_kept : (P : Message → Type 0) (m : Message) (ms : List Message) → P m → AllByRecursion P ms → AllByRecursion P (kept m ms)
unfolding kept
all_kept P m ms p all =
    let gone = filter (λ r. not (is_of m.topic r)) ms in
    let last = ms ++ m ∷ [] in
    let put = cond (list_any (is_of m.topic) ms) (replaced m ms) last in
    let P_all = AllByRecursion P in
    cond_both (not m.retain || is_hidden_name m.topic) ms (cond (eqb (length m.payload) 0) gone put) P_all (λ e. all)
    (λ e. cond_both (eqb (length m.payload) 0) gone put P_all (λ f. all_filtered P (λ r. not (is_of m.topic r)) ms all)
    (λ f. cond_both (list_any (is_of m.topic) ms) (replaced m ms) last P_all (λ g. all_replaced P m ms p all) (λ g. all_last P ms m all p)))

-- ---- and both

pub kept_shared : (config : HubConfig) (next : ℕ) (m : Message) (cs : List (ℕ × Message)) (t u : HubTables) → HubInvariant config next t
    → IsWithin config.limits.most m → AreApart cs
    → AreReady 0 t.sessions.list cs → u.rows ≡ t.rows → u.connections ≡ t.connections → u.retained.messages ≡ kept m t.retained.messages
    → u.sessions.list ≡ placed_all cs t.sessions.list
    → HubInvariant config next u
kept_shared config next m cs t u keeps within apart ready rows connections retained list =
    let v : HubInvariant config next (with_list (placed_all cs t.sessions.list) t) = kept_placed_all config next cs t apart ready keeps in
    let w : HubInvariant config next (with_retained (kept m t.retained.messages) (with_list (placed_all cs t.sessions.list) t)) = record {
      capacity = v.capacity;
      window = v.window;
      limits = v.limits;
      apart = v.apart;
      quiet = v.quiet;
      backed = v.backed;
      fitting = v.fitting;
      ascending = v.ascending;
      below = v.below;
      next = v.next;
      owned = v.owned;
      retained = all_kept (IsWithin config.limits.most) m t.retained.messages within v.retained;
    } in
    kept_by config next (with_retained (kept m t.retained.messages) (with_list (placed_all cs t.sessions.list) t)) u w rows retained list
    (ap (λ (l : ConnectionList). l.connections) connections) (ap (λ (l : ConnectionList). l.limits) connections)

-- ---- tables that are the same but for room

pub kept_alike : (config : HubConfig) (next : ℕ) (t u : HubTables) → AreTablesAlike t u → HubInvariant config next t → HubInvariant config next u
kept_alike config next t u same kept =
    let v : HubTables = record t { rows = t.rows; sessions = record t.sessions { list = u.sessions.list } } in
    kept_by config next v u (kept_ready config next t kept u.sessions.list same.list t.rows kept.owned) same.rows same.retained refl
    (ap (λ (l : ConnectionList). l.connections) same.connections) (ap (λ (l : ConnectionList). l.limits) same.connections)

pub hub_alike : (config : HubConfig) (clock next : ℕ) (t u : HubTables) → AreTablesAlike t u → hub_of config clock next u ≡ hub_of config clock next t
hub_alike config clock next t u same =
    let ts = t.sessions.list in
    let us = u.sessions.list in
    let sessions : sessions_of us ≡ sessions_of ts = same_sessions ts us same.list in
    let waits : all_seen us u.connections.connections ≡ all_seen ts t.connections.connections =
    ap (λ (l : ConnectionList). all_seen us l.connections) same.connections ∙ alike_seen ts us same.list t.connections.connections in
    λ i. record {
      config = config;
      clock = clock;
      next_key = next;
      rows = same.rows i;
      retained = same.retained i;
      sessions = sessions i;
      connections = waits i;
    }

-- a broker has the sessions of its tables
pub has_sessions : (config : HubConfig) (clock next : ℕ) (t : HubTables) → HubInvariant config next t → HasSessions t.sessions.list (hub_of config clock next t)
has_sessions config clock next t kept = record {
  sessions = refl;
  capacity = all_capacity t.sessions.list kept.fitting;
}
  where
    all_capacity : (ts : List BrokerSession) → AllByRecursion (SessionMatchesConnection config t.connections.connections) ts → AllByRecursion (λ s. s.end.capacity ≡ config.capacity) ts
    all_capacity [] all = tt
    all_capacity (s ∷ ts) all = (all.0.capacity, all_capacity ts all.1)

-- ---- the step

-- the same message, broker and acts
pub goes_as : (a : Act) (m n : Message) (h i g : HubState) (x y z : List Act) → m ≡ n → h ≡ i → x ≡ y
    → Refines (deliver a m) h x g z → Refines (deliver a n) i y g z
goes_as a m n h i g x y z message hub did goes =
    subst (λ (p : Message). Refines (deliver a p) i y g z) message
    (subst (λ (s : HubState). Refines (deliver a m) s y g z) hub
    (subst (λ (d : List Act). Refines (deliver a m) h d g z) did goes))

-- ---- and whether there is room

pub enough_seen : (b : Bool) (m : Message) (cs : List (ℕ × Message)) (h i : HubState) → b ≡ have_room cs h → cs ≡ copies_of m h → h ≡ i
    → b ≡ have_room (copies_of m i) i
enough_seen b m cs h i enough copies same =
    enough ∙ ap (λ (xs : List (ℕ × Message)). have_room xs h) copies ∙ ap (λ (s : HubState). have_room (copies_of m s) s) same
