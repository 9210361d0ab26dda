-- Copies are placed in a broker's tables as the step's definition says.
use Rattle.std.proofs.Common.{◌≡◌, ℕ, Bool, true, false, cond, not, ◌&&◌, ◌||◌, ◌+◌, ◌<◌, List, [], ◌∷◌, ◌++◌, length, Option, Some, None, is_some, refl, sym, ap, ap₂, subst, ◌∙◌, append_assoc, append-nil, eqb, eqb-true, eq-eqb, true≢false, zero-add}
use Rattle.std.proofs.lemmas.Bool.{cond-true, cond-false, ne_eqb}
use Rattle.std.specs.List.{AllByRecursion}
use Rattle.mq_topic.specs.declared.qos.Qos.{Qos}
use Rattle.mq_topic.specs.Rows.{matched}
use Rattle.mq_packet.specs.declared.message.Message.{Message}
use Rattle.mq_packet.specs.declared.packet.Packet.{Packet}
use Rattle.mq_packet.specs.declared.packet.Request.{Request}
use Rattle.mq_packet.specs.Encoding.{encodings}
use Rattle.mq_end.specs.Both.{has_identifier}
use Rattle.mq_end.specs.End.{End}
use Rattle.mq_end.specs.State.{EndState}
use Rattle.mq_route.specs.declared.act.Act.{Act}
use Rattle.mq_route.specs.declared.act.Act.TheVariants as acts
use Rattle.mq_route.specs.declared.config.HubConfig.{HubConfig}
use Rattle.mq_route.specs.declared.conn.Conn.{Conn}
use Rattle.mq_route.specs.declared.connection_state.ConnectionState.{ConnectionState}
use Rattle.mq_route.specs.declared.connection_state.ConnectionState.TheVariants.{AwaitingConnect, ConnectedAs, Closed}
use Rattle.mq_route.specs.Copies.{copy, is_hidden_name, kept, retained_for}
use Rattle.mq_route.specs.Hub.{HubState, HubSession, HubConnection, copies_of, end_of, for_key, is_for, is_connection, knows, up_on, waiting_on, with_end, with_connection}
use Rattle.mq_route.specs.Routed.{same_conn}
use Rattle.mq_route.specs.Work.{Work, does, drops_copies, is_missed, lacks_output, leaves, pending_on, enqueue, enqueue_all, publish_bytes, publishes_next, put_on, put_where, retained_copies, said, deliver, with_sessions}
use Rattle.mq_tables.specs.declared.sessions.session.BrokerSession.{BrokerSession}
use Rattle.mq_tables.specs.Publishing.{IsReadyAt, placed_at, published}
use Rattle.mq_tables.specs.Tables.{HubTables}
use Rattle.mq_tables.specs.Output.{output_of}
use Rattle.mq_tables.specs.Sessions.{AreAscending, session_of, sessions_of, session_at}
use Rattle.mq_tables.proofs.ConnectionTable.{itself, one_conn}
use Rattle.mq_tables.proofs.SessionRoom.{changed_at, changed_other, changed_own, only_own, some_same}
use Rattle.mq_hub.specs.Inside.Invariant.{AreApart, HubInvariant}
use Rattle.mq_hub.specs.Inside.Refinement.{Refines}
use Rattle.mq_hub.specs.Inside.Placement.{AreHeard, AreReady, CanPlace, Settles, copies_found, is_cut, is_short, kept_copies, misses, placed_all, settled_acts, with_retained, with_list}
use Rattle.mq_hub.specs.Inside.View.{all_seen, hub_of, seen, waiting_by}
use Rattle.mq_hub.proofs.PlannedCopies.{found_alike}

-- ---- the sessions

pub end_there : (key : ℕ) (t : BrokerSession) (ts : List BrokerSession) → session_at key ts ≡ Some t → end_of key (sessions_of ts) ≡ t.end.end
end_there key t [] there = absurd cc
end_there key t (s ∷ ts) there = go (eqb s.key key) refl (end_there key t ts)
  where
    go : (b : Bool) → eqb s.key key ≡ b → (session_at key ts ≡ Some t → end_of key (sessions_of ts) ≡ t.end.end) → end_of key (sessions_of (s ∷ ts)) ≡ t.end.end
    go true e rest =
        cond-true (eqb s.key key) s.end.end (end_of key (sessions_of ts)) e
        ∙ ap (λ (x : BrokerSession). x.end.end) (some_same (sym (cond-true (eqb s.key key) (Some s) (session_at key ts) e) ∙ there))
    go false e rest = cond-false (eqb s.key key) s.end.end (end_of key (sessions_of ts)) e ∙ rest (sym (cond-false (eqb s.key key) (Some s) (session_at key ts) e) ∙ there)

sessions_placed : (key : ℕ) (m : Message) (t : BrokerSession) (ts : List BrokerSession) → AreAscending ts → session_at key ts ≡ Some t
    → with_end key (publishes_next m t.end.end).end (sessions_of ts) ≡ sessions_of (placed_at key m ts)
sessions_placed key m t ts up there = go ts (only_own (λ s. s ≡ t) key t ts up there refl)
  where
    one : (s : BrokerSession) (b : Bool) → eqb s.key key ≡ b → (s.key ≡ key → s ≡ t)
        → cond b (record (session_of s) { end = (publishes_next m t.end.end).end }) (session_of s) ≡ session_of (cond b (record s { end = published m s.end }) s)
    one s true e same = ap (λ (x : BrokerSession). record (session_of s) { end = (publishes_next m x.end.end).end }) (sym (same (eqb-true s.key key e)))
    one s false e same = refl

    go : (ss : List BrokerSession) → AllByRecursion (λ s. s.key ≡ key → s ≡ t) ss → with_end key (publishes_next m t.end.end).end (sessions_of ss) ≡ sessions_of (placed_at key m ss)
    go [] all = refl
    go (s ∷ ss) all = ap₂ (λ (x : HubSession) (xs : List HubSession). x ∷ xs) (one s (eqb s.key key) refl all.0) (go ss all.1)

-- ---- pending output

pub output_own : (key : ℕ) (t : BrokerSession) (ts : List BrokerSession) → session_at key ts ≡ Some t → output_of key ts ≡ t.end.output
output_own key t [] there = absurd cc
output_own key t (s ∷ ts) there = go (eqb s.key key) refl (output_own key t ts)
  where
    go : (b : Bool) → eqb s.key key ≡ b → (session_at key ts ≡ Some t → output_of key ts ≡ t.end.output) → output_of key (s ∷ ts) ≡ t.end.output
    go true e rest =
        cond-true (eqb s.key key) s.end.output (output_of key ts) e
        ∙ ap (λ (x : BrokerSession). x.end.output) (some_same (sym (cond-true (eqb s.key key) (Some s) (session_at key ts) e) ∙ there))
    go false e rest = cond-false (eqb s.key key) s.end.output (output_of key ts) e ∙ rest (sym (cond-false (eqb s.key key) (Some s) (session_at key ts) e) ∙ there)

pub output_changed : (f : EndState → EndState) (key k : ℕ) (ts : List BrokerSession) → eqb k key ≡ false → output_of k (changed_at f key ts) ≡ output_of k ts
output_changed f key k [] apart = refl
output_changed f key k (s ∷ ts) apart = go (eqb s.key key) refl (output_changed f key k ts apart)
  where
    go : (b : Bool) → eqb s.key key ≡ b → output_of k (changed_at f key ts) ≡ output_of k ts → output_of k (cond b (record s { end = f s.end }) s ∷ changed_at f key ts) ≡ output_of k (s ∷ ts)
    go true e rest =
        let no : eqb s.key k ≡ false = ne_eqb s.key k (λ same. true≢false (sym (eq-eqb k key (sym same ∙ eqb-true s.key key e)) ∙ apart)) in
        cond-false (eqb s.key k) (f s.end).output (output_of k (changed_at f key ts)) no ∙ rest ∙ sym (cond-false (eqb s.key k) s.end.output (output_of k ts) no)
    go false e rest = ap (λ (b : List ℕ). cond (eqb s.key k) s.end.output b) rest

pub output_other : (key : ℕ) (m : Message) (k : ℕ) (ts : List BrokerSession) → eqb k key ≡ false → output_of k (placed_at key m ts) ≡ output_of k ts
output_other key m k ts apart = output_changed (published m) key k ts apart

waiting_own : (key : ℕ) (stage : ConnectionState) (ts : List BrokerSession) (own : List ℕ) → is_for key stage ≡ true → waiting_by stage ts own ≡ output_of key ts
waiting_own key AwaitingConnect ts own e = absurd (true≢false (sym e))
waiting_own key (ConnectedAs k terms last_activity) ts own e = ap (λ (n : ℕ). output_of n ts) (eqb-true k key e)
waiting_own key Closed ts own e = absurd (true≢false (sym e))

waiting_other : (key : ℕ) (m : Message) (stage : ConnectionState) (ts : List BrokerSession) (own : List ℕ) → is_for key stage ≡ false → waiting_by stage (placed_at key m ts) own ≡ waiting_by stage ts own
waiting_other key m AwaitingConnect ts own e = refl
waiting_other key m (ConnectedAs k terms last_activity) ts own e = output_other key m k ts e
waiting_other key m Closed ts own e = refl

-- ---- the connections

up_seen : (key : ℕ) (ts : List BrokerSession) (xs : List HubConnection) → up_on key (all_seen ts xs) ≡ up_on key xs
up_seen key ts [] = refl
up_seen key ts (x ∷ xs) = ap (λ (o : Option Conn). cond (is_for key x.stage) (Some x.conn) o) (up_seen key ts xs)

or_first : (b r : Bool) → b ≡ true → (b || r) ≡ true
or_first true r e = refl
or_first false r e = absurd (true≢false (sym e))

or_later : (b r : Bool) → r ≡ true → (b || r) ≡ true
or_later true r e = refl
or_later false r e = e

up_known : (key : ℕ) (k : Conn) (xs : List HubConnection) → up_on key xs ≡ Some k → knows k xs ≡ true
up_known key k [] on = absurd cc
up_known key k (x ∷ xs) on = go (is_for key x.stage) refl (up_known key k xs)
  where
    go : (b : Bool) → is_for key x.stage ≡ b → (up_on key xs ≡ Some k → knows k xs ≡ true) → knows k (x ∷ xs) ≡ true
    go true e rest =
        let is : x.conn ≡ k = some_same (sym (cond-true (is_for key x.stage) (Some x.conn) (up_on key xs) e) ∙ on) in
        or_first (is_connection k x) (knows k xs) (ap (λ (c : Conn). same_conn c k) is ∙ itself k)
    go false e rest = or_later (is_connection k x) (knows k xs) (rest (sym (cond-false (is_for key x.stage) (Some x.conn) (up_on key xs) e) ∙ on))

some_none : {X : Type 0} {x : X} → Some x ≡ None → ⊥
some_none e = absurd cc

none_seen : (key : ℕ) (m : Message) (ts : List BrokerSession) (xs : List HubConnection) → up_on key xs ≡ None → all_seen ts xs ≡ all_seen (placed_at key m ts) xs
none_seen key m ts [] none = refl
none_seen key m ts (x ∷ xs) none = go (is_for key x.stage) refl (none_seen key m ts xs)
  where
    go : (b : Bool) → is_for key x.stage ≡ b → (up_on key xs ≡ None → all_seen ts xs ≡ all_seen (placed_at key m ts) xs) → all_seen ts (x ∷ xs) ≡ all_seen (placed_at key m ts) (x ∷ xs)
    go true e rest = absurd (some_none (sym (cond-true (is_for key x.stage) (Some x.conn) (up_on key xs) e) ∙ none))
    go false e rest =
        ap₂ (λ (b : List ℕ) (ls : List HubConnection). record x { waiting = b } ∷ ls) (sym (waiting_other key m x.stage ts x.waiting e))
        (rest (sym (cond-false (is_for key x.stage) (Some x.conn) (up_on key xs) e) ∙ none))

module _ (key : ℕ) (m : Message) (ts : List BrokerSession) (bytes : List ℕ) (grown : output_of key (placed_at key m ts) ≡ output_of key ts ++ bytes) where
  not_there : (k : Conn) (xs : List HubConnection) → knows k xs ≡ false → with_connection (λ x. record x { waiting = x.waiting ++ bytes }) k (all_seen ts xs) ≡ all_seen ts xs
  not_there k [] none = refl
  not_there k (x ∷ xs) none = go (is_connection k x) (knows k xs) refl refl none (not_there k xs)
    where
      go : (a b : Bool) → is_connection k x ≡ a → knows k xs ≡ b → (a || b) ≡ false
          → (knows k xs ≡ false → with_connection (λ x. record x { waiting = x.waiting ++ bytes }) k (all_seen ts xs) ≡ all_seen ts xs)
          → with_connection (λ x. record x { waiting = x.waiting ++ bytes }) k (all_seen ts (x ∷ xs)) ≡ all_seen ts (x ∷ xs)
      go true b ea eb neither rest = absurd (true≢false neither)
      go false b ea eb neither rest =
          ap₂ (λ (l : HubConnection) (ls : List HubConnection). l ∷ ls) (cond-false (is_connection k x) (record (seen ts x) { waiting = (seen ts x).waiting ++ bytes }) (seen ts x) ea) (rest (eb ∙ neither))

  lines_placed : (k : Conn) (xs : List HubConnection) → AreApart xs → up_on key xs ≡ Some k
      → with_connection (λ x. record x { waiting = x.waiting ++ bytes }) k (all_seen ts xs) ≡ all_seen (placed_at key m ts) xs
  lines_placed k [] apart on = absurd cc
  lines_placed k (x ∷ xs) apart on = go (is_for key x.stage) refl (lines_placed k xs apart.2)
    where
      go : (b : Bool) → is_for key x.stage ≡ b
          → (up_on key xs ≡ Some k → with_connection (λ x. record x { waiting = x.waiting ++ bytes }) k (all_seen ts xs) ≡ all_seen (placed_at key m ts) xs)
          → with_connection (λ x. record x { waiting = x.waiting ++ bytes }) k (all_seen ts (x ∷ xs)) ≡ all_seen (placed_at key m ts) (x ∷ xs)
      go true e rest =
          let is : x.conn ≡ k = some_same (sym (cond-true (is_for key x.stage) (Some x.conn) (up_on key xs) e) ∙ on) in
          let here : is_connection k x ≡ true = ap (λ (c : Conn). same_conn c k) is ∙ itself k in
          let waits : waiting_by x.stage ts x.waiting ++ bytes ≡ waiting_by x.stage (placed_at key m ts) x.waiting =
          ap (λ (b : List ℕ). b ++ bytes) (waiting_own key x.stage ts x.waiting e) ∙ sym grown ∙ sym (waiting_own key x.stage (placed_at key m ts) x.waiting e) in
          ap₂ (λ (l : HubConnection) (ls : List HubConnection). l ∷ ls)
          (cond-true (is_connection k x) (record (seen ts x) { waiting = (seen ts x).waiting ++ bytes }) (seen ts x) here ∙ ap (λ (b : List ℕ). record x { waiting = b }) waits)
          (not_there k xs (subst (λ (c : Conn). knows c xs ≡ false) is apart.0) ∙ none_seen key m ts xs (apart.1 key e))
      go false e rest =
          let on_later = sym (cond-false (is_for key x.stage) (Some x.conn) (up_on key xs) e) ∙ on in
          ap₂ (λ (l : HubConnection) (ls : List HubConnection). l ∷ ls)
          (elsewhere (is_connection k x) refl on_later ∙ ap (λ (b : List ℕ). record x { waiting = b }) (sym (waiting_other key m x.stage ts x.waiting e)))
          (rest on_later)
        where
          elsewhere : (b : Bool) → is_connection k x ≡ b → up_on key xs ≡ Some k → cond (is_connection k x) (record (seen ts x) { waiting = (seen ts x).waiting ++ bytes }) (seen ts x) ≡ seen ts x
          elsewhere true here on_later = absurd (true≢false (sym (up_known key k xs on_later) ∙ subst (λ (c : Conn). knows c xs ≡ false) (one_conn x.conn k here) apart.0))
          elsewhere false here on_later = cond-false (is_connection k x) (record (seen ts x) { waiting = (seen ts x).waiting ++ bytes }) (seen ts x) here

-- the pending output of a client's connection is that of its session
pub up_waits : (key : ℕ) (k : Conn) (ts : List BrokerSession) (xs : List HubConnection) → AreApart xs → up_on key xs ≡ Some k → waiting_on k (all_seen ts xs) ≡ output_of key ts
up_waits key k ts [] apart on = absurd cc
up_waits key k ts (x ∷ xs) apart on = go (is_for key x.stage) refl (up_waits key k ts xs apart.2)
  where
    elsewhere : (b : Bool) → is_connection k x ≡ b → up_on key xs ≡ Some k → waiting_on k (all_seen ts xs) ≡ output_of key ts → waiting_on k (all_seen ts (x ∷ xs)) ≡ output_of key ts
    elsewhere true here on_later rest = absurd (true≢false (sym (up_known key k xs on_later) ∙ subst (λ (c : Conn). knows c xs ≡ false) (one_conn x.conn k here) apart.0))
    elsewhere false here on_later rest = cond-false (is_connection k x) (waiting_by x.stage ts x.waiting) (waiting_on k (all_seen ts xs)) here ∙ rest

    go : (b : Bool) → is_for key x.stage ≡ b → (up_on key xs ≡ Some k → waiting_on k (all_seen ts xs) ≡ output_of key ts) → waiting_on k (all_seen ts (x ∷ xs)) ≡ output_of key ts
    go true e rest =
        let is : x.conn ≡ k = some_same (sym (cond-true (is_for key x.stage) (Some x.conn) (up_on key xs) e) ∙ on) in
        let here : is_connection k x ≡ true = ap (λ (c : Conn). same_conn c k) is ∙ itself k in
        cond-true (is_connection k x) (waiting_by x.stage ts x.waiting) (waiting_on k (all_seen ts xs)) here ∙ waiting_own key x.stage ts x.waiting e
    go false e rest =
        let on_later = sym (cond-false (is_for key x.stage) (Some x.conn) (up_on key xs) e) ∙ on in
        elsewhere (is_connection k x) refl on_later (rest on_later)

-- so its length is that of the session's
pub pending_up : (key : ℕ) (ts : List BrokerSession) (xs : List HubConnection) → AreApart xs → is_some (up_on key xs) ≡ true
    → pending_on (up_on key (all_seen ts xs)) (all_seen ts xs) ≡ 0 + length (output_of key ts)
pending_up key ts xs apart up = by (up_on key xs) refl up
  where
    by : (o : Option Conn) → up_on key xs ≡ o → is_some o ≡ true → pending_on (up_on key (all_seen ts xs)) (all_seen ts xs) ≡ 0 + length (output_of key ts)
    by None e some = absurd (true≢false (sym some))
    by (Some k) e some =
        ap (λ (o : Option Conn). pending_on o (all_seen ts xs)) (up_seen key ts xs ∙ e)
        ∙ ap (λ (b : List ℕ). length b) (up_waits key k ts xs apart e) ∙ sym (zero-add (length (output_of key ts)))

-- ---- copies of QoS 0 are for connected clients

heard_one : (xs : List HubConnection) (key : ℕ) (m : Message) (rest : List (ℕ × Message)) → AreHeard xs rest
    → AreHeard xs (for_key key (cond (not (has_identifier m.qos) && not (is_some (up_on key xs))) [] (m ∷ [])) ++ rest)
heard_one xs key m rest all = go (has_identifier m.qos) (is_some (up_on key xs)) refl refl
  where
    go : (a b : Bool) → has_identifier m.qos ≡ a → is_some (up_on key xs) ≡ b → AreHeard xs (for_key key (cond (not a && not b) [] (m ∷ [])) ++ rest)
    go true b ea eb = (λ none. absurd (true≢false (sym ea ∙ none)), all)
    go false true ea eb = (λ none. eb, all)
    go false false ea eb = all

heard_found : (xs : List HubConnection) (m : Message) (found : List (ℕ × Qos)) → AreHeard xs (copies_found xs m found)
heard_found xs m [] = tt
heard_found xs m (f ∷ found) = heard_one xs f.0 (copy f.1 false m) (copies_found xs m found) (heard_found xs m found)

pub heard_copies : (config : HubConfig) (clock next_key : ℕ) (t : HubTables) (m : Message) → AreHeard t.connections.connections (copies_of m (hub_of config clock next_key t))
unfolding copies_of
heard_copies config clock next_key t m = go (is_hidden_name m.topic)
  where
    go : (b : Bool) → AreHeard t.connections.connections (cond b [] (copies_found (all_seen t.sessions.list t.connections.connections) m (matched m.topic t.rows)))
    go true = tt
    go false =
        subst (AreHeard t.connections.connections)
        (found_alike (all_seen t.sessions.list t.connections.connections) t.connections.connections m (matched m.topic t.rows)
        (λ key. ap (λ (o : Option Conn). is_some o) (up_seen key t.sessions.list t.connections.connections)))
        (heard_found t.connections.connections m (matched m.topic t.rows))

-- and so are the copies of retained messages for a connected client
pub heard_retained : (xs : List HubConnection) (key : ℕ) (rs : List Request) (ms : List Message) → is_some (up_on key xs) ≡ true → AreHeard xs (retained_copies key rs ms)
heard_retained xs key [] ms up = tt
heard_retained xs key (r ∷ rs) ms up = go (retained_for r.filter r.qos ms) (heard_retained xs key rs ms up)
  where
    go : (found : List Message) → AreHeard xs (retained_copies key rs ms) → AreHeard xs (for_key key found ++ retained_copies key rs ms)
    go [] all = all
    go (m ∷ found) all = (λ none. up, go found all)

-- ---- a copy that is placed

with_output : Option Conn → List Packet → HubState → HubState
with_output None ps h = h
with_output (Some k) ps h = record h { connections = with_connection (λ x. record x { waiting = x.waiting ++ encodings ps }) k h.connections }

put_hub : (o : Option Conn) (ps : List Packet) (w : Work) → (put_where o ps w).hub ≡ with_output o ps w.hub
unfolding put_on with_output
put_hub None ps w = refl
put_hub (Some k) ps w = refl

put_did : (o : Option Conn) (ps : List Packet) (w : Work) → (put_where o ps w).did ≡ w.did
unfolding put_on
put_did None ps w = refl
put_did (Some k) ps w = refl

-- one that its session has room for, or that is not dropped
place_goes : (key : ℕ) (m : Message) (w : Work) → is_missed key m w.hub ≡ false → enqueue key m w ≡ said (acts.Placed key m) (does key (publishes_next m) w)
unfolding enqueue
place_goes key m w goes = cond-false (is_missed key m w.hub) (said (acts.Missed key m) w) (said (acts.Placed key m) (does key (publishes_next m) w)) goes

-- one that is dropped
place_misses : (key : ℕ) (m : Message) (w : Work) → is_missed key m w.hub ≡ true → enqueue key m w ≡ said (acts.Missed key m) w
unfolding enqueue
place_misses key m w misses = cond-true (is_missed key m w.hub) (said (acts.Missed key m) w) (said (acts.Placed key m) (does key (publishes_next m) w)) misses

-- a client misses the copy as its session says
missed_same : (config : HubConfig) (clock next_key : ℕ) (t : HubTables) (key : ℕ) (m : Message) → AreApart t.connections.connections
    → (has_identifier m.qos ≡ false → is_some (up_on key t.connections.connections) ≡ true)
    → is_missed key m (hub_of config clock next_key t) ≡ misses config (λ k. 0) t.sessions.list (key, m)
missed_same config clock next_key t key m apart heard =
    ap (λ (b : Bool). (drops_copies config.when_full && is_short config t.sessions.list (key, m)) || b) (go (has_identifier m.qos) refl)
  where
    no : (a b : Bool) → b ≡ true → (a && not b) ≡ false
    no true true e = refl
    no true false e = absurd (true≢false (sym e))
    no false b e = refl

    go : (b : Bool) → has_identifier m.qos ≡ b → lacks_output key m (hub_of config clock next_key t) ≡ is_cut config.most_waiting 0 t.sessions.list (key, m)
    go true e =
        no (not (leaves config.most_waiting (pending_on (up_on key (all_seen t.sessions.list t.connections.connections)) (all_seen t.sessions.list t.connections.connections)) (publish_bytes m)))
        (has_identifier m.qos) e
        ∙ sym (no (not (leaves config.most_waiting (0 + length (output_of key t.sessions.list)) (publish_bytes m))) (has_identifier m.qos) e)
    go false e =
        ap (λ (n : ℕ). not (leaves config.most_waiting n (publish_bytes m)) && not (has_identifier m.qos)) (pending_up key t.sessions.list t.connections.connections apart (heard e))

module _ (config : HubConfig) (clock next_key : ℕ) (t : HubTables) (key : ℕ) (m : Message) (s : BrokerSession) where
  -- the tables after it
  abbrev pub after : HubTables
  after = with_list (placed_at key m t.sessions.list) t

  abbrev going : HubState → HubState
  going h = with_output (up_on key h.connections) (publishes_next m (end_of key h.sessions)).out (record h { sessions = with_end key (publishes_next m (end_of key h.sessions)).end h.sessions })

  module _ (up : AreAscending t.sessions.list) (there : session_at key t.sessions.list ≡ Some s) (apart : AreApart t.connections.connections) where
    by_line : (o : Option Conn) → up_on key t.connections.connections ≡ o
        → with_output o (publishes_next m s.end.end).out (record (hub_of config clock next_key t) { sessions = sessions_of (placed_at key m t.sessions.list) }) ≡ hub_of config clock next_key after
    unfolding with_output
    by_line None on = ap (λ (ls : List HubConnection). record (hub_of config clock next_key after) { connections = ls }) (none_seen key m t.sessions.list t.connections.connections on)
    by_line (Some k) on =
        let grown = output_own key (record s { end = published m s.end }) (placed_at key m t.sessions.list) (changed_own (published m) key s t.sessions.list there)
        ∙ ap (λ (b : List ℕ). b ++ encodings (publishes_next m s.end.end).out) (sym (output_own key s t.sessions.list there)) in
        ap (λ (ls : List HubConnection). record (hub_of config clock next_key after) { connections = ls })
        (lines_placed key m t.sessions.list (encodings (publishes_next m s.end.end).out) grown k t.connections.connections apart on)

    gone : going (hub_of config clock next_key t) ≡ hub_of config clock next_key after
    gone =
        ap (λ (e : End). with_output (up_on key (all_seen t.sessions.list t.connections.connections)) (publishes_next m e).out
        (record (hub_of config clock next_key t) { sessions = with_end key (publishes_next m e).end (sessions_of t.sessions.list) })) (end_there key s t.sessions.list there)
        ∙ ap₂ (λ (o : Option Conn) (ss : List HubSession). with_output o (publishes_next m s.end.end).out (record (hub_of config clock next_key t) { sessions = ss }))
        (up_seen key t.sessions.list t.connections.connections) (sessions_placed key m s t.sessions.list up there)
        ∙ by_line (up_on key t.connections.connections) refl

    pub place_hub : (w : Work) → w.hub ≡ hub_of config clock next_key t → is_missed key m w.hub ≡ false → (enqueue key m w).hub ≡ hub_of config clock next_key after
    unfolding does
    place_hub w is goes =
        ap (λ (v : Work). v.hub) (place_goes key m w goes)
        ∙ put_hub (up_on key w.hub.connections) (publishes_next m (end_of key w.hub.sessions)).out (with_sessions (with_end key (publishes_next m (end_of key w.hub.sessions)).end) w)
        ∙ ap going is ∙ gone

place_did : (key : ℕ) (m : Message) (w : Work) → is_missed key m w.hub ≡ false → (enqueue key m w).did ≡ w.did ++ acts.Placed key m ∷ []
unfolding does
place_did key m w goes =
    ap (λ (v : Work). v.did) (place_goes key m w goes)
    ∙ ap (λ (did : List Act). did ++ acts.Placed key m ∷ []) (put_did (up_on key w.hub.connections) (publishes_next m (end_of key w.hub.sessions)).out
    (with_sessions (with_end key (publishes_next m (end_of key w.hub.sessions)).end) w))

-- ---- copies, one after another

-- a copy is for a session that exists
pub record IsPlaceable (ts : List BrokerSession) (c : ℕ × Message) : Type 0 where
  pub session : BrokerSession
  pub there : session_at c.0 ts ≡ Some session

abbrev pub ArePlaceable : List BrokerSession → List (ℕ × Message) → Type 0
ArePlaceable ts cs = AllByRecursion (IsPlaceable ts) cs

still_placeable : (key : ℕ) (m : Message) (ts : List BrokerSession) (cs : List (ℕ × Message)) → ArePlaceable ts cs → ArePlaceable (placed_at key m ts) cs
still_placeable key m ts [] all = tt
still_placeable key m ts (c ∷ cs) all = (go (eqb key c.0) refl, still_placeable key m ts cs all.1)
  where
    go : (b : Bool) → eqb key c.0 ≡ b → IsPlaceable (placed_at key m ts) c
    go true e =
        let same : key ≡ c.0 = eqb-true key c.0 e in
        let s = all.0.session in
        record {
          session = record s { end = published m s.end };
          there = subst (λ (k : ℕ). session_at k (placed_at key m ts) ≡ Some (record s { end = published m s.end })) same
              (changed_own (published m) key s ts (subst (λ (k : ℕ). session_at k ts ≡ Some s) (sym same) all.0.there));
        }
    go false e = record { session = all.0.session; there = changed_other (published m) key c.0 ts e ∙ all.0.there }

above_placed : (low key : ℕ) (m : Message) (ts : List BrokerSession) → AllByRecursion (λ s. low < s.key) ts → AllByRecursion (λ s. low < s.key) (placed_at key m ts)
above_placed low key m [] all = tt
above_placed low key m (s ∷ ts) all = (go (eqb s.key key), above_placed low key m ts all.1)
  where
    go : (b : Bool) → low < (cond b (record s { end = published m s.end }) s).key
    go true = all.0
    go false = all.0

ascending_placed : (key : ℕ) (m : Message) (ts : List BrokerSession) → AreAscending ts → AreAscending (placed_at key m ts)
ascending_placed key m [] up = tt
ascending_placed key m (s ∷ ts) up = go (eqb s.key key) (ascending_placed key m ts up.1)
  where
    go : (b : Bool) → AreAscending (placed_at key m ts) → AreAscending (cond b (record s { end = published m s.end }) s ∷ placed_at key m ts)
    go true rest = (above_placed s.key key m ts up.0, rest)
    go false rest = (above_placed s.key key m ts up.0, rest)

pub placed_goes : (config : HubConfig) (clock next_key : ℕ) (t : HubTables) (cs : List (ℕ × Message)) → AreAscending t.sessions.list → AreApart t.connections.connections
    → AreHeard t.connections.connections cs
    → ArePlaceable t.sessions.list (kept_copies config (λ k. 0) cs t.sessions.list) → (w : Work) → w.hub ≡ hub_of config clock next_key t
    → ((enqueue_all cs w).hub ≡ hub_of config clock next_key (with_list (placed_all (kept_copies config (λ k. 0) cs t.sessions.list) t.sessions.list) t))
    × ((enqueue_all cs w).did ≡ w.did ++ settled_acts config (λ k. 0) cs t.sessions.list)
placed_goes config clock next_key t [] up apart heard all w is = (is, sym (append-nil w.did))
placed_goes config clock next_key t (c ∷ cs) up apart heard all w is =
    go (misses config (λ k. 0) t.sessions.list c) refl (λ rest v at. placed_goes config clock next_key t cs up apart heard.1 rest v at)
    (λ rest v at. placed_goes config clock next_key (with_list (placed_at c.0 c.1 t.sessions.list) t) cs (ascending_placed c.0 c.1 t.sessions.list up) apart heard.1 rest v at)
  where
    go : (b : Bool) → misses config (λ k. 0) t.sessions.list c ≡ b
        → (ArePlaceable t.sessions.list (kept_copies config (λ k. 0) cs t.sessions.list) → (v : Work) → v.hub ≡ hub_of config clock next_key t
        → ((enqueue_all cs v).hub ≡ hub_of config clock next_key (with_list (placed_all (kept_copies config (λ k. 0) cs t.sessions.list) t.sessions.list) t))
        × ((enqueue_all cs v).did ≡ v.did ++ settled_acts config (λ k. 0) cs t.sessions.list))
        → (ArePlaceable (placed_at c.0 c.1 t.sessions.list) (kept_copies config (λ k. 0) cs (placed_at c.0 c.1 t.sessions.list)) → (v : Work)
        → v.hub ≡ hub_of config clock next_key (with_list (placed_at c.0 c.1 t.sessions.list) t)
        → ((enqueue_all cs v).hub ≡ hub_of config clock next_key (with_list (placed_all (kept_copies config (λ k. 0) cs (placed_at c.0 c.1 t.sessions.list)) (placed_at c.0 c.1 t.sessions.list)) t))
        × ((enqueue_all cs v).did ≡ v.did ++ settled_acts config (λ k. 0) cs (placed_at c.0 c.1 t.sessions.list)))
        → ((enqueue_all (c ∷ cs) w).hub ≡ hub_of config clock next_key (with_list (placed_all (kept_copies config (λ k. 0) (c ∷ cs) t.sessions.list) t.sessions.list) t))
        × ((enqueue_all (c ∷ cs) w).did ≡ w.did ++ settled_acts config (λ k. 0) (c ∷ cs) t.sessions.list)
    go true e missed placed =
        let ts = t.sessions.list in
        let v = enqueue c.0 c.1 w in
        let now = place_misses c.0 c.1 w (ap (is_missed c.0 c.1) is ∙ missed_same config clock next_key t c.0 c.1 apart heard.0 ∙ e) in
        let kept = cond-true (misses config (λ k. 0) ts c) (kept_copies config (λ k. 0) cs ts) (c ∷ kept_copies config (λ k. 0) cs (placed_at c.0 c.1 ts)) e in
        let says = cond-true (misses config (λ k. 0) ts c) (acts.Missed c.0 c.1 ∷ settled_acts config (λ k. 0) cs ts) (acts.Placed c.0 c.1 ∷ settled_acts config (λ k. 0) cs (placed_at c.0 c.1 ts)) e in
        let rest = missed (subst (ArePlaceable ts) kept all) v (ap (λ (x : Work). x.hub) now ∙ is) in (
          rest.0 ∙ ap (λ (xs : List (ℕ × Message)). hub_of config clock next_key (with_list (placed_all xs ts) t)) (sym kept),
          rest.1 ∙ ap (λ (x : Work). x.did ++ settled_acts config (λ k. 0) cs ts) now
              ∙ append_assoc w.did (acts.Missed c.0 c.1 ∷ []) (settled_acts config (λ k. 0) cs ts) ∙ ap (λ (xs : List Act). w.did ++ xs) (sym says),
        )
    go false e missed placed =
        let ts = t.sessions.list in
        let us = placed_at c.0 c.1 ts in
        let kept = cond-false (misses config (λ k. 0) ts c) (kept_copies config (λ k. 0) cs ts) (c ∷ kept_copies config (λ k. 0) cs us) e in
        let says = cond-false (misses config (λ k. 0) ts c) (acts.Missed c.0 c.1 ∷ settled_acts config (λ k. 0) cs ts) (acts.Placed c.0 c.1 ∷ settled_acts config (λ k. 0) cs us) e in
        let placeable : ArePlaceable ts (c ∷ kept_copies config (λ k. 0) cs us) = subst (ArePlaceable ts) kept all in
        let s = placeable.0.session in
        let goes = ap (is_missed c.0 c.1) is ∙ missed_same config clock next_key t c.0 c.1 apart heard.0 ∙ e in
        let hub = place_hub config clock next_key t c.0 c.1 s up placeable.0.there apart w is goes in
        let rest = placed (still_placeable c.0 c.1 ts (kept_copies config (λ k. 0) cs us) placeable.1) (enqueue c.0 c.1 w) hub in (
          rest.0 ∙ ap (λ (xs : List (ℕ × Message)). hub_of config clock next_key (with_list (placed_all xs ts) t)) (sym kept),
          rest.1 ∙ ap (λ (did : List Act). did ++ settled_acts config (λ k. 0) cs us) (place_did c.0 c.1 w goes)
              ∙ append_assoc w.did (acts.Placed c.0 c.1 ∷ []) (settled_acts config (λ k. 0) cs us) ∙ ap (λ (xs : List Act). w.did ++ xs) (sym says),
        )

-- ---- what placing asks for

pub can_place : (config : HubConfig) (next_key : ℕ) (t : HubTables) → HubInvariant config next_key t → CanPlace t
can_place config next_key t keeps = record { ascending = keeps.ascending; apart = keeps.apart }

pub for_placeable : (key : ℕ) (ms : List Message) (more : ℕ) (ts : List BrokerSession) → IsReadyAt key ms more ts → ArePlaceable ts (for_key key ms)
for_placeable key ms more ts r = go ms
  where
    go : (xs : List Message) → ArePlaceable ts (for_key key xs)
    go [] = tt
    go (x ∷ xs) = (record { session = r.session; there = r.there }, go xs)

pub all_placeable : (more : ℕ) (ts : List BrokerSession) (cs : List (ℕ × Message)) → AreReady more ts cs → ArePlaceable ts cs
all_placeable more ts [] all = tt
all_placeable more ts (c ∷ cs) all = (record { session = all.0.session; there = all.0.there }, all_placeable more ts cs all.1)

all_goes : (config : HubConfig) (clock next_key : ℕ) (t : HubTables) (cs kept : List (ℕ × Message)) (old : List BrokerSession) → t.sessions.list ≡ old → CanPlace t
    → AreHeard t.connections.connections cs → kept ≡ kept_copies config (λ k. 0) cs old → ArePlaceable old kept → (w : Work) → w.hub ≡ hub_of config clock next_key t
    → ((enqueue_all cs w).hub ≡ hub_of config clock next_key (with_list (placed_all (kept_copies config (λ k. 0) cs t.sessions.list) t.sessions.list) t))
    × ((enqueue_all cs w).did ≡ w.did ++ settled_acts config (λ k. 0) cs t.sessions.list)
all_goes config clock next_key t cs kept old same can heard is all w at =
    placed_goes config clock next_key t cs can.ascending can.apart heard
    (subst (λ (ts : List BrokerSession). ArePlaceable ts (kept_copies config (λ k. 0) cs ts)) (sym same) (subst (ArePlaceable old) is all)) w at

pub goes : (config : HubConfig) (clock next_key : ℕ) (t : HubTables) (said says : List Act) (cs kept : List (ℕ × Message)) (old new : List BrokerSession) → t.sessions.list ≡ old
    → CanPlace t → AreHeard t.connections.connections cs → Settles config (λ k. 0) old cs kept says → ArePlaceable old kept → new ≡ placed_all kept old
    → Refines (enqueue_all cs) (hub_of config clock next_key t) said (hub_of config clock next_key (with_list new t)) (said ++ says)
goes config clock next_key t said says cs kept old new same can heard settles all is = record {
  hub = λ w at did. (all_goes config clock next_key t cs kept old same can heard settles.kept all w at).0
      ∙ ap (λ (ts : List BrokerSession). hub_of config clock next_key (with_list ts t))
      (ap (λ (ts : List BrokerSession). placed_all (kept_copies config (λ k. 0) cs ts) ts) same ∙ ap (λ (xs : List (ℕ × Message)). placed_all xs old) (sym settles.kept) ∙ sym is);
  did = λ w at did. (all_goes config clock next_key t cs kept old same can heard settles.kept all w at).1
      ∙ ap₂ (λ (before more : List Act). before ++ more) did (ap (settled_acts config (λ k. 0) cs) same ∙ sym settles.says);
}

-- ---- a message is delivered

abbrev retaining : Act → Message → Work → Work
retaining act m w = said act (record w { hub = record w.hub { retained = kept m w.hub.retained } })

retained_at : (config : HubConfig) (clock next_key : ℕ) (t : HubTables) (act : Act) (m : Message) (ms : List Message) → ms ≡ kept m t.retained.messages
    → (w : Work) → w.hub ≡ hub_of config clock next_key t
    → (retaining act m w).hub ≡ hub_of config clock next_key (with_retained ms t)
retained_at config clock next_key t act m ms keeps w at =
    ap (λ (h : HubState). record h { retained = kept m h.retained }) at
    ∙ ap (λ (xs : List Message). record (hub_of config clock next_key t) { retained = xs }) (sym keeps)

-- a message is delivered: retained, reported, and its copies placed
pub shares : (config : HubConfig) (clock next_key : ℕ) (t : HubTables) (said_before says : List Act) (act : Act) (m : Message) (cs placed : List (ℕ × Message)) (report : List Act)
    → (old new : List BrokerSession) (ms : List Message)
    → t.sessions.list ≡ old → ms ≡ kept m t.retained.messages → CanPlace t → copies_of m (hub_of config clock next_key t) ≡ cs → Settles config (λ k. 0) old cs placed report
    → ArePlaceable old placed → new ≡ placed_all placed old → says ≡ (said_before ++ act ∷ []) ++ report
    → Refines (deliver act m) (hub_of config clock next_key t) said_before (hub_of config clock next_key (with_list new (with_retained ms t))) says
unfolding deliver
shares config clock next_key t said_before says act m cs placed report old new ms same keeps can due settles all is says_is = record {
  hub = λ w at did.
      ap (λ (xs : List (ℕ × Message)). (enqueue_all xs (retaining act m w)).hub) (ap (copies_of m) at ∙ due)
      ∙ (goes config clock next_key (with_retained ms t) (said_before ++ act ∷ []) report cs placed old new same (record { ascending = can.ascending; apart = can.apart }) (subst (AreHeard t.connections.connections) due (heard_copies config clock next_key t m)) settles all is).hub (retaining act m w)
      (retained_at config clock next_key t act m ms keeps w at) (ap (λ (xs : List Act). xs ++ act ∷ []) did);
  did = λ w at did.
      ap (λ (xs : List (ℕ × Message)). (enqueue_all xs (retaining act m w)).did) (ap (copies_of m) at ∙ due)
      ∙ (goes config clock next_key (with_retained ms t) (said_before ++ act ∷ []) report cs placed old new same (record { ascending = can.ascending; apart = can.apart }) (subst (AreHeard t.connections.connections) due (heard_copies config clock next_key t m)) settles all is).did (retaining act m w)
      (retained_at config clock next_key t act m ms keeps w at) (ap (λ (xs : List Act). xs ++ act ∷ []) did)
      ∙ sym says_is;
}
