-- Subscriptions that a broker sets or removes, and its answers.
use Rattle.std.proofs.Common.{◌≡◌, ℕ, Bool, true, false, not, cond, List, [], ◌∷◌, ◌++◌, Option, Some, None, Result, Ok, Err, OnOk, OnErr, suc, ◌≤◌, ltb, arith, refl, sym, ap, ap₂, subst, ◌∙◌, append_assoc, append-nil, true≢false}
use Rattle.std.specs.FinMap.Entries.{by_order}
use Rattle.std.specs.List.{AllByRecursion}
use Rattle.std.proofs.lemmas.Bool.{cond-false, lt-leb}
use Rattle.std.specs.Option.{is_some}
use Rattle.std.specs.Prelude.{⊤}
use Rattle.std.specs.declared.cmp.Ordering.{Ordering}
use Rattle.std.specs.declared.cmp.Ordering.TheVariants.{Less, Equal, Greater}
use Rattle.mq_topic.specs.declared.qos.Qos.{Qos}
use Rattle.mq_topic.specs.Rows.{Row, is_key, key_cmp, with_row, without_row}
use Rattle.mq_packet.specs.declared.packet.Request.{Request}
use Rattle.mq_packet.specs.declared.packet.Packet.{Packet}
use Rattle.mq_decode.specs.Limits.{Bounds}
use Rattle.mq_end.specs.declared.state.State.{State}
use Rattle.mq_end.specs.declared.state.State.TheVariants.{Disconnected, Connected}
use Rattle.mq_end.specs.declared.refusal.PublishRefusal.TheVariants as refusals
use Rattle.mq_end.specs.End.{End, is_up}
use Rattle.mq_end.specs.Sizes.{unsuback_size}
use Rattle.mq_end.specs.declared.happening.Happening.TheVariants as happens
use Rattle.mq_end.specs.Server.{answer_refusal, unsubacks}
use Rattle.mq_route.specs.declared.act.Act.{Act}
use Rattle.mq_route.specs.declared.act.Act.TheVariants as acts
use Rattle.mq_route.specs.declared.config.HubConfig.{HubConfig}
use Rattle.mq_route.specs.declared.conn.Conn.{Conn}
use Rattle.mq_route.specs.Arrives.{answers}
use Rattle.mq_route.specs.Hub.{HubState, HubSession, HubConnection, up_on}
use Rattle.mq_route.specs.Work.{Work, does, said, subscribed, unsubscribed}
use Rattle.mq_tables.specs.declared.sessions.call.Call.{Call}
use Rattle.mq_tables.specs.declared.sessions.call.Call.TheVariants.{Takes, Drops}
use Rattle.mq_tables.specs.declared.sessions.session.BrokerSession.{BrokerSession}
use Rattle.mq_tables.specs.Calls.{CanServe, reply_of}
use Rattle.mq_tables.specs.Retained.{RetainedTable}
use Rattle.mq_tables.specs.Tables.{HubTables}
use Rattle.mq_tables.specs.Connections.{ConnectionList}
use Rattle.mq_tables.specs.Sessions.{sessions_of, session_at, with_server}
use Rattle.mq_tables.specs.Subscriptions.{with_rows}
use Rattle.mq_tables.proofs.SessionRoom.{all_there, key_there, same_sessions}
use Rattle.mq_hub.specs.Inside.Requests.{Answers}
use Rattle.mq_hub.specs.Inside.Refinement.{Refines}
use Rattle.mq_hub.specs.Inside.Invariant.{HubInvariant, SessionMatchesConnection, HasSession}
use Rattle.mq_hub.specs.Inside.Placement.{with_list}
use Rattle.mq_hub.specs.Inside.View.{all_seen, hub_of}
use Rattle.mq_hub.specs.Inside.Subscriptions.{subscribed_acts, unsubscribed_acts, without_rows}
use Rattle.mq_hub.proofs.OtherRoom.{alike_seen, kept_ready}
use Rattle.mq_hub.proofs.ConnectionChange.{up_seen}
use Rattle.mq_hub.proofs.TakenOutput.{backed_at}
use Rattle.mq_hub.proofs.Refinements.{goes_then}
use Rattle.mq_hub.proofs.InvariantChanges.{kept_by}
use Rattle.mq_hub.proofs.EndReplies.{Stays, kept_replied, on_at, replied_goes}

-- ---- whose rows they are

pub put_owned : (P : ℕ → Type 0) (key : ℕ) (f : List ℕ) (q : Qos) (rows : List Row) → P key → AllByRecursion (λ r. P r.0.0) rows → AllByRecursion (λ r. P r.0.0) (with_row key f q rows)
put_owned P key f q [] p all = (p, tt)
put_owned P key f q (r ∷ rows) p all = go (key_cmp (key, f) r.0) (put_owned P key f q rows p all.1)
  where
    go : (o : Ordering) → AllByRecursion (λ r. P r.0.0) (with_row key f q rows)
        → AllByRecursion (λ r. P r.0.0) (by_order o (((key, f), q) ∷ r ∷ rows) ((r.0, q) ∷ rows) (r ∷ with_row key f q rows))
    go Less rest = (p, (all.0, all.1))
    go Equal rest = (all.0, all.1)
    go Greater rest = (all.0, rest)

pub with_owned : (P : ℕ → Type 0) (key : ℕ) (rs : List Request) (rows : List Row) → P key → AllByRecursion (λ r. P r.0.0) rows → AllByRecursion (λ r. P r.0.0) (with_rows key rs rows)
with_owned P key [] rows p all = all
with_owned P key (r ∷ rs) rows p all = with_owned P key rs (with_row key r.filter r.qos rows) p (put_owned P key r.filter r.qos rows p all)

row_dropped : (P : Row → Type 0) (key : ℕ) (f : List ℕ) (rows : List Row) → AllByRecursion P rows → AllByRecursion P (without_row key f rows)
row_dropped P key f [] all = tt
row_dropped P key f (r ∷ rows) all = go (not (is_key key f r.0)) (row_dropped P key f rows all.1)
  where
    go : (b : Bool) → AllByRecursion P (without_row key f rows) → AllByRecursion P (cond b (r ∷ without_row key f rows) (without_row key f rows))
    go true rest = (all.0, rest)
    go false rest = rest

pub without_owned : (P : Row → Type 0) (key : ℕ) (fs : List (List ℕ)) (rows : List Row) → AllByRecursion P rows → AllByRecursion P (without_rows key fs rows)
without_owned P key [] rows all = all
without_owned P key (f ∷ fs) rows all = without_owned P key fs (without_row key f rows) (row_dropped P key f rows all)

-- ---- the changes of the definition

subscribed_hub : (key : ℕ) (rs : List Request) (w : Work) → (subscribed key rs w).hub ≡ record w.hub { rows = with_rows key rs w.hub.rows }
subscribed_hub key [] w = refl
subscribed_hub key (r ∷ rs) w = subscribed_hub key rs (said (acts.Subscribed key r.filter r.qos) (record w { hub = record w.hub { rows = with_row key r.filter r.qos w.hub.rows } }))

subscribed_did : (key : ℕ) (rs : List Request) (w : Work) → (subscribed key rs w).did ≡ w.did ++ subscribed_acts key rs
subscribed_did key [] w = sym (append-nil w.did)
subscribed_did key (r ∷ rs) w =
    subscribed_did key rs (said (acts.Subscribed key r.filter r.qos) (record w { hub = record w.hub { rows = with_row key r.filter r.qos w.hub.rows } }))
    ∙ append_assoc w.did (acts.Subscribed key r.filter r.qos ∷ []) (subscribed_acts key rs)

unsubscribed_hub : (key : ℕ) (fs : List (List ℕ)) (w : Work) → (unsubscribed key fs w).hub ≡ record w.hub { rows = without_rows key fs w.hub.rows }
unsubscribed_hub key [] w = refl
unsubscribed_hub key (f ∷ fs) w = unsubscribed_hub key fs (said (acts.Unsubscribed key f) (record w { hub = record w.hub { rows = without_row key f w.hub.rows } }))

unsubscribed_did : (key : ℕ) (fs : List (List ℕ)) (w : Work) → (unsubscribed key fs w).did ≡ w.did ++ unsubscribed_acts key fs
unsubscribed_did key [] w = sym (append-nil w.did)
unsubscribed_did key (f ∷ fs) w =
    unsubscribed_did key fs (said (acts.Unsubscribed key f) (record w { hub = record w.hub { rows = without_row key f w.hub.rows } }))
    ∙ append_assoc w.did (acts.Unsubscribed key f ∷ []) (unsubscribed_acts key fs)

pub goes_subscribed : (key : ℕ) (rs : List Request) (h : HubState) (did : List Act) → Refines (subscribed key rs) h did (record h { rows = with_rows key rs h.rows }) (did ++ subscribed_acts key rs)
goes_subscribed key rs h did = record {
  hub = λ w e f. subscribed_hub key rs w ∙ ap (λ (a : HubState). record a { rows = with_rows key rs a.rows }) e;
  did = λ w e f. subscribed_did key rs w ∙ ap (λ (a : List Act). a ++ subscribed_acts key rs) f;
}

pub goes_unsubscribed : (key : ℕ) (fs : List (List ℕ)) (h : HubState) (did : List Act)
    → Refines (unsubscribed key fs) h did (record h { rows = without_rows key fs h.rows }) (did ++ unsubscribed_acts key fs)
goes_unsubscribed key fs h did = record {
  hub = λ w e f. unsubscribed_hub key fs w ∙ ap (λ (a : HubState). record a { rows = without_rows key fs a.rows }) e;
  did = λ w e f. unsubscribed_did key fs w ∙ ap (λ (a : List Act). a ++ unsubscribed_acts key fs) f;
}

-- ---- the end of a connected client

-- is connected
up_state : (config : HubConfig) (xs : List HubConnection) (k : Conn) (key : ℕ) (t : BrokerSession) (ts : List BrokerSession) → session_at key ts ≡ Some t → up_on key xs ≡ Some k → SessionMatchesConnection config xs t → t.end.end.state ≡ Connected
up_state config xs k key t ts there on boxed =
    boxed.state ∙ ap (λ (n : ℕ). cond (is_some (up_on n xs)) Connected Disconnected) (key_there key t ts there) ∙ ap (λ (o : Option Conn). cond (is_some o) Connected Disconnected) on

-- a connected client has a session
pub stands_up : (config : HubConfig) (next : ℕ) (t : HubTables) → HubInvariant config next t → (key : ℕ) (k : Conn) → up_on key t.connections.connections ≡ Some k → HasSession t.sessions.list key
stands_up config next t kept key k on = backed_at config.limits.most k key t.sessions.list t.connections.connections kept.backed (on_at k key t.connections.connections kept.apart on).1

-- its end is connected, with the configured limits
pub record IsUpEnd (config : HubConfig) (key : ℕ) (ts : List BrokerSession) : Type 0 where
  pub session : BrokerSession
  pub there : session_at key ts ≡ Some session
  pub state : session.end.end.state ≡ Connected
  pub limit : session.end.limit ≡ config.limits
  pub known : session.end.end.known ≡ true

pub up_end : (config : HubConfig) (next : ℕ) (t : HubTables) → HubInvariant config next t → (key : ℕ) (k : Conn) → up_on key t.connections.connections ≡ Some k → IsUpEnd config key t.sessions.list
up_end config next t kept key k on = go (session_at key t.sessions.list) refl
  where
    go : (o : Option BrokerSession) → session_at key t.sessions.list ≡ o → IsUpEnd config key t.sessions.list
    go None e = absurd (true≢false (sym (stands_up config next t kept key k on) ∙ ap is_some e))
    go (Some s) e =
        let boxed = all_there (SessionMatchesConnection config t.connections.connections) key s t.sessions.list kept.fitting e in
        record { session = s; there = e; state = up_state config t.connections.connections k key s t.sessions.list e on boxed; limit = boxed.limit; known = boxed.known }

-- a client is connected on a connection
pub record IsOn (key : ℕ) (xs : List HubConnection) : Type 0 where
  pub conn : Conn
  pub is : up_on key xs ≡ Some conn

pub on_seen : (config : HubConfig) (clock next : ℕ) (t : HubTables) (h : HubState) (key : ℕ) → hub_of config clock next t ≡ h → is_some (up_on key h.connections) ≡ true → IsOn key t.connections.connections
on_seen config clock next t h key view up =
    go (up_on key t.connections.connections) refl
    (ap is_some (sym (up_seen key t.sessions.list t.connections.connections) ∙ ap (λ (a : HubState). up_on key a.connections) view) ∙ up)
  where
    go : (o : Option Conn) → up_on key t.connections.connections ≡ o → is_some o ≡ true → IsOn key t.connections.connections
    go None e some = absurd (true≢false (sym some))
    go (Some k) e some = record { conn = k; is = e }

pub allowed_within : (limit size : ℕ) (e : End) → e.state ≡ Connected → size ≤ limit → answer_refusal limit size e ≡ None
allowed_within limit size e up within =
    let fits : ltb limit size ≡ false = lt-leb (suc limit) size (omega arith) in
    ap (λ (s : State). cond (not (is_up s)) (Some refusals.NotConnected) (cond (ltb limit size) (Some refusals.TooLarge) None)) up
    ∙ cond-false (ltb limit size) (Some refusals.TooLarge) None fits

pub can_drop : (config : HubConfig) (next : ℕ) (t : HubTables) → HubInvariant config next t → (key : ℕ) (k : Conn) → up_on key t.connections.connections ≡ Some k → (i : ℕ) → unsuback_size ≤ config.limits.most
    → CanServe key (Drops i) t.sessions.list
can_drop config next t kept key k on i within =
    let e = up_end config next t kept key k on in
    record {
      session = e.session;
      there = e.there;
      up = ap is_up e.state;
      allowed = allowed_within e.session.end.limit.most unsuback_size e.session.end.end e.state (subst (λ (b : Bounds). unsuback_size ≤ b.most) (sym e.limit) within);
    }

pub can_take : (config : HubConfig) (next : ℕ) (t : HubTables) → HubInvariant config next t → (key : ℕ) (k : Conn) → up_on key t.connections.connections ≡ Some k → (now : ℕ) (p : Packet)
    → CanServe key (Takes now p) t.sessions.list
can_take config next t kept key k on now p = let e = up_end config next t kept key k on in record { session = e.session; there = e.there; up = ap is_up e.state; allowed = tt }

-- a conclusion from `Ok` and from `Err`
pub either : {A B X : Type 0} {E : Type 0} (r : Result ⊤ E) → OnOk r A → OnErr r B → (A → X) → (B → X) → X
either (Ok x) a b f g = f a
either (Err e) a b f g = g b

pub ok_both : {A B X : Type 0} {E : Type 0} (r : Result ⊤ E) → OnOk r A → OnOk r B → (A → B → X) → OnOk r X
ok_both (Ok x) a b f = f a b
ok_both (Err e) a b f = tt

pub err_so : {A X : Type 0} {E : Type 0} (r : Result ⊤ E) → OnErr r A → (A → X) → OnErr r X
err_so (Ok x) a f = tt
err_so (Err e) a f = f a

-- ---- the broker after rows are set and the end served the call

module _ (config : HubConfig) (next key : ℕ) (t u : HubTables) (kept : HubInvariant config next t) (k : Conn) (on : up_on key t.connections.connections ≡ Some k) (call : Call)
    (rows : List Row) (owned : AllByRecursion (λ r. HasSession t.sessions.list r.0.0) rows) (a : Answers key call rows t u) where
  abbrev between : HubTables
  between = record t { rows = rows; sessions = record t.sessions { list = a.ready } }

  kept_between : HubInvariant config next between
  kept_between = kept_ready config next t kept a.ready a.same rows owned

  pub kept_answered : (a.serves.session.end.end.state ≡ Connected → Stays a.serves.session.end.end (reply_of call a.serves.session.end.end).end) → HubInvariant config next u
  kept_answered stays =
      let s = a.serves.session in
      let boxed = all_there (SessionMatchesConnection config t.connections.connections) key s a.ready kept_between.fitting a.serves.there in
      let state = up_state config t.connections.connections k key s a.ready a.serves.there on boxed in
      let v : HubTables = with_list (with_server key a.serves.end a.ready) between in
      kept_by config next v u
      (kept_replied config next key s a.serves.end between a.serves.there kept_between k on (reply_of call s.end.end) a.serves.serves.ok.replies (stays state))
      a.rows (ap (λ (r : RetainedTable). r.messages) a.retained) a.serves.after (ap (λ (l : ConnectionList). l.connections) a.connections) (ap (λ (l : ConnectionList). l.limits) a.connections)

  module _ (clock : ℕ) where
    hub_between : hub_of config clock next between ≡ record (hub_of config clock next t) { rows = rows }
    hub_between =
        ap₂ (λ (ss : List HubSession) (ls : List HubConnection). record (hub_of config clock next t) { rows = rows; sessions = ss; connections = ls })
        (same_sessions t.sessions.list a.ready a.same) (alike_seen t.sessions.list a.ready a.same t.connections.connections)

    hub_after : hub_of config clock next (with_list (with_server key a.serves.end a.ready) between) ≡ hub_of config clock next u
    hub_after =
        let list = a.serves.after in
        let rows_are = a.rows in
        let retained = a.retained in
        let connections = a.connections in
        λ i. record {
          config = config;
          clock = clock;
          next_key = next;
          rows = sym rows_are i;
          retained = (sym retained i).messages;
          sessions = sessions_of (sym list i);
          connections = all_seen (sym list i) (sym connections i).connections;
        }

    pub answered_goes : (did : List Act) → Refines (does key (reply_of call)) (record (hub_of config clock next t) { rows = rows }) did (hub_of config clock next u) did
    answered_goes did =
        let s = a.serves.session in
        subst (λ (h : HubState). Refines (does key (reply_of call)) h did (hub_of config clock next u) did) hub_between
        (subst (λ (h : HubState). Refines (does key (reply_of call)) (hub_of config clock next between) did h did) hub_after
        (replied_goes config next key s a.serves.end between a.serves.there kept_between k on clock (reply_of call) a.serves.serves.ok.replies did))

-- ---- UNSUBSCRIBE

dropped_stays : (i : ℕ) (e : End) → e.state ≡ Connected → Stays e (reply_of (Drops i) e).end
dropped_stays i e up = record { window = refl; known = refl; state = refl; clean = refl; keep_alive = refl; claims = refl }

module _ (config : HubConfig) (next key : ℕ) (t u : HubTables) (kept : HubInvariant config next t) (k : Conn) (on : up_on key t.connections.connections ≡ Some k) (i : ℕ) (fs : List (List ℕ))
    (a : Answers key (Drops i) (without_rows key fs t.rows) t u) where
  dropped_owned : AllByRecursion (λ r. HasSession t.sessions.list r.0.0) (without_rows key fs t.rows)
  dropped_owned = without_owned (λ r. HasSession t.sessions.list r.0.0) key fs t.rows kept.owned

  pub kept_unsubscribed : HubInvariant config next u
  kept_unsubscribed = kept_answered config next key t u kept k on (Drops i) (without_rows key fs t.rows) dropped_owned a (dropped_stays i a.serves.session.end.end)

  pub unsubscribed_goes : (clock : ℕ) (conn : Conn) (did : List Act)
      → Refines (answers conn key (happens.Unsubscribe i fs)) (hub_of config clock next t) did (hub_of config clock next u) (did ++ unsubscribed_acts key fs)
  unfolding answers
  unsubscribed_goes clock conn did =
      let h = hub_of config clock next t in
      let says = did ++ unsubscribed_acts key fs in
      goes_then (unsubscribed key fs) (does key (unsubacks i)) h (record h { rows = without_rows key fs t.rows }) (hub_of config clock next u) did says says
      (goes_unsubscribed key fs h did) (answered_goes config next key t u kept k on (Drops i) (without_rows key fs t.rows) dropped_owned a clock says)
