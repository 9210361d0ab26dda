-- A connected client subscribes, and gets the retained messages.
use Rattle.std.proofs.Common.{◌≡◌, ℕ, suc, ◌+◌, ◌≤◌, Bool, true, false, cond, List, [], ◌∷◌, ◌++◌, length, map, filter, Option, Some, is_some, Result, Ok, Err, IfOk, OnErr, refl, sym, ap, subst, ◌∙◌, arith}
use Rattle.std.proofs.lemmas.List.{length-append}
use Rattle.std.specs.List.{AllByRecursion}
use Rattle.std.specs.declared.alloc.AllocError.{AllocError}
use Rattle.mq_topic.specs.declared.qos.Qos.{Qos}
use Rattle.mq_topic.specs.declared.qos.Qos.TheVariants.{Q0, Q1, Q2}
use Rattle.mq_topic.specs.Matching.{is_match}
use Rattle.mq_packet.specs.declared.message.Message.{Message}
use Rattle.mq_packet.specs.declared.packet.Packet.TheVariants as packets
use Rattle.mq_packet.specs.declared.packet.Request.{Request}
use Rattle.mq_packet.specs.declared.packet.SubAckCode.{SubAckCode}
use Rattle.mq_packet.specs.Encoding.{encoded_size, encodings, fields}
use Rattle.mq_decode.specs.Limits.{Bounds}
use Rattle.mq_flow.specs.Next.{next_identifier}
use Rattle.mq_end.specs.declared.happening.Happening.TheVariants as happens
use Rattle.mq_end.specs.Both.{publishes_at}
use Rattle.mq_end.specs.End.{End, is_up}
use Rattle.mq_end.specs.Ready.{packets_size}
use Rattle.mq_end.specs.Server.{subacks}
use Rattle.mq_end.specs.Sizes.{publish_size, requests_size, suback_size, subscribe_size}
use Rattle.mq_end.specs.declared.packet_outcome.PacketOutcome.{PacketOutcome}
use Rattle.mq_route.specs.declared.act.Act.{Act}
use Rattle.mq_route.specs.declared.config.HubConfig.{HubConfig}
use Rattle.mq_route.specs.declared.conn.Conn.{Conn}
use Rattle.mq_route.specs.Arrives.{answers, granted}
use Rattle.mq_route.specs.Copies.{copy, retained_for}
use Rattle.mq_route.specs.Hub.{HubState, HubConnection, for_key, up_on}
use Rattle.mq_route.specs.Work.{Work, does, enqueue_all, publishes_next, retained_copies, subscribed}
use Rattle.mq_tables.specs.declared.rules.CopyRules.{CopyRules}
use Rattle.mq_tables.specs.declared.sessions.call.Call.TheVariants.{Grants}
use Rattle.mq_tables.specs.declared.sessions.session.BrokerSession.{BrokerSession}
use Rattle.mq_tables.specs.Calls.{CanServe, reply_of, ServesAt}
use Rattle.mq_tables.specs.Connections.{ConnectionList}
use Rattle.mq_tables.specs.Publishing.{MayGo, placed_at, published, roomless, AreSameButRoom}
use Rattle.mq_tables.specs.Retained.{RetainedTable}
use Rattle.mq_tables.specs.Tables.{HubTables}
use Rattle.mq_tables.specs.Sessions.{sessions_of, session_at}
use Rattle.mq_tables.specs.Subscriptions.{with_rows}
use Rattle.mq_tables.specs.Rules.{rules_of, space_of}
use Rattle.mq_tables.proofs.SessionRoom.{changed_own, same_change, same_session, some_same}
use Rattle.mq_tables.proofs.Spaces.{frame_bytes, same_space}
use Rattle.mq_hub.specs.declared.publish.settle.SettledMessages.{SettledMessages}
use Rattle.mq_hub.specs.Inside.Requests.{Subscribes}
use Rattle.mq_hub.specs.Inside.Refinement.{Refines}
use Rattle.mq_hub.specs.Inside.Invariant.{HubInvariant, SessionMatchesConnection, IsWithin, HasSession}
use Rattle.mq_hub.specs.Inside.Placement.{HasSessions, IsFor, placed_all, with_list, Settles}
use Rattle.mq_hub.specs.Inside.View.{all_seen, hub_of}
use Rattle.mq_hub.specs.Inside.Subscriptions.{subscribed_acts}
use Rattle.mq_hub.specs.Inside.Settlement.{IsSettledAs}
use Rattle.mq_hub.proofs.Refinements.{goes_then}
use Rattle.mq_hub.proofs.GrantedRows.{allowed_within, answered_goes, goes_subscribed, kept_answered, stands_up, up_end, with_owned}
use Rattle.mq_hub.proofs.InvariantChanges.{kept_by}
use Rattle.mq_hub.proofs.CopyTargets.{copy_size}
use Rattle.mq_hub.proofs.EndReplies.{Stays, kept_replied}
use Rattle.mq_hub.proofs.PlacedCopies.{can_place, for_placeable, goes, heard_retained}
use Rattle.mq_hub.proofs.MissedCopies.{settled_as}

-- ---- messages that are placed for a connected client

publish_still : (m : Message) (e : End) → Stays e (publishes_next m e).end
publish_still m e = go m.qos (next_identifier e.last e.book)
  where
    go : (q : Qos) (i : ℕ) → Stays e (publishes_at q i m e).end
    go Q0 i = record { window = refl; known = refl; state = refl; clean = refl; keep_alive = refl; claims = refl }
    go Q1 i = record { window = refl; known = refl; state = refl; clean = refl; keep_alive = refl; claims = refl }
    go Q2 i = record { window = refl; known = refl; state = refl; clean = refl; keep_alive = refl; claims = refl }

one_placed : (config : HubConfig) (next key : ℕ) (t : HubTables) → HubInvariant config next t → (k : Conn) → up_on key t.connections.connections ≡ Some k → (s : BrokerSession) → session_at key t.sessions.list ≡ Some s
    → (m : Message) → HubInvariant config next (with_list (placed_at key m t.sessions.list) t)
one_placed config next key t kept k on s there m =
    subst (λ (ts : List BrokerSession). HubInvariant config next (with_list ts t)) (same_change (published m) key s t.sessions.list kept.ascending there)
    (kept_replied config next key s (published m s.end) t there kept k on (publishes_next m s.end.end) (record { end = refl; output = refl; capacity = refl; limit = refl }) (publish_still m s.end.end))

pub all_placed : (config : HubConfig) (next key : ℕ) (ms : List Message) (t : HubTables) → HubInvariant config next t → (k : Conn) → up_on key t.connections.connections ≡ Some k
    → (s : BrokerSession) → session_at key t.sessions.list ≡ Some s → HubInvariant config next (with_list (placed_all (for_key key ms) t.sessions.list) t)
all_placed config next key [] t kept k on s there = kept
all_placed config next key (m ∷ ms) t kept k on s there =
    all_placed config next key ms (with_list (placed_at key m t.sessions.list) t) (one_placed config next key t kept k on s there m) k on
    (record s { end = published m s.end }) (changed_own (published m) key s t.sessions.list there)

-- ---- retained messages may be sent by it

all_kept : (most : ℕ) (f : List ℕ) (ms : List Message) → AllByRecursion (IsWithin most) ms → AllByRecursion (IsWithin most) (filter (λ m. is_match f m.topic) ms)
all_kept most f [] all = tt
all_kept most f (m ∷ ms) all = go (is_match f m.topic) (all_kept most f ms all.1)
  where
    go : (b : Bool) → AllByRecursion (IsWithin most) (filter (λ m. is_match f m.topic) ms)
        → AllByRecursion (IsWithin most) (cond b (m ∷ filter (λ m. is_match f m.topic) ms) (filter (λ m. is_match f m.topic) ms))
    go true rest = (all.0, rest)
    go false rest = rest

all_copied : (most : ℕ) (q : Qos) (ms : List Message) → AllByRecursion (IsWithin most) ms → AllByRecursion (IsWithin most) (map (copy q true) ms)
all_copied most q [] all = tt
all_copied most q (m ∷ ms) all = let size = copy_size q true m in let fits = all.0 in (omega arith, all_copied most q ms all.1)

retained_within : (most : ℕ) (f : List ℕ) (q : Qos) (ms : List Message) → AllByRecursion (IsWithin most) ms → AllByRecursion (IsWithin most) (retained_for f q ms)
unfolding retained_for
retained_within most f q ms all = all_copied most q (filter (λ m. is_match f m.topic) ms) (all_kept most f ms all)

all_joined : (P : ℕ × Message → Type 0) (xs ys : List (ℕ × Message)) → AllByRecursion P xs → AllByRecursion P ys → AllByRecursion P (xs ++ ys)
all_joined P [] ys a b = b
all_joined P (x ∷ xs) ys a b = (a.0, all_joined P xs ys a.1 b)

to_key : (most key : ℕ) (ms : List Message) → AllByRecursion (IsWithin most) ms → AllByRecursion (λ c. IsWithin most c.1) (for_key key ms)
to_key most key [] all = tt
to_key most key (m ∷ ms) all = (all.0, to_key most key ms all.1)

of_key : (most key : ℕ) (ms : List Message) → AllByRecursion (λ c. IsWithin most c.1) (for_key key ms) → AllByRecursion (IsWithin most) ms
of_key most key [] all = tt
of_key most key (m ∷ ms) all = (all.0, of_key most key ms all.1)

all_within : (most key : ℕ) (rs : List Request) (ms : List Message) → AllByRecursion (IsWithin most) ms → AllByRecursion (λ c. IsWithin most c.1) (retained_copies key rs ms)
all_within most key [] ms all = tt
all_within most key (r ∷ rs) ms all =
    all_joined (λ c. IsWithin most c.1) (for_key key (retained_for r.filter r.qos ms)) (retained_copies key rs ms)
    (to_key most key (retained_for r.filter r.qos ms) (retained_within most r.filter r.qos ms all)) (all_within most key rs ms all)

pub due_retained : (config : HubConfig) (next : ℕ) (t : HubTables) → HubInvariant config next t → (key : ℕ) (k : Conn) → up_on key t.connections.connections ≡ Some k → (rs : List Request) (ms : List Message)
    → for_key key ms ≡ retained_copies key rs t.retained.messages → IsFor key ms t.sessions.list
due_retained config next t kept key k on rs ms due =
    let e = up_end config next t kept key k on in
    let all = of_key config.limits.most key ms
    (subst (λ (cs : List (ℕ × Message)). AllByRecursion (λ c. IsWithin config.limits.most c.1) cs) (sym due) (all_within config.limits.most key rs t.retained.messages kept.retained)) in
    record { session = e.session; there = e.there; may_go = go e.session (ap (λ (b : Bounds). b.most) e.limit) e.known (ap is_up e.state) ms all }
  where
    go : (s : BrokerSession) → s.end.limit.most ≡ config.limits.most → s.end.end.known ≡ true → is_up s.end.end.state ≡ true → (ms : List Message) → AllByRecursion (IsWithin config.limits.most) ms
        → AllByRecursion (λ m. MayGo m s.end) ms
    go s limit known up [] all = tt
    go s limit known up (m ∷ ms) all =
        (record { known = known; up = λ once. up; fits = subst (λ (n : ℕ). publish_size m ≤ n) (sym limit) all.0 }, go s limit known up ms all.1)

-- ---- SUBACK

granted_long : (rs : List Request) → length (granted rs) ≤ requests_size rs
granted_long [] = omega arith
granted_long (r ∷ rs) = let rest = granted_long rs in omega arith

pub granted_length : (rs : List Request) → length (granted rs) ≡ length rs
granted_length [] = refl
granted_length (r ∷ rs) = ap suc (granted_length rs)

-- and is within the room that is made for it
pub grants_fit : (i : ℕ) (codes : List SubAckCode) (n : ℕ) → length (fields (packets.SubAck i codes)) ≡ suback_size codes → length codes ≡ n
    → (e : End) → packets_size (reply_of (Grants i codes) e).out ≤ 7 + n
grants_fit i codes n long is e = omega (arith, long, is)

pub can_grant : (config : HubConfig) (next : ℕ) (t : HubTables) → HubInvariant config next t → (key : ℕ) (k : Conn) → up_on key t.connections.connections ≡ Some k → (i : ℕ) (rs : List Request)
    → subscribe_size rs ≤ config.limits.most → CanServe key (Grants i (granted rs)) t.sessions.list
can_grant config next t kept key k on i rs within =
    let e = up_end config next t kept key k on in
    let long = granted_long rs in
    let fits : suback_size (granted rs) ≤ config.limits.most = omega arith in
    record {
      session = e.session;
      there = e.there;
      up = ap is_up e.state;
      allowed = allowed_within e.session.end.limit.most (suback_size (granted rs)) e.session.end.end e.state (subst (λ (b : Bounds). suback_size (granted rs) ≤ b.most) (sym e.limit) fits);
    }

-- ---- the broker

module _ (config : HubConfig) (next key : ℕ) (t u : HubTables) (kept : HubInvariant config next t) (k : Conn) (on : up_on key t.connections.connections ≡ Some k) (i : ℕ) (rs : List Request)
    (rules : CopyRules) (says : List Act) (s : Subscribes key i rs rules t u says) where
  owned : AllByRecursion (λ r. HasSession t.sessions.list r.0.0) (with_rows key rs t.rows)
  owned = with_owned (HasSession t.sessions.list) key rs t.rows (stands_up config next t kept key k on) kept.owned

  kept_between : HubInvariant config next s.between
  kept_between =
      kept_answered config next key t s.between kept k on (Grants i (granted rs)) (with_rows key rs t.rows) owned s.answers
      (λ up. record { window = refl; known = refl; state = refl; clean = refl; keep_alive = refl; claims = refl })

  pub kept_subscribed : HubInvariant config next u
  kept_subscribed =
      let on_between = ap (λ (l : ConnectionList). up_on key l.connections) s.answers.connections ∙ on in
      let v : HubTables = with_list (placed_all (for_key key s.messages) s.between.sessions.list) s.between in
      kept_by config next v u (all_placed config next key s.messages s.between kept_between k on_between s.ready.session s.ready.there)
      s.rows (ap (λ (r : RetainedTable). r.messages) s.retained) s.list (ap (λ (l : ConnectionList). l.connections) s.connections) (ap (λ (l : ConnectionList). l.limits) s.connections)

  module _ (clock : ℕ) (did : List Act) where
    served_goes : Refines (λ w. does key (subacks i (granted rs)) (subscribed key rs w)) (hub_of config clock next t) did (hub_of config clock next s.between) (did ++ subscribed_acts key rs)
    served_goes =
        let h = hub_of config clock next t in
        goes_then (subscribed key rs) (does key (subacks i (granted rs))) h (record h { rows = with_rows key rs t.rows }) (hub_of config clock next s.between) did
        (did ++ subscribed_acts key rs) (did ++ subscribed_acts key rs) (goes_subscribed key rs h did)
        (answered_goes config next key t s.between kept k on (Grants i (granted rs)) (with_rows key rs t.rows) owned s.answers clock (did ++ subscribed_acts key rs))

    hub_placed : hub_of config clock next (with_list u.sessions.list s.between) ≡ hub_of config clock next u
    hub_placed =
        let rows = s.rows in
        let retained = s.retained in
        let connections = s.connections in
        λ i. record {
          config = config;
          clock = clock;
          next_key = next;
          rows = sym rows i;
          retained = (sym retained i).messages;
          sessions = sessions_of u.sessions.list;
          connections = all_seen u.sessions.list (sym connections i).connections;
        }

    placed_goes : rules_of config ≡ rules → Refines (enqueue_all (retained_copies key rs t.retained.messages)) (hub_of config clock next s.between) (did ++ subscribed_acts key rs)
        (hub_of config clock next u) ((did ++ subscribed_acts key rs) ++ says)
    placed_goes same =
        subst (λ (h : HubState). Refines (enqueue_all (retained_copies key rs t.retained.messages)) (hub_of config clock next s.between) (did ++ subscribed_acts key rs) h
        ((did ++ subscribed_acts key rs) ++ says)) hub_placed
        (goes config clock next s.between (did ++ subscribed_acts key rs) says (retained_copies key rs t.retained.messages) (for_key key s.messages)
        s.between.sessions.list u.sessions.list refl (can_place config next s.between kept_between)
        (heard_retained s.between.connections.connections key rs t.retained.messages
        (ap (λ (l : ConnectionList). is_some (up_on key l.connections)) s.answers.connections ∙ ap (λ (o : Option Conn). is_some o) on))
        (s.settles config next same kept_between)
        (for_placeable key s.messages 0 s.between.sessions.list s.ready) s.list)

    pub subscribed_goes : rules_of config ≡ rules → (conn : Conn) → Refines (answers conn key (happens.Subscribe i rs)) (hub_of config clock next t) did (hub_of config clock next u)
        ((did ++ subscribed_acts key rs) ++ says)
    unfolding answers
    subscribed_goes same_rules conn =
        let first = λ (w : Work). does key (subacks i (granted rs)) (subscribed key rs w) in
        let same : (w : Work) → w.hub ≡ hub_of config clock next t → retained_copies key rs w.hub.retained ≡ retained_copies key rs t.retained.messages =
        λ w at. ap (λ (h : HubState). retained_copies key rs h.retained) at in
        let q = served_goes in
        let p = placed_goes same_rules in record {
          hub = λ w at said. ap (λ (cs : List (ℕ × Message)). (enqueue_all cs (first w)).hub) (same w at) ∙ p.hub (first w) (q.hub w at said) (q.did w at said);
          did = λ w at said. ap (λ (cs : List (ℕ × Message)). (enqueue_all cs (first w)).did) (same w at) ∙ p.did (first w) (q.hub w at said) (q.did w at said);
        }

-- ---- the retained messages are settled before SUBACK is queued, and placed after it

granted_bytes : (old new : List ℕ) (i queued : ℕ) (codes : List SubAckCode) → new ≡ old ++ encodings (packets.SubAck i codes ∷ []) → length (fields (packets.SubAck i codes)) ≡ suback_size codes
    → queued ≡ encoded_size (2 + length codes) → length new ≡ queued + length old
granted_bytes old new i queued codes is long size =
    let all : length (encodings (packets.SubAck i codes ∷ [])) ≡ queued = frame_bytes (packets.SubAck i codes) ∙ ap encoded_size long ∙ sym size in
    let total = ap (λ (b : List ℕ). length b) is ∙ length-append old (encodings (packets.SubAck i codes ∷ [])) in
    omega (arith, all, total)

pub settles_served : (rules : CopyRules) (config : HubConfig) (key i queued : ℕ) (codes : List SubAckCode) (o : PacketOutcome) (ms : List Message) (s : SettledMessages) (ts ready us : List BrokerSession)
    (t : BrokerSession) → rules_of config ≡ rules → AreSameButRoom ts ready → session_at key ts ≡ Some t → ServesAt key (Grants i codes) (Ok o) ready us
    → ((u : BrokerSession) → session_at key us ≡ Some u → u.end.capacity ≡ config.capacity) → is_up t.end.end.state ≡ true → length (fields (packets.SubAck i codes)) ≡ suback_size codes
    → queued ≡ encoded_size (2 + length codes)
    → IsSettledAs rules queued key ts ms s → Settles config (λ k. 0) us (for_key key ms) (for_key key s.kept.items) s.acts.items
settles_served rules config key i queued codes o ms s ts ready us t is same there at cap up long size settled =
    let w = same_session key t ts ready same there in
    let own : w.0 ≡ at.session = some_same (sym w.1 ∙ at.there) in
    let u : BrokerSession = record at.session { end = at.end } in
    let after : session_at key us ≡ Some u = subst (λ (xs : List BrokerSession). session_at key xs ≡ Some u) (sym at.after) (changed_own (λ x. at.end) key at.session ready at.there) in
    let replies = at.serves.ok.replies in
    let roomless_own : roomless at.session ≡ roomless t = ap roomless (sym own) ∙ w.2 in
    let capacity : u.end.capacity ≡ t.end.capacity = replies.capacity ∙ ap (λ (x : BrokerSession). x.end.capacity) roomless_own in
    let book : u.end.end.book ≡ t.end.end.book = ap (λ (e : End). e.book) replies.end ∙ ap (λ (x : BrokerSession). x.end.end.book) roomless_own in
    let state : is_up u.end.end.state ≡ true = ap (λ (e : End). is_up e.state) replies.end ∙ ap (λ (x : BrokerSession). is_up x.end.end.state) roomless_own ∙ up in
    let output : length u.end.output ≡ queued + length t.end.output =
    granted_bytes at.session.end.output u.end.output i queued codes replies.output long size
    ∙ ap (λ (x : BrokerSession). queued + length x.end.output) roomless_own in
    let space : space_of rules 0 u.end ≡ space_of rules queued t.end =
    same_space rules queued u.end t.end capacity book output in
    settled_as rules config queued key ms s ts us t u is there after (cap u after) state space settled

-- ---- what the tables say of it, and what the broker is then

-- `true`, `false`, or a failed allocation
pub three : {A B X : Type 0} (r : Result Bool AllocError) → (r ≡ Ok true → A) → (r ≡ Ok false → B) → OnErr r B → (A → X) → (B → X) → X
three (Ok true) a b e f g = f (a refl)
three (Ok false) a b e f g = g (b refl)
three (Err x) a b e f g = g e

pub if_ok : {X : Type 0} {P Q : X → Type 0} (r : Result X AllocError) → ((x : X) → P x → Q x) → IfOk r P → IfOk r Q
if_ok (Ok x) f p = f x p
if_ok (Err e) f p = tt

all_capacity : (config : HubConfig) (xs : List HubConnection) (ts : List BrokerSession) → AllByRecursion (SessionMatchesConnection config xs) ts → AllByRecursion (λ t. t.end.capacity ≡ config.capacity) ts
all_capacity config xs [] all = tt
all_capacity config xs (t ∷ ts) all = (all.0.capacity, all_capacity config xs ts all.1)

pub has_sessions : (config : HubConfig) (clock next : ℕ) (t : HubTables) → HubInvariant config next t → HasSessions t.sessions.list (hub_of config clock next t)
has_sessions config clock next t kept = record { sessions = refl; capacity = all_capacity config t.connections.connections t.sessions.list kept.fitting }

pub err_bool : {A X : Type 0} (r : Result Bool AllocError) → OnErr r A → (A → X) → OnErr r X
err_bool (Ok x) a f = tt
err_bool (Err e) a f = f a

pub ok_at : {X : Type 0} (P : X → Type 0) {x : X} (r : Result X AllocError) → r ≡ Ok x → IfOk r P → P x
ok_at {X = X} P r is p = subst (λ (a : Result X AllocError). IfOk a P) is p
