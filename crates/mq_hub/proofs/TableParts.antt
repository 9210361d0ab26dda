-- Parts of a step on the tables that keep reserved room.
use Rattle.std.proofs.Common.{◌≡◌, ℕ, ◌≤◌, Bool, true, false, cond, List, [], ◌∷◌, ◌++◌, Option, Some, None, Result, Ok, Err, IfOk, refl, sym, ap, subst, ◌∙◌, arith, eqb}
use Rattle.std.proofs.lemmas.Bool.{cond-true, cond-false, cond_both}
use Rattle.std.specs.Option.{IfSome}
use Rattle.std.specs.Str.{bytes_eq}
use Rattle.mq_topic.specs.Rows.{without_client}
use Rattle.mq_packet.specs.declared.connect.Will.{Will}
use Rattle.mq_packet.specs.declared.message.Message.{Message}
use Rattle.mq_end.specs.Sizes.{publish_size}
use Rattle.mq_route.specs.declared.act.Act.{Act}
use Rattle.mq_route.specs.declared.act.Act.TheVariants as acts
use Rattle.mq_route.specs.declared.close.HubClose.{HubClose}
use Rattle.mq_route.specs.declared.config.HubConfig.{HubConfig}
use Rattle.mq_route.specs.declared.conn.Conn.{Conn}
use Rattle.mq_route.specs.declared.connection_state.ConnectionState.{ConnectionState}
use Rattle.mq_route.specs.declared.connection_state.ConnectionState.TheVariants.{AwaitingConnect}
use Rattle.mq_route.specs.Hub.{HubState, HubConnection, is_clean, is_connection, key_of, key_on, stage_of, up_on, with_connection}
use Rattle.mq_route.specs.Routed.{same_conn}
use Rattle.mq_route.specs.Work.{Work, last_will, shut_down}
use Rattle.mq_tables.specs.declared.rules.CopyRules.{CopyRules}
use Rattle.mq_tables.specs.declared.connections.table.ConnectionLimits.{ConnectionLimits}
use Rattle.mq_tables.specs.declared.sessions.session.BrokerSession.{BrokerSession}
use Rattle.mq_tables.specs.Connections.{left_with}
use Rattle.mq_tables.specs.Connecting.{parted}
use Rattle.mq_tables.specs.Publishing.{placed_at, published, publishing}
use Rattle.mq_tables.specs.Tables.{HubTables}
use Rattle.mq_tables.specs.Sessions.{sessions_of, session_at, without_key}
use Rattle.mq_tables.specs.Rules.{rules_of}
use Rattle.mq_tables.proofs.ConnectionTable.{one_conn}
use Rattle.mq_tables.proofs.LostConnection.{IsParted, IsPartedBy, parted_there}
use Rattle.mq_tables.proofs.ClientClose.{lines_there}
use Rattle.mq_tables.proofs.SessionRoom.{same_sessions}
use Rattle.mq_tables.proofs.SessionLemmas.{named_with}
use Rattle.mq_hub.specs.Inside.Refinement.{Refines}
use Rattle.mq_hub.specs.Inside.Invariant.{HubInvariant, IsWillWithin}
use Rattle.mq_hub.specs.Inside.Close.{parts, will_left}
use Rattle.mq_hub.specs.Inside.Placement.{placed_all}
use Rattle.mq_hub.specs.Inside.TableSteps.{AreHubTables, Proceeds, Spares}
use Rattle.mq_hub.specs.Inside.View.{hub_of}
use Rattle.mq_hub.specs.Inside.DeliveryPlan.{AreTablesAlike}
use Rattle.mq_hub.proofs.ConnectionChange.{stage_seen}
use Rattle.mq_hub.proofs.TakenOutput.{IsUpFor, backed_at, is_up_for}
use Rattle.mq_hub.proofs.ClientClose.{goes_close, goes_left, goes_parted, hub_left, hub_parted, kept_left, kept_parted, up_left, will_within}
use Rattle.mq_hub.proofs.DeliveryInvariant.{kept_alike}

-- ---- answers

-- a fact of a result, reworded
pub ok_as : {X E : Type 0} (P Q : X → Type 0) (r : Result X E) → ((x : X) → P x → Q x) → IfOk r P → IfOk r Q
ok_as P Q (Ok x) f p = f x p
ok_as P Q (Err e) f p = tt

-- ---- a connection that is closed, and another

module _ (f : HubConnection → HubConnection) (names : (x : HubConnection) → (f x).conn ≡ x.conn) (j k : Conn) (far : same_conn k j ≡ false) where
  pub stage_other : (xs : List HubConnection) → stage_of j (with_connection f k xs) ≡ stage_of j xs
  stage_other [] = refl
  stage_other (x ∷ xs) = go (is_connection k x) refl (stage_other xs)
    where
      go : (b : Bool) → is_connection k x ≡ b → stage_of j (with_connection f k xs) ≡ stage_of j xs → stage_of j (with_connection f k (x ∷ xs)) ≡ stage_of j (x ∷ xs)
      go true same rest =
          let other : is_connection j x ≡ false = ap (λ (n : Conn). same_conn n j) (one_conn x.conn k same) ∙ far in
          ap (λ (y : HubConnection). stage_of j (y ∷ with_connection f k xs)) (cond-true (is_connection k x) (f x) x same)
          ∙ cond-false (is_connection j (f x)) (f x).stage (stage_of j (with_connection f k xs)) (ap (λ (n : Conn). same_conn n j) (names x) ∙ other)
          ∙ rest ∙ sym (cond-false (is_connection j x) x.stage (stage_of j xs) other)
      go false differ rest =
          ap (λ (y : HubConnection). stage_of j (y ∷ with_connection f k xs)) (cond-false (is_connection k x) (f x) x differ)
          ∙ ap (λ (s : ConnectionState). cond (is_connection j x) x.stage s) rest

-- a connected connection does not wait for its CONNECT
fresh_far : (j k : Conn) (key : ℕ) (xs : List HubConnection) → key_on (stage_of k xs) ≡ Some key → stage_of j xs ≡ AwaitingConnect → same_conn k j ≡ false
fresh_far j k key xs up first = go (same_conn k j) refl
  where
    go : (b : Bool) → same_conn k j ≡ b → same_conn k j ≡ false
    go false e = e
    go true e =
        let w : None ≡ Some key = ap key_on (sym first) ∙ ap (λ (n : Conn). key_on (stage_of n xs)) (sym (one_conn k j e)) ∙ up in
        absurd cc

fresh_left : (j k : Conn) (key : ℕ) (b : List ℕ) (xs ys : List HubConnection) → key_on (stage_of k xs) ≡ Some key → ys ≡ with_connection (left_with b) k xs
    → stage_of j xs ≡ AwaitingConnect → stage_of j ys ≡ AwaitingConnect
fresh_left j k key b xs ys up is first = ap (stage_of j) is ∙ stage_other (left_with b) (λ x. refl) j k (fresh_far j k key xs up first) xs ∙ first

-- ---- clients of sessions

named_placed : (n : List ℕ) (key : ℕ) (m : Message) (ts : List BrokerSession) → key_of n (sessions_of (placed_at key m ts)) ≡ key_of n (sessions_of ts)
named_placed n key m [] = refl
named_placed n key m (t ∷ ts) = λ i. cond (bytes_eq (client i) n) (Some (own i)) (named_placed n key m ts i)
  where
    client : (publishing key m t).client ≡ t.client
    client = cond_both (eqb t.key key) (record t { end = published m t.end }) t (λ (s : BrokerSession). s.client ≡ t.client) (λ e. refl) (λ e. refl)

    own : (publishing key m t).key ≡ t.key
    own = cond_both (eqb t.key key) (record t { end = published m t.end }) t (λ (s : BrokerSession). s.key ≡ t.key) (λ e. refl) (λ e. refl)

named_placed_all : (n : List ℕ) (cs : List (ℕ × Message)) (ts : List BrokerSession) → key_of n (sessions_of (placed_all cs ts)) ≡ key_of n (sessions_of ts)
named_placed_all n [] ts = refl
named_placed_all n (c ∷ cs) ts = named_placed_all n cs (placed_at c.0 c.1 ts) ∙ named_placed n c.0 c.1 ts

-- ---- a message is delivered

pub alike_same : (t : HubTables) → AreTablesAlike t t
alike_same t = record { rows = refl; retained = refl; list = refl; connections = refl }

pub spares_alike : (t u : HubTables) → AreTablesAlike t u → u.sessions.room ≡ t.sessions.room → Spares t u
spares_alike t u alike room = record {
  keeps = λ config next kept. kept_alike config next t u alike kept;
  connections = alike.connections;
  room = omega arith;
  clients = λ n. ap (key_of n) (same_sessions t.sessions.list u.sessions.list alike.list);
}

-- a size is within the limit that a broker has
pub within_limit : (config : HubConfig) (next n : ℕ) (t : HubTables) → HubInvariant config next t → n ≤ t.connections.limits.packets.most → n ≤ config.limits.most
within_limit config next n t kept within = subst (λ (l : ConnectionLimits). n ≤ l.packets.most) kept.limits within

-- room is made in the tables, and then a message is delivered
pub spares_shared : (m : Message) (cs : List (ℕ × Message)) (t p u : HubTables) → AreTablesAlike t p → p.sessions.room ≡ t.sessions.room
    → publish_size m ≤ t.connections.limits.packets.most
    → ((config : HubConfig) (next : ℕ) → HubInvariant config next p → publish_size m ≤ config.limits.most → HubInvariant config next u)
    → u.sessions.list ≡ placed_all cs p.sessions.list → u.sessions.room ≡ p.sessions.room → u.connections ≡ p.connections → Spares t u
spares_shared m cs t p u alike room within keeps list after connections = record {
  keeps = λ config next kept. keeps config next (kept_alike config next t p alike kept) (within_limit config next (publish_size m) t kept within);
  connections = connections ∙ alike.connections;
  room = omega arith;
  clients = λ n.
      ap (λ (ts : List BrokerSession). key_of n (sessions_of ts)) list ∙ named_placed_all n cs p.sessions.list
      ∙ ap (key_of n) (same_sessions t.sessions.list p.sessions.list alike.list);
}

pub spares_none : (t : HubTables) → Spares t t
spares_none t = record { keeps = λ config next kept. kept; connections = refl; room = omega arith; clients = λ n. refl }

-- ---- a connected connection is closed

-- the close on the tables, before the will
module _ (k : Conn) (why : HubClose) (key : ℕ) (t v : HubTables) (hubs : AreHubTables t) (up : key_on (stage_of k t.connections.connections) ≡ Some key)
    (list : IsPartedBy key t.sessions.list v.sessions.list)
    (connections : IfSome (session_at key t.sessions.list) (λ s. v.connections.connections ≡ with_connection (left_with s.end.output) k t.connections.connections))
    (limits : v.connections.limits ≡ t.connections.limits) (room : v.sessions.room ≡ t.sessions.room) (up_room : t.connections.up_room ≤ v.connections.up_room)
    (rest : v ≡ record t { sessions = v.sessions; connections = v.connections }) where
  at : IsUpFor key (stage_of k t.connections.connections)
  at = is_up_for key (stage_of k t.connections.connections) up

  detach : IsParted key t.sessions.list v.sessions.list
  detach =
      parted_there key t.sessions.list v.sessions.list
      (backed_at hubs.config.limits.most k key t.sessions.list t.connections.connections hubs.keeps.backed up) list

  left : v.connections.connections ≡ with_connection (left_with detach.session.end.output) k t.connections.connections
  left = lines_there k key detach.session t.sessions.list t.connections.connections v.connections.connections detach.there connections

  pub up_none : up_on key v.connections.connections ≡ None
  up_none = ap (up_on key) left ∙ up_left k key at.terms at.last_activity detach.session.end.output t.connections.connections hubs.keeps.apart at.is

  pub clients_parted : (n : List ℕ) → key_of n (sessions_of v.sessions.list) ≡ key_of n (sessions_of t.sessions.list)
  clients_parted n =
      ap (λ (ts : List BrokerSession). key_of n (sessions_of ts)) detach.after ∙ named_with n key (parted detach.session.end) t.sessions.list

  pub proceeds_parted : (rules : CopyRules) (did says : List Act) → is_clean (stage_of k t.connections.connections) ≡ false → says ≡ did ++ acts.Closed k why ∷ []
      → Proceeds rules (λ fits. parts k why key false) t did v says
  proceeds_parted rules did says lasts said =
      let clean = ap is_clean (sym at.is) ∙ lasts in
      let rows = ap (λ (a : HubTables). a.rows) rest in
      let retained = ap (λ (a : HubTables). a.retained.messages) rest in
      record {
        goes = λ config clock next kept same. (
          true,
          goes_parted k why key (hub_of config clock next t) (hub_of config clock next v) did says
              (hub_parted config next k key at.terms at.last_activity detach.session t v kept at.is detach.there retained left clean rows detach.after clock) said,
        );
        keeps = λ config next kept. kept_parted config next k key at.terms at.last_activity detach.session t v kept at.is detach.there retained left clean rows detach.after limits;
        room = omega arith;
        up_room = up_room;
        fresh = λ j first. fresh_left j k key detach.session.end.output t.connections.connections v.connections.connections up left first;
      }

  -- and its session ends
  pub proceeds_left : (rules : CopyRules) (u : HubTables) (did says : List Act) → u.rows ≡ without_client key v.rows → u.sessions.list ≡ without_key key v.sessions.list
      → v.sessions.room ≤ u.sessions.room → u ≡ record v { rows = u.rows; sessions = u.sessions }
      → says ≡ (did ++ acts.Closed k why ∷ []) ++ acts.Removed key ∷ [] → Proceeds rules (λ fits. parts k why key true) t did u says
  proceeds_left rules u did says gone without more after said =
      let rows = gone ∙ ap (λ (a : HubTables). without_client key a.rows) rest in
      let retained = ap (λ (a : HubTables). a.retained.messages) after ∙ ap (λ (a : HubTables). a.retained.messages) rest in
      let ts = without ∙ ap (without_key key) detach.after in
      let ys = ap (λ (a : HubTables). a.connections.connections) after ∙ left in
      record {
        goes = λ config clock next kept same. (
          true,
          goes_left k why key (hub_of config clock next t) (hub_of config clock next u) did says
              (hub_left config next k key at.terms at.last_activity detach.session t u kept at.is detach.there retained ys rows ts clock) said,
        );
        keeps = λ config next kept.
            kept_left config next k key at.terms at.last_activity detach.session t u kept at.is detach.there retained ys rows ts
            (ap (λ (a : HubTables). a.connections.limits) after ∙ limits);
        room = omega arith;
        up_room = subst (λ (a : HubTables). t.connections.up_room ≤ a.connections.up_room) (sym after) up_room;
        fresh = λ j first. fresh_left j k key detach.session.end.output t.connections.connections u.connections.connections up ys first;
      }

-- and then its will is published
pub proceeds_closed : (rules : CopyRules) (k : Conn) (why : HubClose) (key : ℕ) (will : Option Will) (t v u : HubTables) (did mid says : List Act)
    → key_on (stage_of k t.connections.connections) ≡ Some key
    → will ≡ will_left why (stage_of k t.connections.connections) → Proceeds rules (λ fits. parts k why key (is_clean (stage_of k t.connections.connections))) t did v mid
    → ((config : HubConfig) (clock next : ℕ) → HubInvariant config next v → rules_of config ≡ rules
    → (fits : Bool) × Refines (last_will key will fits) (hub_of config clock next v) mid (hub_of config clock next u) says)
    → Spares v u → Proceeds rules (shut_down k why) t did u says
proceeds_closed rules k why key will t v u did mid says up is first last spares =
    let ts = t.sessions.list in
    let xs = t.connections.connections in
    let seen = sym (stage_seen k ts xs) in
    record {
      goes = λ config clock next kept same.
          let h : HubState = hub_of config clock next t in
          let g : HubState = hub_of config clock next v in
          let p = first.goes config clock next kept same in
          let q = last config clock next (first.keeps config next kept) same in (
            q.0,
            goes_close k why q.0 key h (hub_of config clock next u) did says will g mid (ap key_on (sym seen) ∙ up) (is ∙ ap (will_left why) seen)
                (subst (λ (s : ConnectionState). Refines (parts k why key (is_clean s)) h did g mid) seen p.1) q.1,
          );
      keeps = λ config next kept. spares.keeps config next (first.keeps config next kept);
      room = let a = first.room in let b = spares.room in omega arith;
      up_room = subst (λ (n : ℕ). t.connections.up_room ≤ n) (sym (ap (λ l. l.up_room) spares.connections)) first.up_room;
      fresh = λ j f. ap (λ l. stage_of j l.connections) spares.connections ∙ first.fresh j f;
    }

-- the tables after a part of the step are those of a broker, too
pub hubs_after : (rules : CopyRules) (change : Bool → Work → Work) (t v : HubTables) (did says : List Act) → AreHubTables t → Proceeds rules change t did v says → AreHubTables v
hubs_after rules change t v did says hubs p = record { config = hubs.config; next_key = hubs.next_key; keeps = p.keeps hubs.config hubs.next_key hubs.keeps }

-- and the will that is left is within their limit
pub will_after_close : (rules : CopyRules) (change : Bool → Work → Work) (k : Conn) (why : HubClose) (will : Option Will) (t v : HubTables) (did says : List Act) → AreHubTables t
    → Proceeds rules change t did v says → will ≡ will_left why (stage_of k t.connections.connections) → IsWillWithin v.connections.limits.packets.most will
will_after_close rules change k why will t v did says hubs p is =
    let kept = hubs.keeps in
    let within = will_within hubs.config.limits.most why k t.sessions.list t.connections.connections kept.backed in
    subst (λ (l : ConnectionLimits). IsWillWithin l.packets.most will) (sym (p.keeps hubs.config hubs.next_key kept).limits)
    (subst (IsWillWithin hubs.config.limits.most) (sym is) within)
