-- A connection that waits for its CONNECT is closed, with pending output.
use Rattle.std.proofs.Common.{◌≡◌, ℕ, Bool, true, false, cond, List, [], ◌∷◌, ◌++◌, None, refl, sym, ap, ap₂, subst, ◌∙◌}
use Rattle.std.proofs.lemmas.Bool.{cond-true, cond-false, cond_both}
use Rattle.std.specs.List.{AllByRecursion}
use Rattle.mq_packet.specs.declared.connack.RefusalCode.{RefusalCode}
use Rattle.mq_packet.specs.declared.connack.ConnAck.TheVariants as connacks
use Rattle.mq_packet.specs.declared.packet.Packet.{Packet}
use Rattle.mq_packet.specs.declared.packet.Packet.TheVariants as packets
use Rattle.mq_packet.specs.Encoding.{encodings}
use Rattle.mq_end.specs.declared.reason.CloseReason.TheVariants as reasons
use Rattle.mq_route.specs.declared.act.Act.{Act}
use Rattle.mq_route.specs.declared.act.Act.TheVariants as acts
use Rattle.mq_route.specs.declared.close.HubClose.{HubClose}
use Rattle.mq_route.specs.declared.close.HubClose.TheVariants.{Own}
use Rattle.mq_route.specs.declared.config.HubConfig.{HubConfig}
use Rattle.mq_route.specs.declared.conn.Conn.{Conn}
use Rattle.mq_route.specs.declared.connection_state.ConnectionState.{ConnectionState}
use Rattle.mq_route.specs.declared.connection_state.ConnectionState.TheVariants.{AwaitingConnect, Closed}
use Rattle.mq_route.specs.Hub.{HubState, HubConnection, changed, is_connection, key_on, knows, stage_of, with_connection}
use Rattle.mq_route.specs.Routed.{same_conn}
use Rattle.mq_route.specs.Work.{close, put_on}
use Rattle.mq_tables.specs.declared.sessions.session.BrokerSession.{BrokerSession}
use Rattle.mq_tables.specs.Tables.{HubTables}
use Rattle.mq_tables.specs.Sessions.{sessions_of}
use Rattle.mq_tables.proofs.ConnectionTable.{unknown, unknown_shut}
use Rattle.mq_tables.proofs.ClosedConnection.{closed}
use Rattle.mq_tables.proofs.RefusedConnect.{changed_twice, filled}
use Rattle.mq_hub.specs.Inside.Refinement.{Refines}
use Rattle.mq_hub.specs.Inside.Invariant.{AreApart, HubInvariant, IsQuiet}
use Rattle.mq_hub.specs.Inside.View.{all_seen, hub_of, seen, waiting_by}
use Rattle.mq_hub.specs.Inside.ConnectChecks.{refused}
use Rattle.mq_hub.proofs.ConnectionChange.{rest_unknown}
use Rattle.mq_hub.proofs.Refinements.{goes_then, goes_to}
use Rattle.mq_hub.proofs.InvariantChanges.{all_fitting_same, apart_same, backed_same, kept_by, stage_same, up_same}
use Rattle.mq_hub.proofs.TableView.{knows_seen}
use Rattle.mq_hub.proofs.ClosedConnection.{goes_closed, kept_closed}

-- one that waits for its CONNECT is known
pub fresh_known : (k : Conn) (xs : List HubConnection) → stage_of k xs ≡ AwaitingConnect → knows k xs ≡ true
fresh_known k xs at = go (knows k xs) refl
  where
    go : (b : Bool) → knows k xs ≡ b → knows k xs ≡ true
    go true e = e
    go false e = let w : Closed ≡ AwaitingConnect = sym (unknown_shut k xs e) ∙ at in absurd cc

-- ---- a connection that waits for its CONNECT changes, and sessions that no other connection shows

module _ (k : Conn) (ts us : List BrokerSession) (Q : HubConnection → Type 0) (other : (x : HubConnection) → Q x → seen us x ≡ seen ts x) (f g : HubConnection → HubConnection)
    (here : (x : HubConnection) → x.stage ≡ AwaitingConnect → x.waiting ≡ [] → seen us (f x) ≡ g (seen ts x)) where
  seen_rest : (xs : List HubConnection) → AllByRecursion Q xs → all_seen us xs ≡ all_seen ts xs
  seen_rest [] all = refl
  seen_rest (x ∷ xs) all = ap₂ (λ (y : HubConnection) (ys : List HubConnection). y ∷ ys) (other x all.0) (seen_rest xs all.1)

  pub seen_fresh : (xs : List HubConnection) → AreApart xs → AllByRecursion (λ x. IsQuiet x.stage x.waiting) xs → AllByRecursion Q xs → stage_of k xs ≡ AwaitingConnect
      → all_seen us (with_connection f k xs) ≡ with_connection g k (all_seen ts xs)
  seen_fresh [] apart quiet all at = refl
  seen_fresh (x ∷ xs) apart quiet all at = go (is_connection k x) refl (seen_fresh xs apart.2 quiet.1 all.1)
    where
      go : (b : Bool) → is_connection k x ≡ b → (stage_of k xs ≡ AwaitingConnect → all_seen us (with_connection f k xs) ≡ with_connection g k (all_seen ts xs))
          → all_seen us (with_connection f k (x ∷ xs)) ≡ with_connection g k (all_seen ts (x ∷ xs))
      go true same rest =
          let fresh : x.stage ≡ AwaitingConnect = sym (cond-true (is_connection k x) x.stage (stage_of k xs) same) ∙ at in
          let empty : x.waiting ≡ [] = subst (λ (s : ConnectionState). IsQuiet s x.waiting) fresh quiet.0 in
          let none : knows k xs ≡ false = rest_unknown k x xs same apart.0 in
          ap₂ (λ (y : HubConnection) (ys : List HubConnection). y ∷ ys)
          (ap (seen us) (cond-true (is_connection k x) (f x) x same) ∙ here x fresh empty ∙ sym (cond-true (is_connection k x) (g (seen ts x)) (seen ts x) same))
          (ap (all_seen us) (unknown f k xs none) ∙ seen_rest xs all.1 ∙ sym (unknown g k (all_seen ts xs) (knows_seen k ts xs ∙ none)))
      go false differ rest =
          ap₂ (λ (y : HubConnection) (ys : List HubConnection). y ∷ ys)
          (ap (seen us) (cond-false (is_connection k x) (f x) x differ) ∙ other x all.0 ∙ sym (cond-false (is_connection k x) (g (seen ts x)) (seen ts x) differ))
          (rest (sym (cond-false (is_connection k x) x.stage (stage_of k xs) differ) ∙ at))

abbrev pub closed_with : List ℕ → HubConnection → HubConnection
closed_with b x = record x { stage = Closed; held = []; waiting = b }

abbrev pub grown : List ℕ → HubConnection → HubConnection
grown b x = record x { waiting = x.waiting ++ b }

module _ (k : Conn) (b : List ℕ) where
  filled_name : (x : HubConnection) → (changed (filled b) k x).conn ≡ x.conn
  filled_name x = cond_both (is_connection k x) (filled b x) x (λ (y : HubConnection). y.conn ≡ x.conn) (λ e. refl) (λ e. refl)

  filled_stage : (x : HubConnection) → (changed (filled b) k x).stage ≡ x.stage
  filled_stage x = cond_both (is_connection k x) (filled b x) x (λ (y : HubConnection). y.stage ≡ x.stage) (λ e. refl) (λ e. refl)

  grown_name : (x : HubConnection) → (changed (grown b) k x).conn ≡ x.conn
  grown_name x = cond_both (is_connection k x) (grown b x) x (λ (y : HubConnection). y.conn ≡ x.conn) (λ e. refl) (λ e. refl)

  grown_stage : (x : HubConnection) → (changed (grown b) k x).stage ≡ x.stage
  grown_stage x = cond_both (is_connection k x) (grown b x) x (λ (y : HubConnection). y.stage ≡ x.stage) (λ e. refl) (λ e. refl)

  stage_grown : (xs : List HubConnection) → stage_of k (with_connection (grown b) k xs) ≡ stage_of k xs
  stage_grown [] = refl
  stage_grown (x ∷ xs) = λ i. cond (same_conn (grown_name x i) k) (grown_stage x i) (stage_grown xs i)

  quiet_closed_with : (xs : List HubConnection) → AllByRecursion (λ y. IsQuiet y.stage y.waiting) xs → AllByRecursion (λ y. IsQuiet y.stage y.waiting) (with_connection (closed_with b) k xs)
  quiet_closed_with [] all = tt
  quiet_closed_with (x ∷ xs) all =
      (cond_both (is_connection k x) (closed_with b x) x (λ (y : HubConnection). IsQuiet y.stage y.waiting) (λ e. tt) (λ e. all.0), quiet_closed_with xs all.1)

  module _ (config : HubConfig) (next : ℕ) (t u : HubTables) (kept : HubInvariant config next t) (rows : u.rows ≡ t.rows) (retained : u.retained.messages ≡ t.retained.messages)
      (list : u.sessions.list ≡ t.sessions.list) (connections : u.connections.connections ≡ with_connection (closed_with b) k t.connections.connections) where
    pub kept_closed_with : key_on (stage_of k t.connections.connections) ≡ None → u.connections.limits ≡ t.connections.limits → HubInvariant config next u
    kept_closed_with idle limits =
        let ts = t.sessions.list in
        let xs = t.connections.connections in
        let ys = with_connection closed k xs in
        let c : HubTables = record t { connections = record t.connections { connections = ys } } in
        let kc : HubInvariant config next c = kept_closed k config next t c kept idle refl refl refl refl refl in
        let zs = with_connection (filled b) k ys in
        let is : with_connection (closed_with b) k xs ≡ zs = sym (changed_twice k closed (filled b) (λ x. refl) xs) in
        let v : HubTables = record t { connections = record t.connections { connections = zs } } in
        let kv : HubInvariant config next v = record {
          capacity = kept.capacity;
          window = kept.window;
          limits = kept.limits;
          apart = apart_same (changed (filled b) k) filled_name filled_stage ys kc.apart;
          quiet = subst (λ (ls : List HubConnection). AllByRecursion (λ y. IsQuiet y.stage y.waiting) ls) is (quiet_closed_with xs kept.quiet);
          backed = backed_same (changed (filled b) k) filled_stage config.limits.most ts ys kc.backed;
          fitting =
              all_fitting_same config ys zs (λ key. up_same (changed (filled b) k) filled_name filled_stage key ys) (λ key. stage_same (changed (filled b) k) filled_stage key ys) ts kc.fitting;
          ascending = kept.ascending;
          below = kept.below;
          next = kept.next;
          owned = kept.owned;
          retained = kept.retained;
        } in
        kept_by config next v u kv rows retained list (connections ∙ is) limits

    pub hub_closed_with : (clock : ℕ) → stage_of k t.connections.connections ≡ AwaitingConnect
        → hub_of config clock next u ≡ record (hub_of config clock next t) { connections = with_connection closed k (with_connection (grown b) k (hub_of config clock next t).connections) }
    hub_closed_with clock at =
        let ts = t.sessions.list in
        let xs = t.connections.connections in
        let here : (x : HubConnection) → x.stage ≡ AwaitingConnect → x.waiting ≡ [] → seen ts (closed_with b x) ≡ closed (grown b (seen ts x)) =
        λ x fresh empty. λ i. record (closed_with b x) { waiting = waiting_by (sym fresh i) ts (sym empty i) ++ b } in
        let waits : all_seen u.sessions.list u.connections.connections ≡ with_connection closed k (with_connection (grown b) k (all_seen ts xs)) =
        (λ i. all_seen (list i) (connections i))
        ∙ seen_fresh k ts ts (λ x. Unit {0}) (λ x q. refl) (closed_with b) (λ x. closed (grown b x)) here xs kept.apart kept.quiet (all_unit xs) at
        ∙ sym (changed_twice k (grown b) closed (λ x. refl) (all_seen ts xs)) in
        λ i. record {
          config = config;
          clock = clock;
          next_key = next;
          rows = rows i;
          retained = retained i;
          sessions = sessions_of (list i);
          connections = waits i;
        }
      where
        all_unit : (ys : List HubConnection) → AllByRecursion (λ x. Unit {0}) ys
        all_unit [] = tt
        all_unit (y ∷ ys) = (tt, all_unit ys)

-- ---- the change of the definition

pub goes_put : (k : Conn) (ps : List Packet) (h : HubState) (did : List Act) → Refines (put_on k ps) h did (record h { connections = with_connection (grown (encodings ps)) k h.connections }) did
unfolding put_on
goes_put k ps h did =
    goes_to (put_on k ps) h (record h { connections = with_connection (grown (encodings ps)) k h.connections }) did
    (λ w e. ap (λ (s : HubState). record s { connections = with_connection (grown (encodings ps)) k s.connections }) e) (λ w. refl)

pub goes_refused : (k : Conn) (code : RefusalCode) (fits : Bool) (h g : HubState) (did says : List Act) (b : List ℕ) → b ≡ encodings (packets.ConnAck (connacks.Refused code) ∷ [])
    → stage_of k h.connections ≡ AwaitingConnect → g ≡ record h { connections = with_connection closed k (with_connection (grown b) k h.connections) } → says ≡ did ++ acts.Closed k (Own (reasons.Refused code)) ∷ []
    → Refines (refused k code fits) h did g says
goes_refused k code fits h g did says b bytes at is said =
    let ps : List Packet = packets.ConnAck (connacks.Refused code) ∷ [] in
    let why : HubClose = Own (reasons.Refused code) in
    let m : HubState = record h { connections = with_connection (grown (encodings ps)) k h.connections } in
    let idle : key_on (stage_of k m.connections) ≡ None = ap key_on (stage_grown k (encodings ps) h.connections ∙ at) in
    let after : g ≡ record m { connections = with_connection closed k m.connections } = is ∙ ap (λ (c : List ℕ). record h { connections = with_connection closed k (with_connection (grown c) k h.connections) }) bytes in
    goes_then (put_on k ps) (close k why fits) h m g did did says (goes_put k ps h did) (goes_closed k why fits m g did says idle after said)
