-- A connection without client is closed.
use Rattle.std.proofs.Common.{◌≡◌, ℕ, Bool, true, false, cond, List, [], ◌∷◌, ◌++◌, Some, None, refl, sym, ap, ap₂, subst, ◌∙◌, true≢false}
use Rattle.std.proofs.lemmas.Bool.{cond-true, cond-false, cond_both}
use Rattle.std.specs.List.{AllByRecursion}
use Rattle.mq_route.specs.declared.act.Act.{Act}
use Rattle.mq_route.specs.declared.act.Act.TheVariants as acts
use Rattle.mq_route.specs.declared.close.HubClose.{HubClose}
use Rattle.mq_route.specs.declared.config.HubConfig.{HubConfig}
use Rattle.mq_route.specs.declared.conn.Conn.{Conn}
use Rattle.mq_route.specs.declared.connection_state.ConnectionState.{ConnectionState}
use Rattle.mq_route.specs.declared.connection_state.ConnectionState.TheVariants.{AwaitingConnect, ConnectedAs, Closed}
use Rattle.mq_route.specs.Hub.{HubState, HubConnection, is_for, is_connection, key_on, stage_of, up_on, with_connection, stage_for}
use Rattle.mq_route.specs.Work.{Work, close, leaves_behind, said, shut, shut_down}
use Rattle.mq_tables.specs.declared.sessions.session.BrokerSession.{BrokerSession}
use Rattle.mq_tables.specs.Tables.{HubTables}
use Rattle.mq_tables.specs.Sessions.{sessions_of}
use Rattle.mq_tables.proofs.ConnectionTable.{unknown}
use Rattle.mq_tables.proofs.ClosedConnection.{closed, known_closed}
use Rattle.mq_hub.specs.Inside.Refinement.{Refines}
use Rattle.mq_hub.specs.Inside.Invariant.{AreApart, HubInvariant, ConnectionHasSession, IsQuiet}
use Rattle.mq_hub.specs.Inside.View.{all_seen, hub_of, seen}
use Rattle.mq_hub.proofs.ConnectionChange.{own_bytes, rest_unknown, seen_still}
use Rattle.mq_hub.proofs.DisconnectTimes.{idle_close}
use Rattle.mq_hub.proofs.InvariantChanges.{all_fitting_same, kept_by}

-- it is connected for no client
pub not_up : (s : ConnectionState) (c : ℕ) → key_on s ≡ None → is_for c s ≡ false
not_up AwaitingConnect c e = refl
not_up (ConnectedAs key terms last_activity) c e = absurd cc
not_up Closed c e = refl

module _ (k : Conn) where
  -- look-ups by a client are unchanged
  module _ {X : Type 0} (c : ℕ) (p : HubConnection → X) (g : List HubConnection → X) (step : (x : HubConnection) (xs : List HubConnection) → g (x ∷ xs) ≡ cond (is_for c x.stage) (p x) (g xs)) where
    found_closed : (xs : List HubConnection) → AreApart xs → key_on (stage_of k xs) ≡ None → g (with_connection closed k xs) ≡ g xs
    found_closed [] apart idle = refl
    found_closed (x ∷ xs) apart idle = go (is_connection k x) refl (found_closed xs apart.2)
      where
        go : (b : Bool) → is_connection k x ≡ b → (key_on (stage_of k xs) ≡ None → g (with_connection closed k xs) ≡ g xs) → g (with_connection closed k (x ∷ xs)) ≡ g (x ∷ xs)
        go true same rest =
            let down : is_for c x.stage ≡ false = not_up x.stage c (ap key_on (sym (cond-true (is_connection k x) x.stage (stage_of k xs) same)) ∙ idle) in
            ap (λ (y : HubConnection). g (y ∷ with_connection closed k xs)) (cond-true (is_connection k x) (closed x) x same)
            ∙ ap (λ (ys : List HubConnection). g (closed x ∷ ys)) (unknown closed k xs (rest_unknown k x xs same apart.0))
            ∙ step (closed x) xs
            ∙ sym (cond-false (is_for c x.stage) (p x) (g xs) down) ∙ sym (step x xs)
        go false differ rest =
            ap (λ (y : HubConnection). g (y ∷ with_connection closed k xs)) (cond-false (is_connection k x) (closed x) x differ)
            ∙ step x (with_connection closed k xs)
            ∙ ap (λ (v : X). cond (is_for c x.stage) (p x) v) (rest (ap key_on (sym (cond-false (is_connection k x) x.stage (stage_of k xs) differ)) ∙ idle))
            ∙ sym (step x xs)

  pub up_closed : (c : ℕ) (xs : List HubConnection) → AreApart xs → key_on (stage_of k xs) ≡ None → up_on c (with_connection closed k xs) ≡ up_on c xs
  up_closed c = found_closed c (λ (x : HubConnection). Some x.conn) (up_on c) (λ x xs. refl)

  pub stage_closed : (c : ℕ) (xs : List HubConnection) → AreApart xs → key_on (stage_of k xs) ≡ None → stage_for c (with_connection closed k xs) ≡ stage_for c xs
  stage_closed c = found_closed c (λ (x : HubConnection). x.stage) (stage_for c) (λ x xs. refl)

  backed_closed : (most : ℕ) (ts : List BrokerSession) (xs : List HubConnection) → AllByRecursion (λ y. ConnectionHasSession most ts y.stage) xs → AllByRecursion (λ y. ConnectionHasSession most ts y.stage) (with_connection closed k xs)
  backed_closed most ts [] all = tt
  backed_closed most ts (x ∷ xs) all =
      (cond_both (is_connection k x) (closed x) x (λ (y : HubConnection). ConnectionHasSession most ts y.stage) (λ e. tt) (λ e. all.0), backed_closed most ts xs all.1)

  quiet_closed : (xs : List HubConnection) → AllByRecursion (λ y. IsQuiet y.stage y.waiting) xs → AllByRecursion (λ y. IsQuiet y.stage y.waiting) (with_connection closed k xs)
  quiet_closed [] all = tt
  quiet_closed (x ∷ xs) all =
      (cond_both (is_connection k x) (closed x) x (λ (y : HubConnection). IsQuiet y.stage y.waiting) (λ e. tt) (λ e. all.0), quiet_closed xs all.1)

  apart_closed : (xs : List HubConnection) → AreApart xs → key_on (stage_of k xs) ≡ None → AreApart (with_connection closed k xs)
  apart_closed [] apart idle = tt
  apart_closed (x ∷ xs) apart idle = go (is_connection k x) refl (apart_closed xs apart.2)
    where
      go : (b : Bool) → is_connection k x ≡ b → (key_on (stage_of k xs) ≡ None → AreApart (with_connection closed k xs)) → AreApart (with_connection closed k (x ∷ xs))
      go true same rest =
          subst AreApart (sym (ap₂ (λ (y : HubConnection) (ys : List HubConnection). y ∷ ys) (cond-true (is_connection k x) (closed x) x same) (unknown closed k xs (rest_unknown k x xs same apart.0))))
          (apart.0, λ key e. absurd (true≢false (sym e)), apart.2)
      go false differ rest =
          let later : key_on (stage_of k xs) ≡ None = ap key_on (sym (cond-false (is_connection k x) x.stage (stage_of k xs) differ)) ∙ idle in
          subst (λ (y : HubConnection). AreApart (y ∷ with_connection closed k xs)) (sym (cond-false (is_connection k x) (closed x) x differ))
          (known_closed k x.conn xs ∙ apart.0, λ key e. up_closed key xs apart.2 later ∙ apart.1 key e, rest later)

  module _ (config : HubConfig) (next : ℕ) (t u : HubTables) (kept : HubInvariant config next t) (idle : key_on (stage_of k t.connections.connections) ≡ None) (rows : u.rows ≡ t.rows)
      (retained : u.retained.messages ≡ t.retained.messages) (list : u.sessions.list ≡ t.sessions.list) (connections : u.connections.connections ≡ with_connection closed k t.connections.connections) where
    pub kept_closed : u.connections.limits ≡ t.connections.limits → HubInvariant config next u
    kept_closed limits =
        let ts = t.sessions.list in
        let xs = t.connections.connections in
        let ys = with_connection closed k xs in
        let v : HubTables = record t { connections = record t.connections { connections = ys } } in
        let w : HubInvariant config next v = record {
          capacity = kept.capacity;
          window = kept.window;
          limits = kept.limits;
          apart = apart_closed xs kept.apart idle;
          quiet = quiet_closed xs kept.quiet;
          backed = backed_closed config.limits.most ts xs kept.backed;
          fitting = all_fitting_same config xs ys (λ c. up_closed c xs kept.apart idle) (λ c. stage_closed c xs kept.apart idle) ts kept.fitting;
          ascending = kept.ascending;
          below = kept.below;
          next = kept.next;
          owned = kept.owned;
          retained = kept.retained;
        } in
        kept_by config next v u w rows retained list connections limits

    pub hub_closed : (clock : ℕ) → hub_of config clock next u ≡ record (hub_of config clock next t) { connections = with_connection closed k (all_seen t.sessions.list t.connections.connections) }
    hub_closed clock =
        let ts = t.sessions.list in
        let xs = t.connections.connections in
        let here : (x : HubConnection) → x.stage ≡ stage_of k xs → seen ts (closed x) ≡ closed (seen ts x) =
        λ x stage. ap (λ (b : List ℕ). record (closed x) { waiting = b }) (sym (own_bytes x.stage ts x.waiting (ap key_on stage ∙ idle))) in
        let waits : all_seen u.sessions.list u.connections.connections ≡ with_connection closed k (all_seen ts xs) =
        (λ i. all_seen (list i) (connections i)) ∙ seen_still k ts (stage_of k xs) closed closed here xs kept.apart refl in
        λ i. record {
          config = config;
          clock = clock;
          next_key = next;
          rows = rows i;
          retained = retained i;
          sessions = sessions_of (list i);
          connections = waits i;
        }

-- one without client leaves nothing behind
nothing_left : (why : HubClose) (fits : Bool) (s : ConnectionState) (w : Work) → key_on s ≡ None → leaves_behind why fits s w ≡ w
unfolding leaves_behind
nothing_left why fits AwaitingConnect w e = refl
nothing_left why fits (ConnectedAs key terms last_activity) w e = absurd cc
nothing_left why fits Closed w e = refl

-- the change of the definition
pub goes_closed : (k : Conn) (why : HubClose) (fits : Bool) (h g : HubState) (did says : List Act) → key_on (stage_of k h.connections) ≡ None → g ≡ record h { connections = with_connection closed k h.connections }
    → says ≡ did ++ acts.Closed k why ∷ [] → Refines (close k why fits) h did g says
unfolding shut_down
goes_closed k why fits h g did says idle is said_is = record {
  hub = λ w e f. ap (λ (v : Work). v.hub) (left w e) ∙ ap (λ (a : HubState). record a { connections = with_connection closed k a.connections }) e ∙ sym is;
  did = λ w e f. ap (λ (v : Work). v.did) (left w e) ∙ ap (λ (a : List Act). a ++ acts.Closed k why ∷ []) f ∙ sym said_is;
}
  where
    left : (w : Work) → w.hub ≡ h → close k why fits w ≡ said (acts.Closed k why) (shut k w)
    left w e =
        let none = ap (λ (a : HubState). key_on (stage_of k a.connections)) e ∙ idle in
        idle_close k why fits w none ∙ nothing_left why fits (stage_of k w.hub.connections) (said (acts.Closed k why) (shut k w)) none
