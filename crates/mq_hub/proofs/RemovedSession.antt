-- A session without connection ends.
use Rattle.std.proofs.Common.{◌≡◌, ℕ, ◌<◌, Bool, true, false, not, cond, List, [], ◌∷◌, ◌++◌, Option, Some, None, refl, sym, ap, subst, ◌∙◌, eqb, eqb-true, eq-eqb, true≢false}
use Rattle.std.proofs.lemmas.Bool.{cond-true, cond-false, ne_eqb}
use Rattle.std.specs.List.{AllByRecursion}
use Rattle.std.specs.Option.{is_some}
use Rattle.mq_topic.specs.Rows.{Row, without_client}
use Rattle.mq_route.specs.declared.act.Act.{Act}
use Rattle.mq_route.specs.declared.act.Act.TheVariants as acts
use Rattle.mq_route.specs.declared.config.HubConfig.{HubConfig}
use Rattle.mq_route.specs.declared.connection_state.ConnectionState.{ConnectionState}
use Rattle.mq_route.specs.declared.connection_state.ConnectionState.TheVariants.{AwaitingConnect, ConnectedAs, Closed}
use Rattle.mq_route.specs.Hub.{HubState, HubSession, HubConnection, is_for, up_on, without_session}
use Rattle.mq_route.specs.Work.{remove}
use Rattle.mq_tables.specs.declared.sessions.session.BrokerSession.{BrokerSession}
use Rattle.mq_tables.specs.Tables.{HubTables}
use Rattle.mq_tables.specs.Output.{output_of}
use Rattle.mq_tables.specs.Sessions.{session_of, sessions_of, session_at, without_key}
use Rattle.mq_tables.proofs.SessionLemmas.{ascending_without}
use Rattle.mq_hub.specs.Inside.Refinement.{Refines}
use Rattle.mq_hub.specs.Inside.Invariant.{HubInvariant, ConnectionHasSession, SessionMatchesConnection, HasSession}
use Rattle.mq_hub.specs.Inside.View.{all_seen, hub_of, seen, waiting_by}
use Rattle.mq_hub.proofs.ConnectionChange.{seen_others}
use Rattle.mq_hub.proofs.InvariantChanges.{kept_by}

module _ (key : ℕ) where
  far_key : (s : BrokerSession) (c : ℕ) → eqb s.key key ≡ true → eqb c key ≡ false → eqb s.key c ≡ false
  far_key s c own apart = ne_eqb s.key c (λ w. true≢false (sym (eq-eqb c key (sym w ∙ eqb-true s.key key own)) ∙ apart))

  -- ---- the other sessions

  found_without : (c : ℕ) (ts : List BrokerSession) → eqb c key ≡ false → session_at c (without_key key ts) ≡ session_at c ts
  found_without c [] apart = refl
  found_without c (s ∷ ts) apart = go (eqb s.key key) refl (found_without c ts apart)
    where
      go : (b : Bool) → eqb s.key key ≡ b → session_at c (without_key key ts) ≡ session_at c ts → session_at c (without_key key (s ∷ ts)) ≡ session_at c (s ∷ ts)
      go true own rest =
          let left : without_key key (s ∷ ts) ≡ without_key key ts = rw own refl in
          ap (session_at c) left ∙ rest ∙ sym (cond-false (eqb s.key c) (Some s) (session_at c ts) (far_key s c own apart))
      go false own rest =
          let left : without_key key (s ∷ ts) ≡ s ∷ without_key key ts = rw own refl in
          ap (session_at c) left ∙ ap (λ (o : Option BrokerSession). cond (eqb s.key c) (Some s) o) rest

  output_without : (c : ℕ) (ts : List BrokerSession) → eqb c key ≡ false → output_of c (without_key key ts) ≡ output_of c ts
  output_without c [] apart = refl
  output_without c (s ∷ ts) apart = go (eqb s.key key) refl (output_without c ts apart)
    where
      go : (b : Bool) → eqb s.key key ≡ b → output_of c (without_key key ts) ≡ output_of c ts → output_of c (without_key key (s ∷ ts)) ≡ output_of c (s ∷ ts)
      go true own rest =
          let left : without_key key (s ∷ ts) ≡ without_key key ts = rw own refl in
          ap (output_of c) left ∙ rest ∙ sym (cond-false (eqb s.key c) s.end.output (output_of c ts) (far_key s c own apart))
      go false own rest =
          let left : without_key key (s ∷ ts) ≡ s ∷ without_key key ts = rw own refl in
          ap (output_of c) left ∙ ap (λ (b : List ℕ). cond (eqb s.key c) s.end.output b) rest

  pub seen_without : (ts : List BrokerSession) (x : HubConnection) → is_for key x.stage ≡ false → seen (without_key key ts) x ≡ seen ts x
  seen_without ts x apart = ap (λ (b : List ℕ). record x { waiting = b }) (of x.stage apart)
    where
      of : (s : ConnectionState) → is_for key s ≡ false → waiting_by s (without_key key ts) x.waiting ≡ waiting_by s ts x.waiting
      of AwaitingConnect e = refl
      of (ConnectedAs c terms last_activity) e = output_without c ts e
      of Closed e = refl

  pub sessions_without : (ts : List BrokerSession) → sessions_of (without_key key ts) ≡ without_session key (sessions_of ts)
  sessions_without [] = refl
  sessions_without (s ∷ ts) = go (eqb s.key key) refl (sessions_without ts)
    where
      go : (b : Bool) → eqb s.key key ≡ b → sessions_of (without_key key ts) ≡ without_session key (sessions_of ts)
          → sessions_of (without_key key (s ∷ ts)) ≡ without_session key (sessions_of (s ∷ ts))
      go true own rest = rw own rest
      go false own rest = rw own (ap (λ (ss : List HubSession). session_of s ∷ ss) rest)

  pub all_without : (P : BrokerSession → Type 0) (ts : List BrokerSession) → AllByRecursion P ts → AllByRecursion P (without_key key ts)
  all_without P [] all = tt
  all_without P (s ∷ ts) all = go (not (eqb s.key key)) (all_without P ts all.1)
    where
      go : (b : Bool) → AllByRecursion P (without_key key ts) → AllByRecursion P (cond b (s ∷ without_key key ts) (without_key key ts))
      go true rest = (all.0, rest)
      go false rest = rest

  stands_without : (c : ℕ) (ts : List BrokerSession) → eqb c key ≡ false → HasSession ts c → HasSession (without_key key ts) c
  stands_without c ts apart stands = ap is_some (found_without c ts apart) ∙ stands

  pub owned_without : (ts : List BrokerSession) (rs : List Row) → AllByRecursion (λ r. HasSession ts r.0.0) rs → AllByRecursion (λ r. HasSession (without_key key ts) r.0.0) (without_client key rs)
  owned_without ts [] all = tt
  owned_without ts (r ∷ rs) all = go (eqb r.0.0 key) refl (owned_without ts rs all.1)
    where
      go : (b : Bool) → eqb r.0.0 key ≡ b → AllByRecursion (λ q. HasSession (without_key key ts) q.0.0) (without_client key rs)
          → AllByRecursion (λ q. HasSession (without_key key ts) q.0.0) (without_client key (r ∷ rs))
      go true own rest =
          let left : without_client key (r ∷ rs) ≡ without_client key rs = rw own refl in
          subst (λ (qs : List Row). AllByRecursion (λ q. HasSession (without_key key ts) q.0.0) qs) (sym left) rest
      go false own rest =
          let left : without_client key (r ∷ rs) ≡ r ∷ without_client key rs = rw own refl in
          subst (λ (qs : List Row). AllByRecursion (λ q. HasSession (without_key key ts) q.0.0) qs) (sym left) (stands_without r.0.0 ts own all.0, rest)

  pub backed_without : (most : ℕ) (ts : List BrokerSession) (xs : List HubConnection) → up_on key xs ≡ None → AllByRecursion (λ x. ConnectionHasSession most ts x.stage) xs
      → AllByRecursion (λ x. ConnectionHasSession most (without_key key ts) x.stage) xs
  backed_without most ts [] none all = tt
  backed_without most ts (x ∷ xs) none all = go (is_for key x.stage) refl (backed_without most ts xs)
    where
      of : (s : ConnectionState) → is_for key s ≡ false → ConnectionHasSession most ts s → ConnectionHasSession most (without_key key ts) s
      of AwaitingConnect e backed = tt
      of (ConnectedAs c terms last_activity) e backed = (stands_without c ts e backed.0, backed.1)
      of Closed e backed = tt

      go : (b : Bool) → is_for key x.stage ≡ b
          → (up_on key xs ≡ None → AllByRecursion (λ y. ConnectionHasSession most ts y.stage) xs → AllByRecursion (λ y. ConnectionHasSession most (without_key key ts) y.stage) xs)
          → AllByRecursion (λ y. ConnectionHasSession most (without_key key ts) y.stage) (x ∷ xs)
      go true up rest = let w : Some x.conn ≡ None = sym (cond-true (is_for key x.stage) (Some x.conn) (up_on key xs) up) ∙ none in absurd cc
      go false down rest = (of x.stage down all.0, rest (sym (cond-false (is_for key x.stage) (Some x.conn) (up_on key xs) down) ∙ none) all.1)

  -- ---- the broker

  module _ (config : HubConfig) (next : ℕ) (t u : HubTables) (kept : HubInvariant config next t) (none : up_on key t.connections.connections ≡ None) (rows : u.rows ≡ without_client key t.rows)
      (retained : u.retained.messages ≡ t.retained.messages) (list : u.sessions.list ≡ without_key key t.sessions.list) (connections : u.connections.connections ≡ t.connections.connections) where
    pub kept_removed : u.connections.limits ≡ t.connections.limits → HubInvariant config next u
    kept_removed limits =
        let ts = t.sessions.list in
        let v : HubTables = record t { rows = without_client key t.rows; sessions = record t.sessions { list = without_key key ts } } in
        let k : HubInvariant config next v = record {
          capacity = kept.capacity;
          window = kept.window;
          limits = kept.limits;
          apart = kept.apart;
          quiet = kept.quiet;
          backed = backed_without config.limits.most ts t.connections.connections none kept.backed;
          fitting = all_without (SessionMatchesConnection config t.connections.connections) ts kept.fitting;
          ascending = ascending_without key ts kept.ascending;
          below = all_without (λ s. s.key < next) ts kept.below;
          next = kept.next;
          owned = owned_without ts t.rows kept.owned;
          retained = kept.retained;
        } in
        kept_by config next v u k rows retained list connections limits

    pub hub_removed : (clock : ℕ) → hub_of config clock next u
        ≡ record (hub_of config clock next t) { rows = without_client key t.rows; sessions = without_session key (sessions_of t.sessions.list) }
    hub_removed clock =
        let ts = t.sessions.list in
        let xs = t.connections.connections in
        let sessions : sessions_of u.sessions.list ≡ without_session key (sessions_of ts) = ap sessions_of list ∙ sessions_without ts in
        let waits : all_seen u.sessions.list u.connections.connections ≡ all_seen ts xs = (λ i. all_seen (list i) (connections i)) ∙ seen_others key ts (without_key key ts) (seen_without ts) xs none in
        λ i. record {
          config = config;
          clock = clock;
          next_key = next;
          rows = rows i;
          retained = retained i;
          sessions = sessions i;
          connections = waits i;
        }

  -- the change of the definition
  pub goes_removed : (h g : HubState) (said says : List Act) → g ≡ record h { rows = without_client key h.rows; sessions = without_session key h.sessions }
      → says ≡ said ++ acts.Removed key ∷ [] → Refines (remove key) h said g says
  unfolding remove
  goes_removed h g said says is did = record {
    hub = λ w e f. ap (λ (a : HubState). record a { rows = without_client key a.rows; sessions = without_session key a.sessions }) e ∙ sym is;
    did = λ w e f. ap (λ (a : List Act). a ++ acts.Removed key ∷ []) f ∙ sym did;
  }
