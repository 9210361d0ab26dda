-- A connection without client is removed.
use Rattle.std.proofs.Common.{◌≡◌, ◌||◌, ℕ, Bool, true, false, not, cond, List, [], ◌∷◌, Some, None, refl, sym, ap, ap₂, subst, ◌∙◌}
use Rattle.std.proofs.lemmas.Bool.{cond-true, cond-false, or_parts}
use Rattle.mq_route.specs.declared.act.Act.{Act}
use Rattle.mq_route.specs.declared.config.HubConfig.{HubConfig}
use Rattle.mq_route.specs.declared.conn.Conn.{Conn}
use Rattle.mq_route.specs.declared.event.HubEvent.TheVariants.{Ended}
use Rattle.mq_route.specs.declared.refusal.HubRefusal.TheVariants as refusals
use Rattle.mq_route.specs.declared.reply.HubReply.{HubReply}
use Rattle.mq_route.specs.Hub.{HubState, HubConnection, is_for, is_connection, is_open, key_on, knows, stage_of, up_on, without_connection, stage_for}
use Rattle.mq_route.specs.Step.{HubStep, on_end, close_if_open}
use Rattle.mq_route.specs.Work.{begin}
use Rattle.mq_tables.specs.declared.sessions.session.BrokerSession.{BrokerSession}
use Rattle.mq_tables.specs.Tables.{HubTables}
use Rattle.mq_tables.specs.Sessions.{sessions_of}
use Rattle.mq_tables.proofs.ConnectionTable.{not_taken}
use Rattle.mq_hub.specs.Inside.Refinement.{Refines}
use Rattle.mq_hub.specs.Inside.Invariant.{AreApart, HubInvariant, ConnectionHasSession, IsQuiet}
use Rattle.mq_hub.specs.Inside.View.{all_seen, hub_of, seen}
use Rattle.mq_hub.proofs.ConnectionChange.{rest_unknown}
use Rattle.mq_hub.proofs.InvariantChanges.{all_fitting_same, kept_by}
use Rattle.mq_hub.proofs.DeliveryInvariant.{all_filtered}
use Rattle.mq_hub.proofs.ClosedConnection.{not_up}

module _ (k : Conn) where
  less_true : (x : HubConnection) (xs : List HubConnection) → is_connection k x ≡ true → without_connection k (x ∷ xs) ≡ without_connection k xs
  less_true x xs same = rw same refl

  less_false : (x : HubConnection) (xs : List HubConnection) → is_connection k x ≡ false → without_connection k (x ∷ xs) ≡ x ∷ without_connection k xs
  less_false x xs differ = rw differ refl

  seen_forgotten : (ts : List BrokerSession) (xs : List HubConnection) → all_seen ts (without_connection k xs) ≡ without_connection k (all_seen ts xs)
  seen_forgotten ts [] = refl
  seen_forgotten ts (x ∷ xs) = go (is_connection k x) refl (seen_forgotten ts xs)
    where
      go : (b : Bool) → is_connection k x ≡ b → all_seen ts (without_connection k xs) ≡ without_connection k (all_seen ts xs)
          → all_seen ts (without_connection k (x ∷ xs)) ≡ without_connection k (all_seen ts (x ∷ xs))
      go true same rest = ap (all_seen ts) (less_true x xs same) ∙ rest ∙ sym (less_true (seen ts x) (all_seen ts xs) same)
      go false differ rest =
          ap (all_seen ts) (less_false x xs differ) ∙ ap (λ (ys : List HubConnection). seen ts x ∷ ys) rest ∙ sym (less_false (seen ts x) (all_seen ts xs) differ)

  still_unknown : (n : Conn) (xs : List HubConnection) → knows n xs ≡ false → knows n (without_connection k xs) ≡ false
  still_unknown n [] none = refl
  still_unknown n (x ∷ xs) none = go (is_connection k x) refl (still_unknown n xs)
    where
      go : (b : Bool) → is_connection k x ≡ b → (knows n xs ≡ false → knows n (without_connection k xs) ≡ false) → knows n (without_connection k (x ∷ xs)) ≡ false
      go true same rest = ap (knows n) (less_true x xs same) ∙ rest (or_parts (is_connection n x) (knows n xs) none).1
      go false differ rest =
          let p = or_parts (is_connection n x) (knows n xs) none in
          ap (knows n) (less_false x xs differ) ∙ ap₂ (λ (a b : Bool). a || b) p.0 (rest p.1)

  -- look-ups by a client are unchanged
  module _ {X : Type 0} (c : ℕ) (p : HubConnection → X) (g : List HubConnection → X)
      (step : (x : HubConnection) (xs : List HubConnection) → g (x ∷ xs) ≡ cond (is_for c x.stage) (p x) (g xs)) where
    found_less : (xs : List HubConnection) → AreApart xs → key_on (stage_of k xs) ≡ None → g (without_connection k xs) ≡ g xs
    found_less [] apart idle = refl
    found_less (x ∷ xs) apart idle = go (is_connection k x) refl (found_less xs apart.2)
      where
        go : (b : Bool) → is_connection k x ≡ b → (key_on (stage_of k xs) ≡ None → g (without_connection k xs) ≡ g xs) → g (without_connection k (x ∷ xs)) ≡ g (x ∷ xs)
        go true same rest =
            let down : is_for c x.stage ≡ false = not_up x.stage c (ap key_on (sym (cond-true (is_connection k x) x.stage (stage_of k xs) same)) ∙ idle) in
            ap g (less_true x xs same) ∙ ap g (not_taken k xs (rest_unknown k x xs same apart.0))
            ∙ sym (cond-false (is_for c x.stage) (p x) (g xs) down) ∙ sym (step x xs)
        go false differ rest =
            ap g (less_false x xs differ) ∙ step x (without_connection k xs)
            ∙ ap (λ (v : X). cond (is_for c x.stage) (p x) v) (rest (ap key_on (sym (cond-false (is_connection k x) x.stage (stage_of k xs) differ)) ∙ idle))
            ∙ sym (step x xs)

  up_less : (c : ℕ) (xs : List HubConnection) → AreApart xs → key_on (stage_of k xs) ≡ None → up_on c (without_connection k xs) ≡ up_on c xs
  up_less c = found_less c (λ (x : HubConnection). Some x.conn) (up_on c) (λ x xs. refl)

  stage_less : (c : ℕ) (xs : List HubConnection) → AreApart xs → key_on (stage_of k xs) ≡ None → stage_for c (without_connection k xs) ≡ stage_for c xs
  stage_less c = found_less c (λ (x : HubConnection). x.stage) (stage_for c) (λ x xs. refl)

  apart_less : (xs : List HubConnection) → AreApart xs → key_on (stage_of k xs) ≡ None → AreApart (without_connection k xs)
  apart_less [] apart idle = tt
  apart_less (x ∷ xs) apart idle = go (is_connection k x) refl (apart_less xs apart.2)
    where
      go : (b : Bool) → is_connection k x ≡ b → (key_on (stage_of k xs) ≡ None → AreApart (without_connection k xs)) → AreApart (without_connection k (x ∷ xs))
      go true same rest =
          subst AreApart (sym (less_true x xs same ∙ not_taken k xs (rest_unknown k x xs same apart.0))) apart.2
      go false differ rest =
          let later : key_on (stage_of k xs) ≡ None = ap key_on (sym (cond-false (is_connection k x) x.stage (stage_of k xs) differ)) ∙ idle in
          subst AreApart (sym (less_false x xs differ)) (still_unknown x.conn xs apart.0, λ c e. up_less c xs apart.2 later ∙ apart.1 c e, rest later)

  module _ (config : HubConfig) (next : ℕ) (t u : HubTables) (kept : HubInvariant config next t) (idle : key_on (stage_of k t.connections.connections) ≡ None)
      (rows : u.rows ≡ t.rows)
      (retained : u.retained.messages ≡ t.retained.messages) (list : u.sessions.list ≡ t.sessions.list)
      (connections : u.connections.connections ≡ without_connection k t.connections.connections) where
    pub kept_forgotten : u.connections.limits ≡ t.connections.limits → HubInvariant config next u
    kept_forgotten limits =
        let ts = t.sessions.list in
        let xs = t.connections.connections in
        let ys = without_connection k xs in
        let v : HubTables = record t { connections = record t.connections { connections = ys } } in
        let w : HubInvariant config next v = record {
          capacity = kept.capacity;
          window = kept.window;
          limits = kept.limits;
          apart = apart_less xs kept.apart idle;
          quiet = all_filtered (λ y. IsQuiet y.stage y.waiting) (λ x. not (is_connection k x)) xs kept.quiet;
          backed = all_filtered (λ y. ConnectionHasSession config.limits.most ts y.stage) (λ x. not (is_connection k x)) xs kept.backed;
          fitting = all_fitting_same config xs ys (λ c. up_less c xs kept.apart idle) (λ c. stage_less c xs kept.apart idle) ts kept.fitting;
          ascending = kept.ascending;
          below = kept.below;
          next = kept.next;
          owned = kept.owned;
          retained = kept.retained;
        } in
        kept_by config next v u w rows retained list connections limits

    pub hub_forgotten : (clock : ℕ)
        → hub_of config clock next u ≡ record (hub_of config clock next t) { connections = without_connection k (all_seen t.sessions.list t.connections.connections) }
    hub_forgotten clock =
        let ts = t.sessions.list in
        let waits : all_seen u.sessions.list u.connections.connections ≡ without_connection k (all_seen ts t.connections.connections) =
        (λ i. all_seen (list i) (connections i)) ∙ seen_forgotten ts t.connections.connections in
        λ i. record {
          config = config;
          clock = clock;
          next_key = next;
          rows = rows i;
          retained = retained i;
          sessions = sessions_of (list i);
          connections = waits i;
        }

-- ---- the step

-- the event as a whole
pub ended_step : (k : Conn) (h mid g : HubState) (x y : List Act) (r : HubReply) → knows k h.connections ≡ true → x ≡ []
    → (fits : Bool) × Refines (close_if_open k (is_open (stage_of k h.connections)) fits) h x mid y → g ≡ record mid { connections = without_connection k mid.connections }
    → r ≡ record { acts = y; output = []; alive = false } → HubStep h (Ended k) r g
ended_step k h mid g x y r known none p after says =
    let hub = p.1.hub (begin h) refl (sym none) in
    let did = p.1.did (begin h) refl (sym none) in
    record {
      right = cond-true (knows k h.connections) None (Some refusals.UnknownConn) known;
      work = on_end k p.0 h;
      does = (p.0, refl, says ∙ ap (λ (a : List Act). record { acts = a; output = []; alive = false }) (sym did));
      after = after ∙ ap (λ (m : HubState). record m { connections = without_connection k m.connections }) (sym hub);
    }
