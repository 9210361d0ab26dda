-- A session begins, and a connection is connected for it.
use Rattle.std.proofs.Common.{◌≡◌, ◌&&◌, ℕ, ◌+◌, ◌<◌, ◌^◌, not, Bool, true, false, cond, List, [], ◌∷◌, ◌++◌, Some, None, refl, sym, ap, ap₂, subst, ◌∙◌, arith, eqb, eqb-true, eq-eqb, true≢false}
use Rattle.std.proofs.lemmas.Bool.{cond-true, cond-false, ne_eqb}
use Rattle.std.specs.List.{AllByRecursion}
use Rattle.std.specs.Option.{is_some}
use Rattle.mq_topic.specs.Rows.{Row}
use Rattle.mq_packet.specs.declared.connect.Connect.{Connect}
use Rattle.mq_packet.specs.Encoding.{encodings}
use Rattle.mq_end.specs.End.{End}
use Rattle.mq_end.specs.State.{EndState}
use Rattle.mq_route.specs.declared.act.Act.{Act}
use Rattle.mq_route.specs.declared.act.Act.TheVariants as acts
use Rattle.mq_route.specs.declared.config.HubConfig.{HubConfig}
use Rattle.mq_route.specs.declared.conn.Conn.{Conn}
use Rattle.mq_route.specs.declared.connection_state.ConnectionState.{ConnectionState}
use Rattle.mq_route.specs.declared.connection_state.ConnectionState.TheVariants.{AwaitingConnect, ConnectedAs, Closed}
use Rattle.mq_route.specs.Arrives.{resume_session, start_session, greeting, new_session}
use Rattle.mq_route.specs.Hub.{HubState, HubSession, HubConnection, end_of, is_for, new_end, stage_of, up_on, with_end, with_connection}
use Rattle.mq_tables.specs.declared.sessions.session.BrokerSession.{BrokerSession}
use Rattle.mq_tables.specs.Connecting.{connected_end}
use Rattle.mq_tables.specs.Tables.{HubTables}
use Rattle.mq_tables.specs.Output.{output_of}
use Rattle.mq_tables.specs.Sessions.{session_of, sessions_of, session_at, AreBelow}
use Rattle.mq_tables.proofs.RefusedConnect.{changed_twice}
use Rattle.mq_tables.proofs.SessionLemmas.{below_last}
use Rattle.mq_hub.specs.Inside.Refinement.{Refines}
use Rattle.mq_hub.specs.Inside.Invariant.{HubInvariant, ConnectionHasSession, SessionMatchesConnection, IsWillWithin, HasSession}
use Rattle.mq_hub.specs.Inside.View.{all_seen, hub_of, seen, waiting_by}
use Rattle.mq_hub.proofs.ConnectionChange.{stage_seen, up_seen}
use Rattle.mq_hub.proofs.FirstPackets.{goes_as}
use Rattle.mq_hub.proofs.Refinements.{goes_then, goes_to}
use Rattle.mq_hub.proofs.InvariantChanges.{apart_same, kept_by}
use Rattle.mq_hub.proofs.RefusedConnect.{grown, seen_fresh}
use Rattle.mq_hub.proofs.ConnectedSession.{apart_risen, for_key, goes_greeted, greeted_hub, backed_risen, is_anonymous, is_present, none_for, quiet_risen, fitting_other, fitting_risen, stage_by}

-- ---- a session with a key above all

far_below : (key c : ℕ) → c < key → eqb c key ≡ false
far_below key c less = ne_eqb c key (λ w. omega arith)

below_stands : (key c : ℕ) (ts : List BrokerSession) → AreBelow key ts → HasSession ts c → c < key
below_stands key c [] below stands = absurd (true≢false (sym stands))
below_stands key c (t ∷ ts) below stands = go (eqb t.key c) refl (below_stands key c ts below.1)
  where
    go : (b : Bool) → eqb t.key c ≡ b → (HasSession ts c → c < key) → c < key
    go true same rest = subst (λ (n : ℕ). n < key) (eqb-true t.key c same) below.0
    go false differ rest = rest (ap is_some (sym (cond-false (eqb t.key c) (Some t) (session_at c ts) differ)) ∙ stands)

-- no client is connected for a key that no session has
pub none_up : (key most : ℕ) (ts : List BrokerSession) (xs : List HubConnection) → AreBelow key ts → AllByRecursion (λ x. ConnectionHasSession most ts x.stage) xs → up_on key xs ≡ None
none_up key most ts [] below all = refl
none_up key most ts (x ∷ xs) below all = cond-false (is_for key x.stage) (Some x.conn) (up_on key xs) (of x.stage all.0) ∙ none_up key most ts xs below all.1
  where
    of : (s : ConnectionState) → ConnectionHasSession most ts s → is_for key s ≡ false
    of AwaitingConnect backed = refl
    of (ConnectedAs c terms last_activity) backed = far_below key c (below_stands key c ts below backed.0)
    of Closed backed = refl

module _ (t : BrokerSession) where
  found_last : (c : ℕ) (ts : List BrokerSession) → HasSession ts c → HasSession (ts ++ t ∷ []) c
  found_last c [] stands = absurd (true≢false (sym stands))
  found_last c (s ∷ ts) stands = go (eqb s.key c) refl (found_last c ts)
    where
      go : (b : Bool) → eqb s.key c ≡ b → (HasSession ts c → HasSession (ts ++ t ∷ []) c) → HasSession (s ∷ (ts ++ t ∷ [])) c
      go true same rest = ap is_some (cond-true (eqb s.key c) (Some s) (session_at c (ts ++ t ∷ [])) same)
      go false differ rest =
          ap is_some (cond-false (eqb s.key c) (Some s) (session_at c (ts ++ t ∷ [])) differ) ∙ rest (ap is_some (sym (cond-false (eqb s.key c) (Some s) (session_at c ts) differ)) ∙ stands)

  last_stands : (ts : List BrokerSession) → AreBelow t.key ts → HasSession (ts ++ t ∷ []) t.key
  last_stands [] below = ap is_some (cond-true (eqb t.key t.key) (Some t) None (eq-eqb t.key t.key refl))
  last_stands (s ∷ ts) below =
      ap is_some (cond-false (eqb s.key t.key) (Some s) (session_at t.key (ts ++ t ∷ [])) (far_below t.key s.key below.0)) ∙ last_stands ts below.1

  output_last : (ts : List BrokerSession) → AreBelow t.key ts → output_of t.key (ts ++ t ∷ []) ≡ t.end.output
  output_last [] below = cond-true (eqb t.key t.key) t.end.output [] (eq-eqb t.key t.key refl)
  output_last (s ∷ ts) below = cond-false (eqb s.key t.key) s.end.output (output_of t.key (ts ++ t ∷ [])) (far_below t.key s.key below.0) ∙ output_last ts below.1

  output_before : (c : ℕ) (ts : List BrokerSession) → eqb c t.key ≡ false → output_of c (ts ++ t ∷ []) ≡ output_of c ts
  output_before c [] far = cond-false (eqb t.key c) t.end.output [] (ne_eqb t.key c (λ w. true≢false (sym (eq-eqb c t.key (sym w)) ∙ far)))
  output_before c (s ∷ ts) far = ap (λ (b : List ℕ). cond (eqb s.key c) s.end.output b) (output_before c ts far)

  seen_before : (ts : List BrokerSession) (x : HubConnection) → is_for t.key x.stage ≡ false → seen (ts ++ t ∷ []) x ≡ seen ts x
  seen_before ts x far = ap (λ (b : List ℕ). record x { waiting = b }) (of x.stage far)
    where
      of : (s : ConnectionState) → is_for t.key s ≡ false → waiting_by s (ts ++ t ∷ []) x.waiting ≡ waiting_by s ts x.waiting
      of AwaitingConnect e = refl
      of (ConnectedAs c terms last_activity) e = output_before c ts e
      of Closed e = refl

  pub all_last : (P : BrokerSession → Type 0) (ts : List BrokerSession) → AllByRecursion P ts → P t → AllByRecursion P (ts ++ t ∷ [])
  all_last P [] all own = (own, tt)
  all_last P (s ∷ ts) all own = (all.0, all_last P ts all.1 own)

  pub backed_last : (most : ℕ) (ts : List BrokerSession) (xs : List HubConnection) → AllByRecursion (λ x. ConnectionHasSession most ts x.stage) xs → AllByRecursion (λ x. ConnectionHasSession most (ts ++ t ∷ []) x.stage) xs
  backed_last most ts [] all = tt
  backed_last most ts (x ∷ xs) all = (of x.stage all.0, backed_last most ts xs all.1)
    where
      of : (s : ConnectionState) → ConnectionHasSession most ts s → ConnectionHasSession most (ts ++ t ∷ []) s
      of AwaitingConnect backed = tt
      of (ConnectedAs c terms last_activity) backed = (found_last c ts backed.0, backed.1)
      of Closed backed = tt

  pub owned_last : (ts : List BrokerSession) (rs : List Row) → AllByRecursion (λ r. HasSession ts r.0.0) rs → AllByRecursion (λ r. HasSession (ts ++ t ∷ []) r.0.0) rs
  owned_last ts [] all = tt
  owned_last ts (r ∷ rs) all = (found_last r.0.0 ts all.0, owned_last ts rs all.1)

sessions_last : (t : BrokerSession) (ts : List BrokerSession) → sessions_of (ts ++ t ∷ []) ≡ sessions_of ts ++ session_of t ∷ []
sessions_last t [] = refl
sessions_last t (s ∷ ts) = ap (λ (ss : List HubSession). session_of s ∷ ss) (sessions_last t ts)

-- in terms of the definition
end_last : (s : HubSession) (ts : List BrokerSession) → AreBelow s.key ts → end_of s.key (sessions_of ts ++ s ∷ []) ≡ s.end
end_last s [] below = cond-true (eqb s.key s.key) s.end (end_of s.key []) (eq-eqb s.key s.key refl)
end_last s (t ∷ ts) below = cond-false (eqb t.key s.key) t.end.end (end_of s.key (sessions_of ts ++ s ∷ [])) (far_below s.key t.key below.0) ∙ end_last s ts below.1

ending_last : (s : HubSession) (e : End) (ts : List BrokerSession) → AreBelow s.key ts → with_end s.key e (sessions_of ts ++ s ∷ []) ≡ sessions_of ts ++ record s { end = e } ∷ []
ending_last s e [] below = ap (λ (x : HubSession). x ∷ []) (cond-true (eqb s.key s.key) (record s { end = e }) s (eq-eqb s.key s.key refl))
ending_last s e (t ∷ ts) below =
    ap₂ (λ (x : HubSession) (xs : List HubSession). x ∷ xs) (cond-false (eqb t.key s.key) (record (session_of t) { end = e }) (session_of t) (far_below s.key t.key below.0)) (ending_last s e ts below.1)

all_higher : (next : ℕ) (ts : List BrokerSession) → AreBelow next ts → AreBelow (next + 1) ts
all_higher next [] below = tt
all_higher next (t ∷ ts) below = let l = below.0 in (omega arith, all_higher next ts below.1)

no_session : (b : Bool) → b && false ≡ false
no_session true = refl
no_session false = refl

-- ---- the broker

module _ (k : Conn) (c : Connect) (client : List ℕ) (named : is_anonymous c ≡ false) (config : HubConfig) (clock next : ℕ) (t u : HubTables) (kept : HubInvariant config next t)
    (at : stage_of k t.connections.connections ≡ AwaitingConnect) (own : BrokerSession) (e : EndState) (is : own ≡ record { client = client; key = next; end = connected_end c clock e; left_at = clock }) (fresh : e.end ≡ new_end config)
    (rows : u.rows ≡ t.rows) (retained : u.retained.messages ≡ t.retained.messages) (list : u.sessions.list ≡ t.sessions.list ++ own ∷ [])
    (connections : u.connections.connections ≡ with_connection (λ x. record x { stage = stage_by next c clock }) k t.connections.connections) where
  abbrev new : BrokerSession
  new = record { client = client; key = next; end = connected_end c clock e; left_at = clock }

  abbrev risen_line : HubConnection → HubConnection
  risen_line x = record x { stage = stage_by next c clock }

  nobody : up_on next t.connections.connections ≡ None
  nobody = none_up next config.limits.most t.sessions.list t.connections.connections kept.below kept.backed

  pub keeps_begun : IsWillWithin config.limits.most c.will → u.connections.limits ≡ t.connections.limits → next < 2 ^ 32 → e.capacity ≡ config.capacity → e.limit ≡ config.limits → HubInvariant config (next + 1) u
  keeps_begun will limits low capacity limit =
      let ts = t.sessions.list in
      let xs = t.connections.connections in
      let us = ts ++ new ∷ [] in
      let ys = with_connection risen_line k xs in
      let for = for_key next c clock in
      let s = stage_by next c clock in
      let v : HubTables = record t { sessions = record t.sessions { list = us }; connections = record t.connections { connections = ys } } in
      let kv : HubInvariant config (next + 1) v = record {
        capacity = kept.capacity;
        window = kept.window;
        limits = kept.limits;
        apart = apart_risen k next s for xs kept.apart nobody at;
        quiet = quiet_risen k next s for (λ b. tt) xs kept.quiet;
        backed = backed_risen k next s for config.limits.most us (last_stands new ts kept.below, will) xs (backed_last new config.limits.most ts xs kept.backed);
        fitting =
            all_last new (SessionMatchesConnection config ys) ts (others ts kept.below kept.fitting)
            (fitting_risen k next c clock named config xs kept.apart nobody at new e refl capacity limit (ap (λ (d : End). d.window) fresh));
        ascending = below_last new ts kept.ascending kept.below;
        below = all_last new (λ r. r.key < next + 1) ts (all_higher next ts kept.below) (omega arith);
        next = omega (arith, low);
        owned = owned_last new ts t.rows kept.owned;
        retained = kept.retained;
      } in
      kept_by config (next + 1) v u kv rows retained (list ∙ ap (λ (r : BrokerSession). ts ++ r ∷ []) is) connections limits
    where
      others : (ts : List BrokerSession) → AreBelow next ts → AllByRecursion (SessionMatchesConnection config t.connections.connections) ts → AllByRecursion (SessionMatchesConnection config (with_connection risen_line k t.connections.connections)) ts
      others [] below all = tt
      others (r ∷ rs) below all = (
        fitting_other k next (stage_by next c clock) (for_key next c clock) config t.connections.connections kept.apart nobody at r (far_below next r.key below.0) all.0,
        others rs below.1 all.1,
      )

  hub_begun : hub_of config clock (next + 1) u ≡ record (hub_of config clock next t) {
    next_key = next + 1;
    sessions = sessions_of t.sessions.list ++ record { client = client; key = next; end = (greeting c (new_end config)).end; left = clock } ∷ [];
    connections = with_connection (grown (encodings (greeting c (new_end config)).out)) k (with_connection risen_line k (all_seen t.sessions.list t.connections.connections));
  }
  hub_begun =
      let ts = t.sessions.list in
      let xs = t.connections.connections in
      let us = ts ++ new ∷ [] in
      let b = encodings (greeting c e.end).out in
      let here : (x : HubConnection) → x.stage ≡ AwaitingConnect → x.waiting ≡ [] → seen us (risen_line x) ≡ grown b (risen_line (seen ts x)) =
      λ x first empty. ap (λ (w : List ℕ). record (risen_line x) { waiting = w }) (output_last new ts kept.below ∙ (λ i. waiting_by (sym first i) ts (sym empty i) ++ b)) in
      let waits : all_seen u.sessions.list u.connections.connections ≡ with_connection (grown b) k (with_connection risen_line k (all_seen ts xs)) =
      (λ i. all_seen ((list ∙ ap (λ (r : BrokerSession). ts ++ r ∷ []) is) i) (connections i))
      ∙ seen_fresh k ts us (λ x. is_for next x.stage ≡ false) (λ x far. seen_before new ts x far) risen_line (λ x. grown b (risen_line x)) here xs kept.apart kept.quiet (none_for next xs nobody) at
      ∙ sym (changed_twice k risen_line (grown b) (λ x. refl) (all_seen ts xs)) in
      let sessions : sessions_of u.sessions.list ≡ sessions_of ts ++ session_of new ∷ [] =
      ap sessions_of (list ∙ ap (λ (r : BrokerSession). ts ++ r ∷ []) is) ∙ sessions_last new ts in
      let seen_so : hub_of config clock (next + 1) u ≡ record (hub_of config clock next t) {
        next_key = next + 1;
        sessions = sessions_of ts ++ session_of new ∷ [];
        connections = with_connection (grown b) k (with_connection risen_line k (all_seen ts xs));
      } = λ i. record {
        config = config;
        clock = clock;
        next_key = next + 1;
        rows = rows i;
        retained = retained i;
        sessions = sessions i;
        connections = waits i;
      } in
      seen_so
      ∙ ap (λ (d : End). record (hub_of config clock next t) {
        next_key = next + 1;
        sessions = sessions_of ts ++ record { client = client; key = next; end = (greeting c d).end; left = clock } ∷ [];
        connections = with_connection (grown (encodings (greeting c d).out)) k (with_connection risen_line k (all_seen ts xs));
      }) fresh

  pub goes_begun : (did : List Act) → Refines (start_session k c client) (hub_of config clock next t) did (hub_of config clock (next + 1) u) (did ++ acts.Up k next false ∷ [])
  unfolding new_session
  goes_begun did =
      let ts = t.sessions.list in
      let xs = t.connections.connections in
      let h = hub_of config clock next t in
      let s : HubSession = record { client = client; key = next; end = new_end config; left = clock } in
      let m : HubState = record h { next_key = next + 1; sessions = sessions_of ts ++ s ∷ [] } in
      let apart = apart_same (seen ts) (λ x. refl) (λ x. refl) xs kept.apart in
      let none : up_on next m.connections ≡ None = up_seen next ts xs ∙ nobody in
      let first : stage_of k m.connections ≡ AwaitingConnect = stage_seen k ts xs ∙ at in
      let there : end_of next m.sessions ≡ new_end config = end_last s ts kept.below in
      let present : is_present c (end_of next m.sessions) ≡ false = ap (is_present c) there ∙ no_session (not c.clean_session) in
      let after : greeted_hub k c next named m did apart none first ≡ hub_of config clock (next + 1) u =
      ap (λ (d : End). record m {
        sessions = with_end next (greeting c d).end m.sessions;
        connections = with_connection (grown (encodings (greeting c d).out)) k (with_connection risen_line k m.connections);
      }) there
      ∙ ap (λ (ss : List HubSession). record m { sessions = ss; connections = with_connection (grown (encodings (greeting c (new_end config)).out)) k (with_connection risen_line k m.connections) })
      (ending_last s (greeting c (new_end config)).end ts kept.below)
      ∙ sym hub_begun in
      let says = did ++ acts.Up k next false ∷ [] in
      goes_as (λ w. resume_session k c next (new_session client w)) (start_session k c client) h (hub_of config clock (next + 1) u) did says
      (λ w e. ap (λ (n : ℕ). resume_session k c n (new_session client w)) (ap (λ (a : HubState). a.next_key) e))
      (goes_then (new_session client) (resume_session k c next) h m (hub_of config clock (next + 1) u) did did says
      (goes_to (new_session client) h m did (λ w e. ap (λ (a : HubState). record a {
        next_key = a.next_key + 1;
        sessions = a.sessions ++ record { client = client; key = a.next_key; end = new_end a.config; left = a.clock } ∷ [];
      }) e) (λ w. refl))
      (subst (λ (g : HubState). Refines (resume_session k c next) m did g says) after (goes_greeted k c next named m did apart none first false present)))
