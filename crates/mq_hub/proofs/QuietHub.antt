-- What a snapshot keeps of a broker.
use Rattle.std.proofs.Common.{◌≡◌, ℕ, Bool, true, false, cond, List, [], ◌∷◌, map, Some, refl, sym, ap, ap₂, ◌∙◌, true≢false}
use Rattle.std.proofs.lemmas.Bool.{cond-true, cond-false}
use Rattle.std.specs.List.{AllByRecursion}
use Rattle.std.specs.Option.{is_some}
use Rattle.mq_end.specs.declared.state.State.TheVariants.{Connected, Disconnected}
use Rattle.mq_end.specs.End.{End}
use Rattle.mq_route.specs.declared.config.HubConfig.{HubConfig}
use Rattle.mq_route.specs.declared.connection_state.ConnectionState.{ConnectionState}
use Rattle.mq_route.specs.declared.connection_state.ConnectionState.TheVariants.{AwaitingConnect, ConnectedAs, Closed}
use Rattle.mq_route.specs.Hub.{HubConnection, HubSession, is_for, key_on, stage_for, up_on}
use Rattle.mq_route.specs.Snapshot.{kept_end, kept_session, quiet, restored}
use Rattle.mq_tables.specs.declared.sessions.session.BrokerSession.{BrokerSession}
use Rattle.mq_tables.specs.Sessions.{session_of, sessions_of}
use Rattle.mq_tables.specs.Tables.{HubTables}
use Rattle.mq_hub.specs.Inside.Invariant.{HubInvariant, SessionMatchesConnection}
use Rattle.mq_hub.specs.Inside.View.{all_seen, hub_of, seen}
use Rattle.mq_hub.proofs.InvariantChanges.{stage_same}

-- a client is connected if its connection is connected for it
connected_for : (key : ℕ) (s : ConnectionState) → is_for key s ≡ true → is_some (key_on s) ≡ true
connected_for key AwaitingConnect e = absurd (true≢false (sym e))
connected_for key (ConnectedAs other terms last_activity) e = refl
connected_for key Closed e = absurd (true≢false (sym e))

stage_up : (key : ℕ) (xs : List HubConnection) → is_some (up_on key xs) ≡ is_some (key_on (stage_for key xs))
stage_up key [] = refl
stage_up key (x ∷ xs) = go (is_for key x.stage) refl (stage_up key xs)
  where
    go : (b : Bool) → is_for key x.stage ≡ b → is_some (up_on key xs) ≡ is_some (key_on (stage_for key xs)) → is_some (up_on key (x ∷ xs)) ≡ is_some (key_on (stage_for key (x ∷ xs)))
    go true e rest =
        ap is_some (cond-true (is_for key x.stage) (Some x.conn) (up_on key xs) e)
        ∙ sym (ap (λ (s : ConnectionState). is_some (key_on s)) (cond-true (is_for key x.stage) x.stage (stage_for key xs) e) ∙ connected_for key x.stage e)
    go false e rest =
        ap is_some (cond-false (is_for key x.stage) (Some x.conn) (up_on key xs) e) ∙ rest
        ∙ sym (ap (λ (s : ConnectionState). is_some (key_on s)) (cond-false (is_for key x.stage) x.stage (stage_for key xs) e))

module _ (config : HubConfig) (ts : List BrokerSession) (xs : List HubConnection) where
  end_kept : (t : BrokerSession) → SessionMatchesConnection config xs t → kept_end config.window (stage_for t.key (all_seen ts xs)) t.end.end ≡ t.end.end
  end_kept t fits =
      let stage : stage_for t.key (all_seen ts xs) ≡ stage_for t.key xs = stage_same (seen ts) (λ x. refl) t.key xs in
      let state : cond (is_some (key_on (stage_for t.key xs))) Connected Disconnected ≡ t.end.end.state =
      ap (λ (b : Bool). cond b Connected Disconnected) (sym (stage_up t.key xs)) ∙ sym fits.state in
      let window = sym fits.window in
      let known = sym fits.known in
      let clean = sym fits.clean in
      let keep_alive = sym fits.keep_alive in
      let claims = sym fits.claims in
      ap (λ (s : ConnectionState). kept_end config.window s t.end.end) stage
      ∙ (λ i. record {
        book = record t.end.end.book { claimed = claims i };
        received = t.end.end.received;
        last = t.end.end.last;
        state = state i;
        known = known i;
        clean = clean i;
        keep_alive = keep_alive i;
        window = window i;
      })

  sessions_kept : (ss : List BrokerSession) → AllByRecursion (SessionMatchesConnection config xs) ss → map (kept_session config.window (all_seen ts xs)) (sessions_of ss) ≡ sessions_of ss
  sessions_kept [] all = refl
  sessions_kept (s ∷ ss) all =
      ap₂ (λ (e : End) (rest : List HubSession). record (session_of s) { end = e } ∷ rest) (end_kept s all.0) (sessions_kept ss all.1)

-- nothing but the pending output is lost
pub kept_whole : (config : HubConfig) (clock next : ℕ) (t : HubTables) → HubInvariant config next t → restored config (hub_of config clock next t) ≡ quiet (hub_of config clock next t)
kept_whole config clock next t keeps =
    ap (λ (ss : List HubSession). record (quiet (hub_of config clock next t)) { sessions = ss }) (sessions_kept config t.sessions.list t.connections.connections t.sessions.list keeps.fitting)
