-- The invariant with another end of a session.
use Rattle.std.proofs.Common.{◌≡◌, ℕ, ◌<◌, Bool, true, false, List, [], ◌∷◌, Some, refl, sym, ap, ap₂, subst, ◌∙◌, arith, eqb, eqb-true}
use Rattle.std.proofs.lemmas.Bool.{cond-true, cond-false, ne_eqb}
use Rattle.std.specs.List.{AllByRecursion}
use Rattle.mq_topic.specs.Rows.{Row}
use Rattle.mq_end.specs.State.{EndState}
use Rattle.mq_route.specs.declared.config.HubConfig.{HubConfig}
use Rattle.mq_route.specs.declared.connection_state.ConnectionState.{ConnectionState}
use Rattle.mq_route.specs.declared.connection_state.ConnectionState.TheVariants.{AwaitingConnect, ConnectedAs, Closed}
use Rattle.mq_route.specs.Hub.{HubSession, HubConnection}
use Rattle.mq_tables.specs.declared.sessions.session.BrokerSession.{BrokerSession}
use Rattle.mq_tables.specs.Sessions.{session_of, sessions_of, session_at, with_server, AreAscending}
use Rattle.mq_tables.proofs.OtherEnd.{first_key, some_is, stands_served}
use Rattle.mq_hub.specs.Inside.Invariant.{ConnectionHasSession, SessionMatchesConnection, HasSession}

module _ (key : ℕ) (e : EndState) where
  pub stands_as : (c : ℕ) (ts : List BrokerSession) → HasSession ts c → HasSession (with_server key e ts) c
  stands_as c ts stands = (stands_served key e) c ts ∙ stands

  backed_as : (most : ℕ) (ts : List BrokerSession) (s : ConnectionState) → ConnectionHasSession most ts s → ConnectionHasSession most (with_server key e ts) s
  backed_as most ts AwaitingConnect backed = tt
  backed_as most ts (ConnectedAs c terms last_activity) backed = (stands_as c ts backed.0, backed.1)
  backed_as most ts Closed backed = tt

  pub all_backed_as : (most : ℕ) (ts : List BrokerSession) (xs : List HubConnection) → AllByRecursion (λ x. ConnectionHasSession most ts x.stage) xs
      → AllByRecursion (λ x. ConnectionHasSession most (with_server key e ts) x.stage) xs
  all_backed_as most ts [] all = tt
  all_backed_as most ts (x ∷ xs) all = (backed_as most ts x.stage all.0, all_backed_as most ts xs all.1)

  pub all_owned_as : (ts : List BrokerSession) (rs : List Row) → AllByRecursion (λ r. HasSession ts r.0.0) rs → AllByRecursion (λ r. HasSession (with_server key e ts) r.0.0) rs
  all_owned_as ts [] all = tt
  all_owned_as ts (r ∷ rs) all = (stands_as r.0.0 ts all.0, all_owned_as ts rs all.1)

  module _ (t : BrokerSession) where
    -- an end that the definition sees as the one before
    pub sessions_as : (ts : List BrokerSession) → AreAscending ts → session_at key ts ≡ Some t → e.end ≡ t.end.end → sessions_of (with_server key e ts) ≡ sessions_of ts
    sessions_as [] up there same = refl
    sessions_as (s ∷ ts) up there same = go (eqb s.key key) refl (sessions_as ts up.1)
      where
        go : (b : Bool) → eqb s.key key ≡ b → (session_at key ts ≡ Some t → e.end ≡ t.end.end → sessions_of (with_server key e ts) ≡ sessions_of ts)
            → sessions_of (with_server key e (s ∷ ts)) ≡ sessions_of (s ∷ ts)
        go true at rest =
            let is : s ≡ t = some_is s t (sym (cond-true (eqb s.key key) (Some s) (session_at key ts) at) ∙ there) in
            ap₂ (λ (x : HubSession) (xs : List HubSession). x ∷ xs)
            (ap session_of (cond-true (eqb s.key key) (record s { end = e }) s at) ∙ ap (λ x. record (session_of s) { end = x }) (same ∙ ap (λ (u : BrokerSession). u.end.end) (sym is)))
            (ap sessions_of (first_key key s ts e at up.0))
        go false at rest =
            ap₂ (λ (x : HubSession) (xs : List HubSession). x ∷ xs) (ap session_of (cond-false (eqb s.key key) (record s { end = e }) s at))
            (rest (sym (cond-false (eqb s.key key) (Some s) (session_at key ts) at) ∙ there) same)

    module _ (config : HubConfig) (xs ys : List HubConnection) (other : (s : BrokerSession) → eqb s.key key ≡ false → SessionMatchesConnection config xs s → SessionMatchesConnection config ys s) where
      others_fitting : (low : ℕ) (ts : List BrokerSession) → eqb low key ≡ true → AllByRecursion (λ u. low < u.key) ts → AllByRecursion (SessionMatchesConnection config xs) ts → AllByRecursion (SessionMatchesConnection config ys) ts
      others_fitting low [] at above all = tt
      others_fitting low (s ∷ ts) at above all =
          let l = above.0 in
          let is = eqb-true low key at in
          (other s (ne_eqb s.key key (λ w. omega arith)) all.0, others_fitting low ts at above.1 all.1)

      -- the session with that end fits the new connections, and so do the others
      pub all_fitting_with : (ts : List BrokerSession) → AreAscending ts → session_at key ts ≡ Some t → SessionMatchesConnection config ys (record t { end = e }) → AllByRecursion (SessionMatchesConnection config xs) ts
          → AllByRecursion (SessionMatchesConnection config ys) (with_server key e ts)
      all_fitting_with [] up there here all = tt
      all_fitting_with (s ∷ ts) up there here all = go (eqb s.key key) refl (all_fitting_with ts up.1)
        where
          go : (b : Bool) → eqb s.key key ≡ b
              → (session_at key ts ≡ Some t → SessionMatchesConnection config ys (record t { end = e }) → AllByRecursion (SessionMatchesConnection config xs) ts → AllByRecursion (SessionMatchesConnection config ys) (with_server key e ts))
              → AllByRecursion (SessionMatchesConnection config ys) (with_server key e (s ∷ ts))
          go true at rest =
              let is : s ≡ t = some_is s t (sym (cond-true (eqb s.key key) (Some s) (session_at key ts) at) ∙ there) in (
                subst (SessionMatchesConnection config ys) (ap (λ (u : BrokerSession). record u { end = e }) (sym is) ∙ sym (cond-true (eqb s.key key) (record s { end = e }) s at)) here,
                subst (AllByRecursion (SessionMatchesConnection config ys)) (sym (first_key key s ts e at up.0)) (others_fitting s.key ts at up.0 all.1),
              )
          go false at rest = (
            subst (SessionMatchesConnection config ys) (sym (cond-false (eqb s.key key) (record s { end = e }) s at)) (other s at all.0),
            rest (sym (cond-false (eqb s.key key) (Some s) (session_at key ts) at) ∙ there) here all.1,
          )
