-- A session stores the time of its client's last disconnect.
use Rattle.std.proofs.Common.{◌≡◌, ℕ, ◌≤◌, Bool, List, [], ◌∷◌, Option, Some, None, refl, sym, ap, ap₂, subst, ◌∙◌, arith, eqb}
use Rattle.std.proofs.lemmas.Bool.{cond_both}
use Rattle.std.specs.List.{AllByRecursion}
use Rattle.mq_topic.specs.Rows.{Row}
use Rattle.mq_route.specs.declared.act.Act.{Act}
use Rattle.mq_route.specs.declared.close.HubClose.{HubClose}
use Rattle.mq_route.specs.declared.config.HubConfig.{HubConfig}
use Rattle.mq_route.specs.declared.conn.Conn.{Conn}
use Rattle.mq_route.specs.declared.connection_state.ConnectionState.{ConnectionState}
use Rattle.mq_route.specs.declared.connection_state.ConnectionState.TheVariants.{AwaitingConnect, ConnectedAs, Closed}
use Rattle.mq_route.specs.Hub.{HubState, HubSession, HubConnection, key_on, stage_of, with_left}
use Rattle.mq_route.specs.Work.{Work, shut_down, close}
use Rattle.mq_tables.specs.declared.rules.CopyRules.{CopyRules}
use Rattle.mq_tables.specs.declared.sessions.session.BrokerSession.{BrokerSession}
use Rattle.mq_tables.specs.Sessions.{marked_at, sessions_of}
use Rattle.mq_tables.specs.Tables.{HubTables}
use Rattle.mq_tables.proofs.DisconnectTimes.{ascending_marked, below_marked, output_marked, sessions_marked, stamped, there_marked}
use Rattle.mq_hub.specs.Inside.Close.{close_at}
use Rattle.mq_hub.specs.Inside.Invariant.{HubInvariant, ConnectionHasSession, HasSession, SessionMatchesConnection}
use Rattle.mq_hub.specs.Inside.Refinement.{Refines}
use Rattle.mq_hub.specs.Inside.TableSteps.{Proceeds}
use Rattle.mq_hub.specs.Inside.View.{all_seen, hub_of, waiting_by}
use Rattle.mq_hub.proofs.ConnectionChange.{stage_seen}
use Rattle.mq_hub.proofs.InvariantChanges.{kept_by}

module _ (key now : ℕ) where
  seen_marked : (ts : List BrokerSession) (xs : List HubConnection) → all_seen (marked_at key now ts) xs ≡ all_seen ts xs
  seen_marked ts [] = refl
  seen_marked ts (x ∷ xs) = ap₂ (λ (b : List ℕ) (ys : List HubConnection). record x { waiting = b } ∷ ys) (go x.stage) (seen_marked ts xs)
    where
      go : (s : ConnectionState) → waiting_by s (marked_at key now ts) x.waiting ≡ waiting_by s ts x.waiting
      go AwaitingConnect = refl
      go (ConnectedAs c terms last_activity) = (output_marked key now) c ts
      go Closed = refl

  backed_marked : (most : ℕ) (ts : List BrokerSession) (xs : List HubConnection) → AllByRecursion (λ x. ConnectionHasSession most ts x.stage) xs
      → AllByRecursion (λ x. ConnectionHasSession most (marked_at key now ts) x.stage) xs
  backed_marked most ts [] all = tt
  backed_marked most ts (x ∷ xs) all = (go x.stage all.0, backed_marked most ts xs all.1)
    where
      go : (s : ConnectionState) → ConnectionHasSession most ts s → ConnectionHasSession most (marked_at key now ts) s
      go AwaitingConnect backed = tt
      go (ConnectedAs c terms last_activity) backed = (there_marked key now c ts ∙ backed.0, backed.1)
      go Closed backed = tt

  fitting_marked : (config : HubConfig) (xs : List HubConnection) (ts : List BrokerSession) → AllByRecursion (SessionMatchesConnection config xs) ts
      → AllByRecursion (SessionMatchesConnection config xs) (marked_at key now ts)
  fitting_marked config xs [] all = tt
  fitting_marked config xs (t ∷ ts) all =
      (cond_both (eqb t.key key) (stamped key now t) t (SessionMatchesConnection config xs) (λ e. same all.0) (λ e. all.0), fitting_marked config xs ts all.1)
    where
      same : SessionMatchesConnection config xs t → SessionMatchesConnection config xs (stamped key now t)
      same fits = record {
        capacity = fits.capacity;
        limit = fits.limit;
        window = fits.window;
        known = fits.known;
        state = fits.state;
        clean = fits.clean;
        keep_alive = fits.keep_alive;
        claims = fits.claims;
        away = fits.away;
      }

  owned_marked : (ts : List BrokerSession) (rows : List Row) → AllByRecursion (λ r. HasSession ts r.0.0) rows → AllByRecursion (λ r. HasSession (marked_at key now ts) r.0.0) rows
  owned_marked ts [] all = tt
  owned_marked ts (r ∷ rows) all = (there_marked key now r.0.0 ts ∙ all.0, owned_marked ts rows all.1)

  -- ---- a part of a step

  module _ (t u : HubTables) (list : u.sessions.list ≡ marked_at key now t.sessions.list) (rest : u ≡ record t { sessions = u.sessions }) where
    pub kept_marked : (config : HubConfig) (next : ℕ) → HubInvariant config next t → HubInvariant config next u
    kept_marked config next kept =
        let ts = t.sessions.list in
        let xs = t.connections.connections in
        let v : HubTables = record t { sessions = record t.sessions { list = marked_at key now ts } } in
        let w : HubInvariant config next v = record {
          capacity = kept.capacity;
          window = kept.window;
          limits = kept.limits;
          apart = kept.apart;
          quiet = kept.quiet;
          backed = backed_marked config.limits.most ts xs kept.backed;
          fitting = fitting_marked config xs ts kept.fitting;
          ascending = (ascending_marked key now) ts kept.ascending;
          below = (below_marked key now) next ts kept.below;
          next = kept.next;
          owned = owned_marked ts t.rows kept.owned;
          retained = kept.retained;
        } in
        kept_by config next v u w (ap (λ (a : HubTables). a.rows) rest) (ap (λ (a : HubTables). a.retained.messages) rest) list
        (ap (λ (a : HubTables). a.connections.connections) rest) (ap (λ (a : HubTables). a.connections.limits) rest)

    hub_marked : (config : HubConfig) (clock next : ℕ) → record (hub_of config clock next t) { sessions = with_left (Some key) now (sessions_of t.sessions.list) } ≡ hub_of config clock next u
    hub_marked config clock next = sym (λ i. record {
      config = config;
      clock = clock;
      next_key = next;
      rows = (rest i).rows;
      retained = (rest i).retained.messages;
      sessions = (ap sessions_of list ∙ (sessions_marked key now) t.sessions.list) i;
      connections = ((λ j. all_seen (list j) (rest j).connections.connections) ∙ seen_marked t.sessions.list t.connections.connections) i;
    })

    -- a connection was shut down, and its session stores the time
    pub proceeds_marked : (rules : CopyRules) (k : Conn) (why : HubClose) (old : HubTables) (did says : List Act) → key_on (stage_of k old.connections.connections) ≡ Some key
        → u.sessions.room ≡ t.sessions.room → Proceeds rules (shut_down k why) old did t says → Proceeds rules (close_at now k why) old did u says
    proceeds_marked rules k why old did says up room p = record {
      goes = λ config clock next kept same.
          let h = hub_of config clock next old in
          let q = p.goes config clock next kept same in
          let on : key_on (stage_of k h.connections) ≡ Some key = ap key_on (stage_seen k old.sessions.list old.connections.connections) ∙ up in (
            q.0,
            record {
              hub = λ w e f.
                  (λ i. record (q.1.hub w e f i) { sessions = with_left ((ap (λ (a : HubState). key_on (stage_of k a.connections)) e ∙ on) i) now (q.1.hub w e f i).sessions })
                  ∙ hub_marked config clock next;
              did = λ w e f. q.1.did w e f;
            },
          );
      keeps = λ config next kept. kept_marked config next (p.keeps config next kept);
      room = let a = p.room in omega (arith, a, room);
      up_room = subst (λ (a : HubTables). old.connections.up_room ≤ a.connections.up_room) (sym rest) p.up_room;
      fresh = λ j first. ap (λ (a : HubTables). stage_of j a.connections.connections) rest ∙ p.fresh j first;
    }

-- a connection on which no client is connected
none_left : (now : ℕ) (ss : List HubSession) → with_left None now ss ≡ ss
none_left now [] = refl
none_left now (s ∷ ss) = ap (λ (xs : List HubSession). s ∷ xs) (none_left now ss)

-- is closed without a time
pub idle_close : (k : Conn) (why : HubClose) (fits : Bool) (w : Work) → key_on (stage_of k w.hub.connections) ≡ None → close k why fits w ≡ shut_down k why fits w
unfolding close
idle_close k why fits w none =
    let v = shut_down k why fits w in
    λ i. record v { hub = record v.hub { sessions = (ap (λ (o : Option ℕ). with_left o w.hub.clock v.hub.sessions) none ∙ none_left w.hub.clock v.hub.sessions) i } }

-- the time is that of the broker's clock
pub at_clock : (k : Conn) (why : HubClose) (fits : Bool) (now : ℕ) (w : Work) → w.hub.clock ≡ now → close k why fits w ≡ close_at now k why fits w
unfolding close
at_clock k why fits now w is = ap (λ (n : ℕ). close_at n k why fits w) is

pub closed_at : (change : Work → Work) (k : Conn) (why : HubClose) (fits : Bool) (h g : HubState) (did says : List Act) → Refines (λ w. change (close_at h.clock k why fits w)) h did g says
    → Refines (λ w. change (close k why fits w)) h did g says
closed_at change k why fits h g did says goes = record {
  hub = λ w e f. ap (λ (v : Work). (change v).hub) (at_clock k why fits h.clock w (ap (λ (a : HubState). a.clock) e)) ∙ goes.hub w e f;
  did = λ w e f. ap (λ (v : Work). (change v).did) (at_clock k why fits h.clock w (ap (λ (a : HubState). a.clock) e)) ∙ goes.did w e f;
}
