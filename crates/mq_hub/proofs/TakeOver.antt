-- A connected client connects on another connection.
use Rattle.std.proofs.Common.{◌≡◌, ◌||◌, ℕ, ◌+◌, ◌≤◌, ◌<◌, ◌^◌, not, Bool, true, false, List, [], ◌∷◌, ◌++◌, Option, Some, None, refl, sym, ap, ap₂, subst, ◌∙◌, arith, true≢false}
use Rattle.std.proofs.lemmas.Bool.{cond-true, cond-false}
use Rattle.mq_topic.specs.Rows.{without_client}
use Rattle.mq_packet.specs.declared.connect.Connect.{Connect}
use Rattle.mq_route.specs.declared.act.Act.{Act}
use Rattle.mq_route.specs.declared.act.Act.TheVariants as acts
use Rattle.mq_route.specs.declared.close.HubClose.TheVariants.{TakenOver}
use Rattle.mq_route.specs.declared.config.HubConfig.{HubConfig}
use Rattle.mq_route.specs.declared.conn.Conn.{Conn}
use Rattle.mq_route.specs.declared.connection_state.ConnectionState.TheVariants.{AwaitingConnect}
use Rattle.mq_route.specs.Arrives.{accept_connect, goes_on, resume_session, start_session, take_over}
use Rattle.mq_route.specs.Hub.{HubState, is_clean, stage_of, up_on, with_connection}
use Rattle.mq_route.specs.Welcome.{ends_on, ends_with}
use Rattle.mq_route.specs.Work.{Work, close, remove, remove_if}
use Rattle.mq_tables.specs.declared.rules.CopyRules.{CopyRules}
use Rattle.mq_tables.specs.declared.sessions.session.BrokerSession.{BrokerSession}
use Rattle.mq_tables.specs.Tables.{HubTables}
use Rattle.mq_tables.specs.Sessions.{without_key}
use Rattle.mq_tables.specs.Rules.{rules_of}
use Rattle.mq_hub.specs.Inside.Close.{close_at}
use Rattle.mq_hub.specs.Inside.Refinement.{Refines}
use Rattle.mq_hub.specs.Inside.Invariant.{HubInvariant, IsWillWithin}
use Rattle.mq_hub.specs.Inside.TableSteps.{Proceeds}
use Rattle.mq_hub.specs.Inside.ConnectRoom.{IsNewSession}
use Rattle.mq_hub.specs.Inside.View.{hub_of}
use Rattle.mq_hub.proofs.NewSession.{goes_begun, keeps_begun}
use Rattle.mq_hub.proofs.ConnectionChange.{stage_seen}
use Rattle.mq_hub.proofs.FirstPackets.{goes_as}
use Rattle.mq_hub.proofs.Refinements.{goes_then}
use Rattle.mq_hub.proofs.InvariantChanges.{kept_by}
use Rattle.mq_hub.proofs.RemovedSession.{goes_removed, hub_removed, kept_removed}
use Rattle.mq_hub.proofs.ConnectedSession.{is_anonymous, stage_by}
use Rattle.mq_hub.proofs.TableView.{hub_same}

-- ---- the session ends with the connection, or after it

-- the connection is closed, and the session ends with it if asked
abbrev pub over_by : Conn → ℕ → Bool → Bool → Work → Work
over_by k key ends fits w = remove_if (not ends) key (close k TakenOver fits w)

-- the same, if the session stores this time
abbrev pub over_at : ℕ → Conn → ℕ → Bool → Bool → Work → Work
over_at now k key ends fits w = remove_if (not ends) key (close_at now k TakenOver fits w)

module _ (rules : CopyRules) (now : ℕ) (k : Conn) (key : ℕ) (t v : HubTables) (did mid : List Act) (first : Proceeds rules (close_at now k TakenOver) t did v mid) where
  pub over_with : is_clean (stage_of k t.connections.connections) ≡ true → Proceeds rules (over_at now k key (is_clean (stage_of k t.connections.connections))) t did v mid
  over_with ends = subst (λ (b : Bool). Proceeds rules (over_at now k key b) t did v mid) (sym ends) (record {
    goes = first.goes;
    keeps = first.keeps;
    room = first.room;
    up_room = first.up_room;
    fresh = first.fresh;
  })

  pub over_after : (u : HubTables) (says : List Act) → is_clean (stage_of k t.connections.connections) ≡ false → up_on key v.connections.connections ≡ None
      → u.rows ≡ without_client key v.rows → u.sessions.list ≡ without_key key v.sessions.list → v.sessions.room ≤ u.sessions.room
      → u ≡ record v { rows = u.rows; sessions = u.sessions } → says ≡ mid ++ acts.Removed key ∷ []
      → Proceeds rules (over_at now k key (is_clean (stage_of k t.connections.connections))) t did u says
  over_after u says lasts none rows list more rest said =
      let retained = ap (λ (a : HubTables). a.retained.messages) rest in
      let connections = ap (λ (a : HubTables). a.connections.connections) rest in
      let limits = ap (λ (a : HubTables). a.connections.limits) rest in
      subst (λ (b : Bool). Proceeds rules (over_at now k key b) t did u says) (sym lasts) (record {
        goes = λ config clock next kept same.
            let h : HubState = hub_of config clock next t in
            let g : HubState = hub_of config clock next v in
            let i : HubState = hub_of config clock next u in
            let p = first.goes config clock next kept same in
            let left = first.keeps config next kept in (
              p.0,
              goes_then (close_at now k TakenOver p.0) (remove key) h g i did mid says p.1
                  (goes_removed key g i mid says (hub_removed key config next v u left none rows retained list connections clock) said),
            );
        keeps = λ config next kept. kept_removed key config next v u (first.keeps config next kept) none rows retained list connections limits;
        room = let a = first.room in omega arith;
        up_room = subst (λ (a : HubTables). t.connections.up_room ≤ a.connections.up_room) (sym rest) first.up_room;
        fresh = λ j at. ap (λ (a : HubTables). stage_of j a.connections.connections) rest ∙ first.fresh j at;
      })

-- ---- the CONNECT is admitted

module _ (k : Conn) (c : Connect) (client : List ℕ) (key : ℕ) (other : Conn) (fits : Bool) (h : HubState) (on : up_on key h.connections ≡ Some other) where
  ends_is : ends_with key h ≡ is_clean (stage_of other h.connections)
  ends_is = ap (λ (o : Option Conn). ends_on o h.connections) on

  -- the other connection is closed first
  admits : (w : Work) → w.hub ≡ h
      → accept_connect k c client (Some key) fits w ≡ goes_on k c client key (is_clean (stage_of other h.connections)) (close other TakenOver fits w)
  admits w e =
      ap₂ (λ (b : Bool) (o : Option Conn). goes_on k c client key b (take_over o fits w)) (ap (ends_with key) e ∙ ends_is)
      (ap (λ (s : HubState). up_on key s.connections) e ∙ on)

  -- a session begins
  anew : (w : Work) (ends : Bool) → (c.clean_session || ends) ≡ true → goes_on k c client key ends w ≡ start_session k c client (remove_if (not ends) key w)
  unfolding goes_on
  anew w true new = refl
  anew w false new = cond-true c.clean_session (start_session k c client (remove key w)) (resume_session k c key w) (or_left c.clean_session new)
    where
      or_left : (b : Bool) → (b || false) ≡ true → b ≡ true
      or_left true e = refl
      or_left false e = e

  -- or it resumes
  on_still : (w : Work) (ends : Bool) → ends ≡ false → c.clean_session ≡ false → goes_on k c client key ends w ≡ resume_session k c key w
  unfolding goes_on
  on_still w true lasts new = absurd (true≢false lasts)
  on_still w false lasts new = cond-false c.clean_session (start_session k c client (remove key w)) (resume_session k c key w) new

  pub goes_admitted : (g : HubState) (did says : List Act) → (c.clean_session || is_clean (stage_of other h.connections)) ≡ true
      → Refines (λ w. start_session k c client (over_by other key (is_clean (stage_of other h.connections)) fits w)) h did g says
      → Refines (accept_connect k c client (Some key) fits) h did g says
  goes_admitted g did says new p =
      goes_as (λ w. start_session k c client (over_by other key (is_clean (stage_of other h.connections)) fits w)) (accept_connect k c client (Some key) fits) h g did says
      (λ w e. admits w e ∙ anew (close other TakenOver fits w) (is_clean (stage_of other h.connections)) new) p

  pub goes_on_admitted : (g : HubState) (did says : List Act) → is_clean (stage_of other h.connections) ≡ false → c.clean_session ≡ false
      → Refines (λ w. resume_session k c key (close other TakenOver fits w)) h did g says → Refines (accept_connect k c client (Some key) fits) h did g says
  goes_on_admitted g did says lasts still p =
      goes_as (λ w. resume_session k c key (close other TakenOver fits w)) (accept_connect k c client (Some key) fits) h g did says
      (λ w e. admits w e ∙ on_still (close other TakenOver fits w) (is_clean (stage_of other h.connections)) lasts still) p

-- ---- room for a session

module _ (config : HubConfig) (next : ℕ) (t r : HubTables) (rest : r ≡ record t { sessions = r.sessions; connections = r.connections })
    (list : r.sessions.list ≡ t.sessions.list) (connections : r.connections.connections ≡ t.connections.connections) where
  pub kept_roomed : HubInvariant config next t → r.connections.limits ≡ t.connections.limits → HubInvariant config next r
  kept_roomed kept limits =
      kept_by config next t r kept (ap (λ (a : HubTables). a.rows) rest) (ap (λ (a : HubTables). a.retained.messages) rest) list connections limits

  pub hub_roomed : (clock : ℕ) → hub_of config clock next r ≡ hub_of config clock next t
  hub_roomed clock = hub_same config clock next t r (ap (λ (a : HubTables). a.rows) rest) (ap (λ (a : HubTables). a.retained.messages) rest) list connections

-- connections as the definition sees them
pub stage_there : (k : Conn) (config : HubConfig) (clock next : ℕ) (t : HubTables) (h : HubState) → hub_of config clock next t ≡ h
    → stage_of k t.connections.connections ≡ stage_of k h.connections
stage_there k config clock next t h is = sym (stage_seen k t.sessions.list t.connections.connections) ∙ ap (λ (s : HubState). stage_of k s.connections) is

-- the tables change, and then a session begins
module _ (rules : CopyRules) (change : Bool → Work → Work) (k : Conn) (c : Connect) (client : List ℕ) (config : HubConfig) (clock next : ℕ) (r v u : HubTables) (own : BrokerSession)
    (did mid says : List Act) (named : is_anonymous c ≡ false) (kept : HubInvariant config next r) (at : stage_of k r.connections.connections ≡ AwaitingConnect)
    (first : Proceeds rules change r did v mid) (begun : IsNewSession c client (hub_of config clock next r) own) (rest : u ≡ record v { sessions = u.sessions; connections = u.connections })
    (list : u.sessions.list ≡ v.sessions.list ++ own ∷ [])
    (connections : u.connections.connections ≡ with_connection (λ x. record x { stage = stage_by next c clock }) k v.connections.connections) where
  pub keeps_anew : IsWillWithin config.limits.most c.will → u.connections.limits ≡ v.connections.limits → next < 2 ^ 32 → HubInvariant config (next + 1) u
  keeps_anew will limits low =
      keeps_begun k c client named config clock next v u (first.keeps config next kept) (first.fresh k at) own begun.end begun.after begun.fresh
      (ap (λ (a : HubTables). a.rows) rest) (ap (λ (a : HubTables). a.retained.messages) rest) list connections will limits low begun.capacity begun.limit

  pub goes_anew : rules_of config ≡ rules → says ≡ mid ++ acts.Up k next false ∷ []
      → (fits : Bool) × Refines (λ w. start_session k c client (change fits w)) (hub_of config clock next r) did (hub_of config clock (next + 1) u) says
  goes_anew same said =
      let h : HubState = hub_of config clock next r in
      let g : HubState = hub_of config clock next v in
      let i : HubState = hub_of config clock (next + 1) u in
      let p = first.goes config clock next kept same in
      let up : Refines (start_session k c client) g mid i (mid ++ acts.Up k next false ∷ []) =
      goes_begun k c client named config clock next v u (first.keeps config next kept) (first.fresh k at) own begun.end begun.after begun.fresh
      (ap (λ (a : HubTables). a.rows) rest) (ap (λ (a : HubTables). a.retained.messages) rest) list connections mid in
      (p.0, goes_then (change p.0) (start_session k c client) h g i did mid says p.1 (subst (λ (a : List Act). Refines (start_session k c client) g mid i a) (sym said) up))
