-- A CONNECT takes over a session that resumes: the reserved room, the close that keeps it, and the
-- new connection.
use Rattle.std.proofs.Common.{◌≡◌, ℕ, ◌≤◌, Bool, true, false, cond, List, [], ◌∷◌, ◌++◌, map, Option, Some, None, refl, sym, ap, ap₂, subst, ◌∙◌, eqb}
use Rattle.std.specs.Option.{IfSome}
use Rattle.mq_packet.specs.declared.connect.Connect.{Connect}
use Rattle.mq_end.specs.State.{EndState}
use Rattle.mq_route.specs.declared.act.Act.{Act}
use Rattle.mq_route.specs.declared.act.Act.TheVariants as acts
use Rattle.mq_route.specs.declared.close.HubClose.{HubClose}
use Rattle.mq_route.specs.declared.config.HubConfig.{HubConfig}
use Rattle.mq_route.specs.declared.conn.Conn.{Conn}
use Rattle.mq_route.specs.declared.connection_state.ConnectionState.TheVariants.{AwaitingConnect}
use Rattle.mq_route.specs.Arrives.{resume_session}
use Rattle.mq_route.specs.Hub.{HubState, is_clean, key_on, stage_of, up_on, with_connection}
use Rattle.mq_route.specs.Work.{Work}
use Rattle.mq_tables.specs.declared.rules.CopyRules.{CopyRules}
use Rattle.mq_tables.specs.declared.sessions.session.BrokerSession.{BrokerSession}
use Rattle.mq_tables.specs.Connections.{left_with, ConnectionList}
use Rattle.mq_tables.specs.Connecting.{parted, left, HasConnected}
use Rattle.mq_tables.specs.Publishing.{roomless, AreSameButRoom}
use Rattle.mq_tables.specs.Tables.{HubTables}
use Rattle.mq_tables.specs.Sessions.{session_at, with_server}
use Rattle.mq_tables.specs.Rules.{rules_of}
use Rattle.mq_tables.proofs.LostConnection.{IsPartedBy}
use Rattle.mq_tables.proofs.SessionRoom.{same_session}
use Rattle.mq_tables.proofs.RoomToConnect.{changed_there, IsChanged, IsChangedBy}
use Rattle.mq_hub.specs.Inside.Requests.{AreAlike}
use Rattle.mq_hub.specs.Inside.Refinement.{Refines}
use Rattle.mq_hub.specs.Inside.Invariant.{HubInvariant, IsWillWithin}
use Rattle.mq_hub.specs.Inside.Close.{parts}
use Rattle.mq_hub.specs.Inside.TableSteps.{AreHubTables, Proceeds}
use Rattle.mq_hub.specs.Inside.View.{hub_of}
use Rattle.mq_hub.proofs.TakenOutput.{backed_at}
use Rattle.mq_hub.proofs.Refinements.{goes_then}
use Rattle.mq_hub.proofs.InvariantChanges.{kept_by}
use Rattle.mq_hub.proofs.TableParts.{proceeds_parted, up_none}
use Rattle.mq_hub.proofs.OtherRoom.{hub_alike, kept_alike, kept_ready}
use Rattle.mq_hub.proofs.ConnectedSession.{is_anonymous, goes_on_greeted, keeps_greeted, stage_by}
use Rattle.mq_hub.proofs.TableView.{hub_same}

-- ---- the room that is made first

-- the tables with other room in their sessions and connections
module _ (config : HubConfig) (next : ℕ) (t r : HubTables) (kept : HubInvariant config next t) (rest : r ≡ record t { sessions = r.sessions; connections = r.connections })
    (same : AreSameButRoom t.sessions.list r.sessions.list) (connections : r.connections.connections ≡ t.connections.connections) where
  abbrev between : HubTables
  between = record t { sessions = record t.sessions { list = r.sessions.list } }

  pub kept_made : r.connections.limits ≡ t.connections.limits → HubInvariant config next r
  kept_made limits =
      kept_by config next between r (kept_ready config next t kept r.sessions.list same t.rows kept.owned) (ap (λ (a : HubTables). a.rows) rest)
      (ap (λ (a : HubTables). a.retained.messages) rest) refl connections limits

  pub hub_made : (clock : ℕ) → hub_of config clock next r ≡ hub_of config clock next t
  hub_made clock =
      hub_same config clock next between r (ap (λ (a : HubTables). a.rows) rest) (ap (λ (a : HubTables). a.retained.messages) rest) refl connections
      ∙ hub_alike config next t kept clock between (record { rows = refl; retained = refl; sessions = same; connections = refl })

-- a copy of the pending output is still one
pub output_still : (key : ℕ) (b : List ℕ) (old new : List BrokerSession) → AreSameButRoom old new → IfSome (session_at key old) (λ s. b ≡ s.end.output)
    → IfSome (session_at key new) (λ s. b ≡ s.end.output)
output_still key b old new same says = go (session_at key new) refl
  where
    go : (o : Option BrokerSession) → session_at key new ≡ o → IfSome o (λ s. b ≡ s.end.output)
    go None e = tt
    go (Some n) e =
        let w = same_session key n new old (sym same) e in
        subst (λ (o : Option BrokerSession). IfSome o (λ s. b ≡ s.end.output)) w.1 says ∙ ap (λ (x : BrokerSession). x.end.output) w.2

-- ---- the close that keeps room

-- except for room, it is the end that lost its connection
same_left : (key : ℕ) (e : EndState) (ts : List BrokerSession) → AreSameButRoom (with_server key (parted e) ts) (with_server key (left e) ts)
same_left key e [] = refl
same_left key e (t ∷ ts) = ap₂ (λ (x : BrokerSession) (xs : List BrokerSession). x ∷ xs) (one (eqb t.key key)) (same_left key e ts)
  where
    one : (b : Bool) → roomless (cond b (record t { end = left e }) t) ≡ roomless (cond b (record t { end = parted e }) t)
    one true = refl
    one false = refl

-- a part of the step also leads to tables that are the same except for room
proceeds_alike : (rules : CopyRules) (change : Bool → Work → Work) (t v w : HubTables) (did says : List Act) → AreAlike v w → w.sessions.room ≡ v.sessions.room
    → Proceeds rules change t did v says
    → Proceeds rules change t did w says
proceeds_alike rules change t v w did says alike room p = record {
  goes = λ config clock next kept same.
      let q = p.goes config clock next kept same in (
        q.0,
        subst (λ (h : HubState). Refines (change q.0) (hub_of config clock next t) did h says)
            (sym (hub_alike config next v (p.keeps config next kept) clock w alike)) q.1,
      );
  keeps = λ config next kept. kept_alike config next v (p.keeps config next kept) w alike;
  room = subst (λ (n : ℕ). t.sessions.room ≤ n) (sym room) p.room;
  up_room = subst (λ (l : ConnectionList). t.connections.up_room ≤ l.up_room) (sym alike.connections) p.up_room;
  fresh = λ k first. ap (λ (l : ConnectionList). stage_of k l.connections) alike.connections ∙ p.fresh k first;
}

module _ (k : Conn) (why : HubClose) (key : ℕ) (t v : HubTables) (hubs : AreHubTables t) (up : key_on (stage_of k t.connections.connections) ≡ Some key)
    (list : IsChangedBy left key t.sessions.list v.sessions.list)
    (connections : IfSome (session_at key t.sessions.list) (λ s. v.connections.connections ≡ with_connection (left_with s.end.output) k t.connections.connections))
    (limits : v.connections.limits ≡ t.connections.limits) (room : v.sessions.room ≡ t.sessions.room) (up_room : t.connections.up_room ≤ v.connections.up_room)
    (rest : v ≡ record t { sessions = v.sessions; connections = v.connections }) where
  detach : IsChanged left key t.sessions.list v.sessions.list
  detach =
      changed_there left key t.sessions.list v.sessions.list
      (backed_at hubs.config.limits.most k key t.sessions.list t.connections.connections hubs.keeps.backed up) list

  -- the tables whose end lost its room
  abbrev bare : HubTables
  bare = record v { sessions = record v.sessions { list = with_server key (parted detach.session.end) t.sessions.list } }

  bare_list : IsPartedBy key t.sessions.list bare.sessions.list
  bare_list = subst (λ (o : Option BrokerSession). IfSome o (λ s. bare.sessions.list ≡ with_server key (parted s.end) t.sessions.list)) (sym detach.there) refl

  bare_rest : bare ≡ record t { sessions = bare.sessions; connections = bare.connections }
  bare_rest = ap (λ (a : HubTables). record a { sessions = bare.sessions }) rest

  pub none_up_with : up_on key v.connections.connections ≡ None
  none_up_with = up_none k why key t bare hubs up bare_list connections limits room up_room bare_rest

  pub proceeds_with : (rules : CopyRules) (did says : List Act) → is_clean (stage_of k t.connections.connections) ≡ false → says ≡ did ++ acts.Closed k why ∷ []
      → Proceeds rules (λ fits. parts k why key false) t did v says
  proceeds_with rules did says lasts said =
      proceeds_alike rules (λ fits. parts k why key false) t bare v did says
      (record { rows = refl; retained = refl; sessions = ap (map roomless) detach.after ∙ same_left key detach.session.end t.sessions.list; connections = refl }) refl
      (proceeds_parted k why key t bare hubs up bare_list connections limits room up_room bare_rest rules did says lasts said)

-- ---- the connection is connected

module _ (rules : CopyRules) (change : Bool → Work → Work) (k : Conn) (c : Connect) (key : ℕ) (config : HubConfig) (clock next : ℕ) (r v u : HubTables) (did mid says : List Act)
    (named : is_anonymous c ≡ false) (kept : HubInvariant config next r) (at : stage_of k r.connections.connections ≡ AwaitingConnect) (first : Proceeds rules change r did v mid)
    (away : up_on key v.connections.connections ≡ None) (greeted : HasConnected c clock key v.sessions.list u.sessions.list)
    (rest : u ≡ record v { sessions = u.sessions; connections = u.connections })
    (connections : u.connections.connections ≡ with_connection (λ x. record x { stage = stage_by key c clock }) k v.connections.connections) where
  pub keeps_over : IsWillWithin config.limits.most c.will → u.connections.limits ≡ v.connections.limits → HubInvariant config next u
  keeps_over will limits =
      keeps_greeted k c key named config clock next v u (first.keeps config next kept) away (first.fresh k at) greeted (ap (λ (a : HubTables). a.rows) rest)
      (ap (λ (a : HubTables). a.retained.messages) rest) connections will limits

  pub goes_over : rules_of config ≡ rules → c.clean_session ≡ false → says ≡ mid ++ acts.Up k key true ∷ []
      → (fits : Bool) × Refines (λ w. resume_session k c key (change fits w)) (hub_of config clock next r) did (hub_of config clock next u) says
  goes_over same going said =
      let h : HubState = hub_of config clock next r in
      let g : HubState = hub_of config clock next v in
      let i : HubState = hub_of config clock next u in
      let p = first.goes config clock next kept same in
      let up : Refines (resume_session k c key) g mid i (mid ++ acts.Up k key true ∷ []) =
      goes_on_greeted k c key named config clock next v u (first.keeps config next kept) away (first.fresh k at) greeted (ap (λ (a : HubTables). a.rows) rest)
      (ap (λ (a : HubTables). a.retained.messages) rest) connections going mid in
      (p.0, goes_then (change p.0) (resume_session k c key) h g i did mid says p.1 (subst (λ (a : List Act). Refines (resume_session k c key) g mid i a) (sym said) up))
