use Rattle.std.proofs.Common.{◌≡◌, ◌∙◌, ◌<◌, ◌^◌, ◌+◌, ◌++◌, ◌∷◌, [], false, None, ℕ, List, sym, ap, ap₂, subst}
use Rattle.mq_topic.specs.Rows.{without_client}
use Rattle.mq_route.specs.declared.act.Act.{Act}
use Rattle.mq_route.specs.declared.act.Act.TheVariants as acts
use Rattle.mq_route.specs.declared.connection_state.ConnectionState.TheVariants.{AwaitingConnect, ConnectedAs}
use Rattle.mq_route.specs.declared.connection_state.ConnectionTerms.{ConnectionTerms}
use Rattle.mq_route.specs.Arrives.{start_session}
use Rattle.mq_route.specs.Hub.{HubState, HubConnection, key_of, stage_of, up_on, with_connection, without_session}
use Rattle.mq_route.specs.Work.{remove}
use Rattle.mq_tables.specs.declared.sessions.session.BrokerSession.{BrokerSession}
use Rattle.mq_tables.specs.Tables.{HubTables}
use Rattle.mq_tables.specs.Sessions.{sessions_of, AreBelow}
use Rattle.mq_hub.specs.Inside.Refinement.{Refines}
use Rattle.mq_hub.specs.Inside.Invariant.{HubInvariant, IsWillWithin}
use Rattle.mq_hub.specs.Inside.ConnectRoom.{IsNewSession}
use Rattle.mq_hub.specs.Inside.View.{hub_of}
use Rattle.mq_hub.proofs.NewSession.{goes_begun, keeps_begun, none_up}
use Rattle.mq_hub.proofs.ConnectionChange.{stage_seen, up_seen}
use Rattle.mq_hub.proofs.Refinements.{goes_then}
use Rattle.mq_hub.proofs.InvariantChanges.{kept_by}
use Rattle.mq_hub.proofs.RemovedSession.{goes_removed, hub_removed, kept_removed}
use Rattle.mq_hub.proofs.TableView.{hub_same}
use Rattle.mq_hub.proofs.hub.HubOver.replace_session.Goals as goal

pub begin-requires-clause-stage : goal.begin-requires-clause-stage
begin-requires-clause-stage g c =
    let t : HubTables = c.self.inside.tables in
    let k = c.args.conn in
    ap (λ (a : HubTables). stage_of k a.connections.connections) c.remove.ensures.rest ∙ ap (λ (xs : List HubConnection). stage_of k xs) c.reserve_session.ensures.connections
    ∙ sym (stage_seen k t.sessions.list t.connections.connections) ∙ ap (λ (s : HubState). stage_of k s.connections) c.self.view_is ∙ c.requires.fresh

pub begin-requires-clause-away : goal.begin-requires-clause-away
begin-requires-clause-away g c =
    let h = c.self.inside in
    let t : HubTables = h.tables in
    let r : HubTables = c.reserve_session.new.self in
    let v : HubTables = c.remove.new.self in
    let k = c.args.conn in
    let key = c.args.key in
    let ready = c.reserve_session.ensures.rest in
    let rows = ap (λ (a : HubTables). a.rows) ready in
    let retained = ap (λ (a : HubTables). a.retained.messages) ready in
    let kept : HubInvariant h.config h.next_key r =
    kept_by h.config h.next_key t r c.self.invariant rows retained c.reserve_session.ensures.list c.reserve_session.ensures.connections c.reserve_session.ensures.limits in
    let none : up_on key r.connections.connections ≡ None =
    ap (λ (xs : List HubConnection). up_on key xs) c.reserve_session.ensures.connections
    ∙ sym (up_seen key t.sessions.list t.connections.connections) ∙ ap (λ (s : HubState). up_on key s.connections) c.self.view_is ∙ c.requires.away in
    let gone = c.remove.ensures.rest in
    let left : HubInvariant h.config h.next_key v =
    kept_removed key h.config h.next_key r v kept none c.remove.ensures.rows (ap (λ (a : HubTables). a.retained.messages) gone) c.remove.ensures.list
    (ap (λ (a : HubTables). a.connections.connections) gone) (ap (λ (a : HubTables). a.connections.limits) gone) in
    let own : BrokerSession = c.in_ok-beginning.beginning.boxed in
    let begun = subst (λ (s : HubState). IsNewSession c.args.connect c.args.client s own) (sym c.self.view_is) c.in_ok-beginning.ensures.boxed in
    ap (λ (s : BrokerSession). up_on s.key v.connections.connections) begun.after
    ∙ none_up h.next_key h.config.limits.most v.sessions.list v.connections.connections left.below left.backed

pub begin-requires-clause-key : goal.begin-requires-clause-key
begin-requires-clause-key g c =
    let h = c.self.inside in
    let t : HubTables = h.tables in
    let r : HubTables = c.reserve_session.new.self in
    let v : HubTables = c.remove.new.self in
    let k = c.args.conn in
    let key = c.args.key in
    let ready = c.reserve_session.ensures.rest in
    let rows = ap (λ (a : HubTables). a.rows) ready in
    let retained = ap (λ (a : HubTables). a.retained.messages) ready in
    let kept : HubInvariant h.config h.next_key r =
    kept_by h.config h.next_key t r c.self.invariant rows retained c.reserve_session.ensures.list c.reserve_session.ensures.connections c.reserve_session.ensures.limits in
    let none : up_on key r.connections.connections ≡ None =
    ap (λ (xs : List HubConnection). up_on key xs) c.reserve_session.ensures.connections
    ∙ sym (up_seen key t.sessions.list t.connections.connections) ∙ ap (λ (s : HubState). up_on key s.connections) c.self.view_is ∙ c.requires.away in
    let gone = c.remove.ensures.rest in
    let left : HubInvariant h.config h.next_key v =
    kept_removed key h.config h.next_key r v kept none c.remove.ensures.rows (ap (λ (a : HubTables). a.retained.messages) gone) c.remove.ensures.list
    (ap (λ (a : HubTables). a.connections.connections) gone) (ap (λ (a : HubTables). a.connections.limits) gone) in
    let own : BrokerSession = c.in_ok-beginning.beginning.boxed in
    let begun = subst (λ (s : HubState). IsNewSession c.args.connect c.args.client s own) (sym c.self.view_is) c.in_ok-beginning.ensures.boxed in
    subst (λ (n : ℕ). AreBelow n v.sessions.list) (sym (ap (λ (s : BrokerSession). s.key) begun.after)) left.below

pub begin-requires-clause-client : goal.begin-requires-clause-client
begin-requires-clause-client g c =
    let v : HubTables = c.remove.new.self in
    ap (λ (s : BrokerSession). key_of s.client (sessions_of v.sessions.list)) c.in_ok-beginning.ensures.boxed.after
    ∙ c.remove.ensures.client c.args.client
    (ap (λ (ts : List BrokerSession). key_of c.args.client (sessions_of ts)) c.reserve_session.ensures.list
    ∙ ap (λ (s : HubState). key_of c.args.client s.sessions) c.self.view_is ∙ c.requires.stands)

pub invariant_of-self-2 : goal.invariant_of-self-2
invariant_of-self-2 g c =
    let h = c.self.inside in
    let t : HubTables = h.tables in
    let r : HubTables = c.reserve_session.new.self in
    let v : HubTables = c.remove.new.self in
    let k = c.args.conn in
    let key = c.args.key in
    let ready = c.reserve_session.ensures.rest in
    let rows = ap (λ (a : HubTables). a.rows) ready in
    let retained = ap (λ (a : HubTables). a.retained.messages) ready in
    let kept : HubInvariant h.config h.next_key r =
    kept_by h.config h.next_key t r c.self.invariant rows retained c.reserve_session.ensures.list c.reserve_session.ensures.connections c.reserve_session.ensures.limits in
    let none : up_on key r.connections.connections ≡ None =
    ap (λ (xs : List HubConnection). up_on key xs) c.reserve_session.ensures.connections
    ∙ sym (up_seen key t.sessions.list t.connections.connections) ∙ ap (λ (s : HubState). up_on key s.connections) c.self.view_is ∙ c.requires.away in
    let gone = c.remove.ensures.rest in
    let left : HubInvariant h.config h.next_key v =
    kept_removed key h.config h.next_key r v kept none c.remove.ensures.rows (ap (λ (a : HubTables). a.retained.messages) gone) c.remove.ensures.list
    (ap (λ (a : HubTables). a.connections.connections) gone) (ap (λ (a : HubTables). a.connections.limits) gone) in
    let at : stage_of k v.connections.connections ≡ AwaitingConnect =
    ap (λ (a : HubTables). stage_of k a.connections.connections) gone ∙ ap (λ (xs : List HubConnection). stage_of k xs) c.reserve_session.ensures.connections
    ∙ sym (stage_seen k t.sessions.list t.connections.connections) ∙ ap (λ (s : HubState). stage_of k s.connections) c.self.view_is ∙ c.requires.fresh in
    let own : BrokerSession = c.in_ok-beginning.beginning.boxed in
    let begun = subst (λ (s : HubState). IsNewSession c.args.connect c.args.client s own) (sym c.self.view_is) c.in_ok-beginning.ensures.boxed in
    let u : HubTables = c.begin.new.self in
    let after = c.begin.ensures.rest in
    let connections = c.begin.ensures.connections
    ∙ ap₂ (λ (n : ℕ) (m : ConnectionTerms). with_connection (λ x. record x { stage = ConnectedAs n m h.clock }) k v.connections.connections) (ap (λ (s : BrokerSession). s.key) begun.after) c.in_ok-beginning.ensures.terms in
    keeps_begun k c.args.connect c.args.client c.requires.named h.config h.clock h.next_key v u left at own begun.end begun.after begun.fresh
    (ap (λ (a : HubTables). a.rows) after) (ap (λ (a : HubTables). a.retained.messages) after) c.begin.ensures.list connections
    (subst (λ (s : HubState). IsWillWithin s.config.limits.most c.args.connect.will) (sym c.self.view_is) c.requires.will) c.begin.ensures.limits
    (subst (λ (s : HubState). s.next_key < 2 ^ 32) (sym c.self.view_is) c.requires.next) begun.capacity begun.limit

pub returns-clause-goes : goal.returns-clause-goes
returns-clause-goes g c =
    let h = c.self.inside in
    let t : HubTables = h.tables in
    let r : HubTables = c.reserve_session.new.self in
    let v : HubTables = c.remove.new.self in
    let k = c.args.conn in
    let key = c.args.key in
    let ready = c.reserve_session.ensures.rest in
    let rows = ap (λ (a : HubTables). a.rows) ready in
    let retained = ap (λ (a : HubTables). a.retained.messages) ready in
    let kept : HubInvariant h.config h.next_key r =
    kept_by h.config h.next_key t r c.self.invariant rows retained c.reserve_session.ensures.list c.reserve_session.ensures.connections c.reserve_session.ensures.limits in
    let none : up_on key r.connections.connections ≡ None =
    ap (λ (xs : List HubConnection). up_on key xs) c.reserve_session.ensures.connections
    ∙ sym (up_seen key t.sessions.list t.connections.connections) ∙ ap (λ (s : HubState). up_on key s.connections) c.self.view_is ∙ c.requires.away in
    let gone = c.remove.ensures.rest in
    let left : HubInvariant h.config h.next_key v =
    kept_removed key h.config h.next_key r v kept none c.remove.ensures.rows (ap (λ (a : HubTables). a.retained.messages) gone) c.remove.ensures.list
    (ap (λ (a : HubTables). a.connections.connections) gone) (ap (λ (a : HubTables). a.connections.limits) gone) in
    let at : stage_of k v.connections.connections ≡ AwaitingConnect =
    ap (λ (a : HubTables). stage_of k a.connections.connections) gone ∙ ap (λ (xs : List HubConnection). stage_of k xs) c.reserve_session.ensures.connections
    ∙ sym (stage_seen k t.sessions.list t.connections.connections) ∙ ap (λ (s : HubState). stage_of k s.connections) c.self.view_is ∙ c.requires.fresh in
    let own : BrokerSession = c.in_ok-beginning.beginning.boxed in
    let begun = subst (λ (s : HubState). IsNewSession c.args.connect c.args.client s own) (sym c.self.view_is) c.in_ok-beginning.ensures.boxed in
    let u : HubTables = c.begin.new.self in
    let after = c.begin.ensures.rest in
    let connections = c.begin.ensures.connections
    ∙ ap₂ (λ (n : ℕ) (m : ConnectionTerms). with_connection (λ x. record x { stage = ConnectedAs n m h.clock }) k v.connections.connections) (ap (λ (s : BrokerSession). s.key) begun.after) c.in_ok-beginning.ensures.terms in
    let did = c.args.log.now.acts in
    let middle = c.push.new.self.acts in
    let a : HubState = c.args.self.now in
    let b : HubState = hub_of h.config h.clock h.next_key v in
    let d : HubState = hub_of h.config h.clock (h.next_key + 1) u in
    let first : Refines (remove key) a did b middle =
    goes_removed key a b did middle
    (hub_removed key h.config h.next_key r v kept none c.remove.ensures.rows (ap (λ (s : HubTables). s.retained.messages) gone) c.remove.ensures.list
    (ap (λ (s : HubTables). s.connections.connections) gone) h.clock
    ∙ ap (λ (s : HubState). record s { rows = without_client key s.rows; sessions = without_session key s.sessions })
    (hub_same h.config h.clock h.next_key t r rows retained c.reserve_session.ensures.list c.reserve_session.ensures.connections ∙ c.self.view_is))
    c.push.ensures.acts in
    let second : Refines (start_session k c.args.connect c.args.client) b middle d (middle ++ acts.Up k h.next_key false ∷ []) =
    goes_begun k c.args.connect c.args.client c.requires.named h.config h.clock h.next_key v u left at own begun.end begun.after begun.fresh
    (ap (λ (a : HubTables). a.rows) after) (ap (λ (a : HubTables). a.retained.messages) after) c.begin.ensures.list connections middle in
    let next = ap (λ (s : HubState). s.next_key) c.self.view_is ∙ sym c.next_key-next.ensures in
    subst (λ (says : List Act). Refines (λ w. start_session k c.args.connect c.args.client (remove key w)) a did d says)
    (ap (λ (n : ℕ). middle ++ acts.Up k n false ∷ []) next ∙ sym c.push-2.ensures.acts)
    (goes_then (remove key) (start_session k c.args.connect c.args.client) a b d did middle (middle ++ acts.Up k h.next_key false ∷ []) first second)
