use Rattle.std.proofs.Common.{◌≡◌, ◌∙◌, ◌<◌, ◌^◌, ◌+◌, ◌++◌, ◌∷◌, [], false, ℕ, List, sym, ap, ap₂, subst}
use Rattle.mq_route.specs.declared.act.Act.{Act}
use Rattle.mq_route.specs.declared.act.Act.TheVariants as acts
use Rattle.mq_route.specs.declared.connection_state.ConnectionState.TheVariants.{AwaitingConnect, ConnectedAs}
use Rattle.mq_route.specs.declared.connection_state.ConnectionTerms.{ConnectionTerms}
use Rattle.mq_route.specs.Arrives.{start_session, terms_of}
use Rattle.mq_route.specs.Hub.{HubState, HubConnection, stage_of, up_on, with_connection}
use Rattle.mq_tables.specs.declared.sessions.session.BrokerSession.{BrokerSession}
use Rattle.mq_tables.specs.Tables.{HubTables}
use Rattle.mq_hub.specs.Inside.Refinement.{Refines}
use Rattle.mq_hub.specs.Inside.Invariant.{IsWillWithin}
use Rattle.mq_hub.specs.Inside.ConnectRoom.{IsNewSession}
use Rattle.mq_hub.specs.Inside.View.{hub_of}
use Rattle.mq_hub.proofs.NewSession.{goes_begun, keeps_begun, none_up}
use Rattle.mq_hub.proofs.ConnectionChange.{stage_seen}
use Rattle.mq_hub.proofs.hub.HubOver.start_session.Goals as goal

pub begin-requires-clause-stage : goal.begin-requires-clause-stage
begin-requires-clause-stage g c =
    let t : HubTables = c.self.inside.tables in
    let k = c.args.conn in
    ap (λ (xs : List HubConnection). stage_of k xs) c.reserve_session.ensures.connections
    ∙ sym (stage_seen k t.sessions.list t.connections.connections) ∙ ap (λ (s : HubState). stage_of k s.connections) c.self.view_is ∙ c.requires.fresh

pub begin-requires-clause-away : goal.begin-requires-clause-away
begin-requires-clause-away g c =
    let h = c.self.inside in
    let t : HubTables = h.tables in
    let r : HubTables = c.reserve_session.new.self in
    let begun = subst (λ (s : HubState). IsNewSession c.args.connect c.args.client s c.in_ok-beginning.beginning.boxed) (sym c.self.view_is) c.in_ok-beginning.ensures.boxed in
    ap (λ (s : BrokerSession). up_on s.key r.connections.connections) begun.after
    ∙ ap (λ (xs : List HubConnection). up_on h.next_key xs) c.reserve_session.ensures.connections
    ∙ none_up h.next_key h.config.limits.most t.sessions.list t.connections.connections c.self.invariant.below c.self.invariant.backed

pub invariant_of-self-2 : goal.invariant_of-self-2
invariant_of-self-2 g c =
    let h = c.self.inside in
    let t : HubTables = h.tables in
    let u : HubTables = c.begin.new.self in
    let k = c.args.conn in
    let own : BrokerSession = c.in_ok-beginning.beginning.boxed in
    let begun = subst (λ (s : HubState). IsNewSession c.args.connect c.args.client s own) (sym c.self.view_is) c.in_ok-beginning.ensures.boxed in
    let at : stage_of k t.connections.connections ≡ AwaitingConnect =
    sym (stage_seen k t.sessions.list t.connections.connections) ∙ ap (λ (s : HubState). stage_of k s.connections) c.self.view_is ∙ c.requires.fresh in
    let ready = c.reserve_session.ensures.rest in
    let after = c.begin.ensures.rest in
    let connections = c.begin.ensures.connections
    ∙ ap₂ (λ (n : ℕ) (m : ConnectionTerms). with_connection (λ x. record x { stage = ConnectedAs n m h.clock }) k c.reserve_session.new.self.connections.connections) (ap (λ (s : BrokerSession). s.key) begun.after) c.in_ok-beginning.ensures.terms
    ∙ ap (λ (xs : List HubConnection). with_connection (λ x. record x { stage = ConnectedAs h.next_key (terms_of c.args.connect) h.clock }) k xs) c.reserve_session.ensures.connections in
    keeps_begun k c.args.connect c.args.client c.requires.named h.config h.clock h.next_key t u c.self.invariant at own begun.end begun.after begun.fresh
    (ap (λ (v : HubTables). v.rows) after ∙ ap (λ (v : HubTables). v.rows) ready)
    (ap (λ (v : HubTables). v.retained.messages) after ∙ ap (λ (v : HubTables). v.retained.messages) ready)
    (c.begin.ensures.list ∙ ap (λ (ts : List BrokerSession). ts ++ own ∷ []) c.reserve_session.ensures.list) connections
    (subst (λ (s : HubState). IsWillWithin s.config.limits.most c.args.connect.will) (sym c.self.view_is) c.requires.will)
    (c.begin.ensures.limits ∙ c.reserve_session.ensures.limits)
    (subst (λ (s : HubState). s.next_key < 2 ^ 32) (sym c.self.view_is) c.requires.key) begun.capacity begun.limit

pub returns-clause-goes : goal.returns-clause-goes
returns-clause-goes g c =
    let h = c.self.inside in
    let t : HubTables = h.tables in
    let u : HubTables = c.begin.new.self in
    let k = c.args.conn in
    let did = c.args.log.now.acts in
    let own : BrokerSession = c.in_ok-beginning.beginning.boxed in
    let begun = subst (λ (s : HubState). IsNewSession c.args.connect c.args.client s own) (sym c.self.view_is) c.in_ok-beginning.ensures.boxed in
    let at : stage_of k t.connections.connections ≡ AwaitingConnect =
    sym (stage_seen k t.sessions.list t.connections.connections) ∙ ap (λ (s : HubState). stage_of k s.connections) c.self.view_is ∙ c.requires.fresh in
    let ready = c.reserve_session.ensures.rest in
    let after = c.begin.ensures.rest in
    let connections = c.begin.ensures.connections
    ∙ ap₂ (λ (n : ℕ) (m : ConnectionTerms). with_connection (λ x. record x { stage = ConnectedAs n m h.clock }) k c.reserve_session.new.self.connections.connections) (ap (λ (s : BrokerSession). s.key) begun.after) c.in_ok-beginning.ensures.terms
    ∙ ap (λ (xs : List HubConnection). with_connection (λ x. record x { stage = ConnectedAs h.next_key (terms_of c.args.connect) h.clock }) k xs) c.reserve_session.ensures.connections in
    let does : Refines (start_session k c.args.connect c.args.client) (hub_of h.config h.clock h.next_key t) did (hub_of h.config h.clock (h.next_key + 1) u) (did ++ acts.Up k h.next_key false ∷ []) =
    goes_begun k c.args.connect c.args.client c.requires.named h.config h.clock h.next_key t u c.self.invariant at own begun.end begun.after begun.fresh
    (ap (λ (v : HubTables). v.rows) after ∙ ap (λ (v : HubTables). v.rows) ready)
    (ap (λ (v : HubTables). v.retained.messages) after ∙ ap (λ (v : HubTables). v.retained.messages) ready)
    (c.begin.ensures.list ∙ ap (λ (ts : List BrokerSession). ts ++ own ∷ []) c.reserve_session.ensures.list) connections did in
    let key = ap (λ (s : HubState). s.next_key) c.self.view_is ∙ sym c.next_key-key.ensures in
    subst (λ (a : List Act). Refines (start_session k c.args.connect c.args.client) c.args.self.now did (hub_of h.config h.clock (h.next_key + 1) u) a)
    (ap (λ (n : ℕ). did ++ acts.Up k n false ∷ []) key ∙ sym c.push.ensures.acts)
    (subst (λ (s : HubState). Refines (start_session k c.args.connect c.args.client) s did (hub_of h.config h.clock (h.next_key + 1) u) (did ++ acts.Up k h.next_key false ∷ [])) c.self.view_is does)
