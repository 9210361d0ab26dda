use Rattle.std.proofs.Common.{◌≡◌, ◌∙◌, ◌<◌, ◌^◌, ◌+◌, ◌++◌, ◌∷◌, [], false, not, Bool, ℕ, List, sym, ap, ap₂, subst}
use Rattle.mq_route.specs.declared.act.Act.{Act}
use Rattle.mq_route.specs.declared.act.Act.TheVariants as acts
use Rattle.mq_route.specs.declared.connection_state.ConnectionState.TheVariants.{AwaitingConnect, ConnectedAs}
use Rattle.mq_route.specs.declared.connection_state.ConnectionTerms.{ConnectionTerms}
use Rattle.mq_route.specs.Arrives.{start_session}
use Rattle.mq_route.specs.Hub.{HubState, HubConnection, is_clean, key_of, key_on, stage_of, up_on, with_connection}
use Rattle.mq_route.specs.declared.close.HubClose.TheVariants.{TakenOver}
use Rattle.mq_route.specs.Work.{remove_if}
use Rattle.mq_tables.specs.declared.sessions.session.BrokerSession.{BrokerSession}
use Rattle.mq_tables.specs.Tables.{HubTables}
use Rattle.mq_tables.specs.Sessions.{sessions_of, AreBelow}
use Rattle.mq_hub.specs.Inside.Refinement.{Refines}
use Rattle.mq_hub.specs.Inside.Invariant.{IsWillWithin}
use Rattle.mq_hub.specs.Inside.ConnectRoom.{IsNewSession}
use Rattle.mq_hub.specs.Inside.View.{hub_of}
use Rattle.mq_hub.proofs.DisconnectTimes.{closed_at}
use Rattle.mq_hub.proofs.NewSession.{none_up}
use Rattle.mq_hub.proofs.TakeOver.{goes_anew, hub_roomed, keeps_anew, kept_roomed, over_at, over_by, stage_there}
use Rattle.mq_hub.proofs.hub.HubOver.take_over_and_replace.Goals as goal

pub take_over_ending-requires-clause-hubs : goal.take_over_ending-requires-clause-hubs
take_over_ending-requires-clause-hubs g c =
    let h = c.self.inside in
    let r = c.reserve_session.ensures in record {
      config = h.config;
      next_key = h.next_key;
      keeps = kept_roomed h.config h.next_key h.tables c.reserve_session.new.self r.rest r.list r.connections c.self.invariant r.limits;
    }

pub take_over_ending-requires-clause-up : goal.take_over_ending-requires-clause-up
take_over_ending-requires-clause-up g c =
    let h = c.self.inside in
    ap (λ (xs : List HubConnection). key_on (stage_of c.args.other xs)) c.reserve_session.ensures.connections
    ∙ ap key_on (stage_there c.args.other h.config h.clock h.next_key h.tables c.args.self.now c.self.view_is) ∙ c.requires.up

pub begin-requires-clause-stage : goal.begin-requires-clause-stage
begin-requires-clause-stage g c =
    let h = c.self.inside in
    c.take_over_ending.ensures.proceeds.fresh c.args.conn
    (ap (λ (xs : List HubConnection). stage_of c.args.conn xs) c.reserve_session.ensures.connections
    ∙ stage_there c.args.conn h.config h.clock h.next_key h.tables c.args.self.now c.self.view_is ∙ c.requires.fresh)

pub begin-requires-clause-away : goal.begin-requires-clause-away
begin-requires-clause-away g c =
    let h = c.self.inside in
    let r = c.reserve_session.ensures in
    let v : HubTables = c.take_over_ending.new.tables in
    let kept = kept_roomed h.config h.next_key h.tables c.reserve_session.new.self r.rest r.list r.connections c.self.invariant r.limits in
    let left = c.take_over_ending.ensures.proceeds.keeps h.config h.next_key kept in
    ap (λ (s : BrokerSession). up_on s.key v.connections.connections) c.in_ok-beginning.ensures.boxed.after
    ∙ ap (λ (s : HubState). up_on s.next_key v.connections.connections) (sym c.self.view_is)
    ∙ none_up h.next_key h.config.limits.most v.sessions.list v.connections.connections left.below left.backed

pub begin-requires-clause-key : goal.begin-requires-clause-key
begin-requires-clause-key g c =
    let h = c.self.inside in
    let r = c.reserve_session.ensures in
    let v : HubTables = c.take_over_ending.new.tables in
    let kept = kept_roomed h.config h.next_key h.tables c.reserve_session.new.self r.rest r.list r.connections c.self.invariant r.limits in
    let left = c.take_over_ending.ensures.proceeds.keeps h.config h.next_key kept in
    subst (λ (n : ℕ). AreBelow n v.sessions.list)
    (ap (λ (s : HubState). s.next_key) c.self.view_is ∙ sym (ap (λ (s : BrokerSession). s.key) c.in_ok-beginning.ensures.boxed.after)) left.below

pub begin-requires-clause-client : goal.begin-requires-clause-client
begin-requires-clause-client g c =
    let v : HubTables = c.take_over_ending.new.tables in
    ap (λ (s : BrokerSession). key_of s.client (sessions_of v.sessions.list)) c.in_ok-beginning.ensures.boxed.after
    ∙ c.take_over_ending.ensures.gone c.args.client
    (ap (λ (ts : List BrokerSession). key_of c.args.client (sessions_of ts)) c.reserve_session.ensures.list
    ∙ ap (λ (s : HubState). key_of c.args.client s.sessions) c.self.view_is ∙ c.requires.stands)

pub invariant_of-self-2 : goal.invariant_of-self-2
invariant_of-self-2 g c =
    let h = c.self.inside in
    let t : HubTables = h.tables in
    let r : HubTables = c.reserve_session.new.self in
    let v : HubTables = c.take_over_ending.new.tables in
    let u : HubTables = c.begin.new.self in
    let k = c.args.conn in
    let e = c.reserve_session.ensures in
    let own : BrokerSession = c.in_ok-beginning.beginning.boxed in
    let kept = kept_roomed h.config h.next_key t r e.rest e.list e.connections c.self.invariant e.limits in
    let at : stage_of k r.connections.connections ≡ AwaitingConnect =
    ap (λ (xs : List HubConnection). stage_of k xs) e.connections ∙ stage_there k h.config h.clock h.next_key t c.args.self.now c.self.view_is ∙ c.requires.fresh in
    let begun : IsNewSession c.args.connect c.args.client (hub_of h.config h.clock h.next_key r) own =
    subst (λ (s : HubState). IsNewSession c.args.connect c.args.client s own) (sym (hub_roomed h.config h.next_key t r e.rest e.list e.connections h.clock ∙ c.self.view_is))
    c.in_ok-beginning.ensures.boxed in
    let connections = c.begin.ensures.connections
    ∙ ap₂ (λ (n : ℕ) (m : ConnectionTerms). with_connection (λ x. record x { stage = ConnectedAs n m h.clock }) k v.connections.connections) (ap (λ (s : BrokerSession). s.key) begun.after)
    c.in_ok-beginning.ensures.terms in
    keeps_anew c.rules_of-rules.result (over_at h.clock c.args.other c.args.key (is_clean (stage_of c.args.other r.connections.connections))) k c.args.connect c.args.client h.config h.clock h.next_key r v u own
    c.reserve_more.new.self.acts c.take_over_ending.new.log.acts c.push.new.self.acts c.requires.named kept at c.take_over_ending.ensures.proceeds begun
    c.begin.ensures.rest c.begin.ensures.list connections
    (subst (λ (s : HubState). IsWillWithin s.config.limits.most c.args.connect.will) (sym c.self.view_is) c.requires.will) c.begin.ensures.limits
    (subst (λ (s : HubState). s.next_key < 2 ^ 32) (sym c.self.view_is) c.requires.next)

pub returns-clause-goes : goal.returns-clause-goes
returns-clause-goes g c =
    let h = c.self.inside in
    let t : HubTables = h.tables in
    let r : HubTables = c.reserve_session.new.self in
    let v : HubTables = c.take_over_ending.new.tables in
    let u : HubTables = c.begin.new.self in
    let k = c.args.conn in
    let other = c.args.other in
    let e = c.reserve_session.ensures in
    let own : BrokerSession = c.in_ok-beginning.beginning.boxed in
    let kept = kept_roomed h.config h.next_key t r e.rest e.list e.connections c.self.invariant e.limits in
    let at : stage_of k r.connections.connections ≡ AwaitingConnect =
    ap (λ (xs : List HubConnection). stage_of k xs) e.connections ∙ stage_there k h.config h.clock h.next_key t c.args.self.now c.self.view_is ∙ c.requires.fresh in
    let same : hub_of h.config h.clock h.next_key r ≡ c.args.self.now =
    hub_roomed h.config h.next_key t r e.rest e.list e.connections h.clock ∙ c.self.view_is in
    let begun : IsNewSession c.args.connect c.args.client (hub_of h.config h.clock h.next_key r) own =
    subst (λ (s : HubState). IsNewSession c.args.connect c.args.client s own) (sym same) c.in_ok-beginning.ensures.boxed in
    let connections = c.begin.ensures.connections
    ∙ ap₂ (λ (n : ℕ) (m : ConnectionTerms). with_connection (λ x. record x { stage = ConnectedAs n m h.clock }) k v.connections.connections) (ap (λ (s : BrokerSession). s.key) begun.after)
    c.in_ok-beginning.ensures.terms in
    let next = ap (λ (s : HubState). s.next_key) c.self.view_is ∙ sym c.next_key-next.ensures in
    let ends = is_clean (stage_of other r.connections.connections) in
    let said = c.push.ensures.acts ∙ ap (λ (n : ℕ). c.take_over_ending.new.log.acts ++ acts.Up k n false ∷ []) (sym next) in
    let goes =
    goes_anew c.rules_of-rules.result (over_at h.clock other c.args.key ends) k c.args.connect c.args.client h.config h.clock h.next_key r v u own
    c.reserve_more.new.self.acts c.take_over_ending.new.log.acts c.push.new.self.acts c.requires.named kept at c.take_over_ending.ensures.proceeds begun
    c.begin.ensures.rest c.begin.ensures.list connections (sym c.rules_of-rules.ensures) said in
    let clean : ends ≡ is_clean (stage_of other c.args.self.now.connections) =
    ap (λ (xs : List HubConnection). is_clean (stage_of other xs)) e.connections
    ∙ ap is_clean (stage_there other h.config h.clock h.next_key t c.args.self.now c.self.view_is) in (
      goes.0,
      subst (λ (b : Bool). Refines (λ w. start_session k c.args.connect c.args.client (over_by other c.args.key b goes.0 w)) c.args.self.now c.args.log.now.acts
          (hub_of h.config h.clock (h.next_key + 1) u) c.push.new.self.acts) clean
          (subst (λ (d : List Act). Refines (λ w. start_session k c.args.connect c.args.client (over_by other c.args.key ends goes.0 w)) c.args.self.now d
          (hub_of h.config h.clock (h.next_key + 1) u) c.push.new.self.acts) c.reserve_more.ensures.same
          (subst (λ (s : HubState). Refines (λ w. start_session k c.args.connect c.args.client (over_by other c.args.key ends goes.0 w)) s c.reserve_more.new.self.acts
          (hub_of h.config h.clock (h.next_key + 1) u) c.push.new.self.acts) same
          (closed_at (λ w. start_session k c.args.connect c.args.client (remove_if (not ends) c.args.key w)) other TakenOver goes.0 (hub_of h.config h.clock h.next_key r)
          (hub_of h.config h.clock (h.next_key + 1) u) c.reserve_more.new.self.acts c.push.new.self.acts goes.1))),
    )
