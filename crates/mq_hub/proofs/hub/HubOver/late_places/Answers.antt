use Rattle.std.proofs.Common.{◌≡◌, ◌∙◌, ℕ, Option, refl, sym, ap, subst}
use Rattle.mq_route.specs.declared.config.HubConfig.{HubConfig}
use Rattle.mq_route.specs.Hub.{HubState}
use Rattle.mq_tables.specs.declared.connections.table.ConnectionLimits.{ConnectionLimits}
use Rattle.mq_tables.specs.Connections.{ConnectionList}
use Rattle.mq_tables.specs.Late.{HasLate}
use Rattle.mq_tables.specs.Tables.{HubTables}
use Rattle.mq_tables.proofs.FirstPackets.{if_ok_by}
use Rattle.mq_hub.specs.Inside.Invariant.{HubInvariant}
use Rattle.mq_hub.specs.Inside.View.{hub_of}
use Rattle.mq_hub.proofs.InvariantChanges.{kept_by}
use Rattle.mq_hub.proofs.LateWalk.{late_seen}
use Rattle.mq_hub.proofs.TableView.{hub_same}
use Rattle.mq_hub.proofs.hub.HubOver.late_places.Goals as goal

late_kept : (config old_config : HubConfig) (next old_next : ℕ) (t old : HubTables) (l : ConnectionList)
    → config ≡ old_config → next ≡ old_next → t ≡ old → HubInvariant old_config old_next old
    → l.connections ≡ t.connections.connections → l.limits ≡ t.connections.limits
    → HubInvariant config next (record t { connections = l })
late_kept config old_config next old_next t old l configs nexts tables kept connections limits =
    let u : HubTables = record t { connections = l } in
    let one = subst (λ (c : HubConfig). HubInvariant c old_next old) (sym configs) kept in
    let two = subst (λ (n : ℕ). HubInvariant config n old) (sym nexts) one in
    let all = subst (λ (v : HubTables). HubInvariant config next v) (sym tables) two in
    kept_by config next t u all refl refl refl connections limits

late_same : (config old_config : HubConfig) (clock old_clock next old_next : ℕ) (t old : HubTables) (l : ConnectionList)
    → config ≡ old_config → clock ≡ old_clock → next ≡ old_next → t ≡ old
    → l.connections ≡ t.connections.connections
    → hub_of config clock next (record t { connections = l }) ≡ hub_of old_config old_clock old_next old
late_same config old_config clock old_clock next old_next t old l configs clocks nexts tables connections =
    let u : HubTables = record t { connections = l } in
    hub_same config clock next t u refl refl refl connections
    ∙ (λ i. hub_of (configs i) (clocks i) (nexts i) (tables i))

pub invariant_of-self : goal.invariant_of-self
invariant_of-self g c =
    let same = c.late_places.ensures.same in
    late_kept _ _ _ _ _ _ c.late_places.new.self (λ i. (c.self-inside.view_is i).config) (λ i. (c.self-inside.view_is i).next_key)
    (λ i. (c.self-inside.view_is i).tables) c.self.invariant (ap (λ (l : ConnectionList). l.connections) same)
    (ap (λ (l : ConnectionList). l.limits) same)

pub returns-clause-same : goal.returns-clause-same
returns-clause-same g c =
    late_same _ _ _ _ _ _ _ _ c.late_places.new.self (λ i. (c.self-inside.view_is i).config) (λ i. (c.self-inside.view_is i).clock)
    (λ i. (c.self-inside.view_is i).next_key) (λ i. (c.self-inside.view_is i).tables)
    (ap (λ (l : ConnectionList). l.connections) c.late_places.ensures.same)
    ∙ c.self.view_is

pub returns-clause-late : goal.returns-clause-late
returns-clause-late g c =
    let t = c.self.inside.tables in
    if_ok_by c.late_places.result
    (λ places all.
    subst (λ (h : HubState). HasLate h.config.connect_within c.args.now h.connections places.items) c.self.view_is
    (late_seen c.self.inside.config.connect_within c.args.now t.sessions.list t.connections.connections places.items
    (subst (λ (within : Option ℕ). HasLate within c.args.now t.connections.connections places.items) (ap (λ (l : ConnectionLimits). l.connect_within) c.self.invariant.limits)
    (subst (λ (l : ConnectionList). HasLate l.limits.connect_within c.args.now l.connections places.items) (λ i. (c.self-inside.view_is i).tables.connections) all))))
    c.late_places.ensures.late
