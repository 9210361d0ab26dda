use Rattle.std.proofs.Common.{◌≡◌, ◌∙◌, List, ℕ, sym, ap, subst}
use Rattle.mq_route.specs.declared.config.HubConfig.{HubConfig}
use Rattle.mq_route.specs.Hub.{HubState, HubConnection}
use Rattle.mq_route.specs.Step.{expired_keys, remove_all, with_clock}
use Rattle.mq_tables.specs.Late.{HasLate}
use Rattle.mq_hub.specs.Inside.Expiry.{AreAway}
use Rattle.mq_hub.specs.Inside.Refinement.{Refines}
use Rattle.mq_hub.specs.Inside.Tick.{TicksTo}
use Rattle.mq_hub.proofs.ExpiredSessions.{config_left, connections_left, tick_step}
use Rattle.mq_hub.proofs.hub.HubOver.on_tick.Goals as goal

pub remove_all-requires-clause-away : goal.remove_all-requires-clause-away
remove_all-requires-clause-away g c =
    subst (λ (h : HubState). AreAway c.as_slice.result.now h.connections) (sym (c.set_clock.ensures ∙ ap (with_clock c.args.now) c.in-Ok-late_places.ensures.same))
    (subst (λ (keys : List ℕ). AreAway keys c.args.self.now.connections) (sym c.as_slice.ensures.value) c.in-Ok.ensures.away)

pub close_late-requires-clause-late : goal.close_late-requires-clause-late
close_late-requires-clause-late g c =
    let keys = c.as_slice.result.now in
    let mid = c.set_clock.new.self in
    let new = c.remove_all.new.self in
    let did = c.reserve_acts.new.log.acts in
    let same = c.set_clock.ensures ∙ ap (with_clock c.args.now) c.in-Ok-late_places.ensures.same in
    let connections = connections_left keys mid new did c.remove_all.new.log.acts c.remove_all.ensures.goes ∙ ap (λ (h : HubState). h.connections) same in
    let config = config_left keys mid new did c.remove_all.new.log.acts c.remove_all.ensures.goes ∙ ap (λ (h : HubState). h.config) same in
    subst (λ (x : HubConfig). HasLate x.connect_within c.clock_at-clock.result new.connections c.as_slice-2.result.now) (sym config)
    (subst (λ (xs : List HubConnection). HasLate c.args.self.now.config.connect_within c.clock_at-clock.result xs c.as_slice-2.result.now) (sym connections)
    (subst (λ (ps : List ℕ). HasLate c.args.self.now.config.connect_within c.clock_at-clock.result c.args.self.now.connections ps) (sym c.as_slice-2.ensures.value)
    c.in-Ok-late_places.ensures.late))

pub returns-clause-step : goal.returns-clause-step
returns-clause-step g c =
    let h = c.args.self.now in
    let same = c.set_clock.ensures ∙ ap (with_clock c.args.now) c.in-Ok-late_places.ensures.same in
    let keys : c.as_slice.result.now ≡ expired_keys (with_clock c.args.now h) =
    c.as_slice.ensures.value ∙ c.in-Ok.ensures.keys ∙ ap (λ (n : ℕ). expired_keys (record h { clock = n })) c.clock_at-clock.ensures in
    tick_step c.args.now h c.remove_all.new.self c.close_late.new.self c.as_slice.result.now c.reserve_acts.new.log.acts c.remove_all.new.log.acts c.close_late.new.log.acts
    c.into_reply.result keys (c.reserve_acts.ensures.same ∙ c.new-log.ensures)
    (subst (λ (s : HubState). Refines (remove_all c.as_slice.result.now) s c.reserve_acts.new.log.acts c.remove_all.new.self c.remove_all.new.log.acts) same c.remove_all.ensures.goes)
    (subst (λ (n : ℕ). TicksTo n c.remove_all.new.self c.remove_all.new.log.acts c.close_late.new.self c.close_late.new.log.acts) c.clock_at-clock.ensures c.close_late.ensures.ticks)
    c.into_reply.ensures
