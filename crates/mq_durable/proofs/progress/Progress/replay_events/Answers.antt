use Rattle.std.proofs.Common.{◌≡◌, ◌∙◌, ◌+◌, ◌<◌, ◌++◌, ◌∷◌, [], ℕ, List, length, take, sym, ap, subst, add-one, arith}
use Rattle.std.proofs.Math.Seq.{take-suc}
use Rattle.mq_route.specs.declared.event.HubEvent.{HubEvent}
use Rattle.mq_durable.specs.Recovering.{Continues}
use Rattle.mq_durable.proofs.Recoveries.{continues_all, continues_none}
use Rattle.mq_durable.proofs.progress.Progress.replay_events.Goals as goal

pub loop-event-init : goal.loop-event-init
loop-event-init c = continues_none c.args.self.now

pub loop-event-preserved : goal.loop-event-preserved
loop-event-preserved c =
    let events : List HubEvent = c.args.events.now in
    let i = c.loop-event.event-index in
    let event : HubEvent = c.event-item.result in
    let within : i < length events = omega (arith, c.loop-event-test.true) in
    let front : take (i + 1) events ≡ take i events ++ event ∷ [] =
    ap (λ (n : ℕ). take n events) (add-one i) ∙ take-suc events i event within ∙ ap (λ (e : HubEvent). take i events ++ e ∷ []) (sym c.event-item.is) in
    subst (λ (l : List HubEvent). Continues c.args.self.now l c.replay_event.new.self) (sym front)
    (continues_all c.args.self.now c.loop-event.self c.replay_event.new.self (take i events) (event ∷ []) c.loop-event.invariant c.in_ok-replay_event.ensures)
