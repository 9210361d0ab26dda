use Rattle.std.proofs.Common.{ℕ, ◌+◌, Option, List, take, sym, subst, ◌∙◌, arith}
use Rattle.std.specs.List.{All}
use Rattle.std.proofs.lemmas.List.{take_all}
use Rattle.std.proofs.lemmas.List.Elements.{All-push}
use Rattle.mq_decode.specs.Limits.{Bounds}
use Rattle.mq_flow.specs.Window.{Spans}
use Rattle.mq_world.specs.declared.event.Event.{Event}
use Rattle.mq_world.specs.declared.answer.Answer.{Answer}
use Rattle.mq_world.specs.World.{Does, IsNeverFull, Leads}
use Rattle.mq_world.proofs.Worlds.{leads_next}
use Rattle.mq_world.proofs.world.World.make_all.Goals as goal

pub loop-event-preserved : goal.loop-event-preserved
loop-event-preserved c =
    let i = c.loop-event.invariant in
    let start = c.args.self.now in
    let w = c.loop-event.self in
    let v = c.step.new.self in
    let a = c.in_ok-step.field-0 in
    let e = c.event-item.result in
    let d = subst (λ (n : Bounds). Does n start.capacity e a w.wired v.wired) i.limit
    (subst (λ (n : ℕ). Does w.limit n e a w.wired v.wired) i.capacity c.in_ok-step.ensures.does) in
    record {
      leads = subst (λ (rest : List Answer). Leads start.limit start.capacity
          (take (c.loop-event.event-index + 1) c.args.events.now) rest start.wired v.wired) (sym c.in_ok-step.ensures.answers)
          (leads_next start.limit start.capacity c.args.events.now c.loop-event.event-index w.answers e a start.wired w.wired v.wired
          (omega arith) c.event-item.is i.leads d);
      fits = λ spans.
          let here : Spans w.window w.capacity =
          subst (λ (o : Option ℕ). Spans o w.capacity) (sym i.window) (subst (λ (n : ℕ). Spans start.window n) (sym i.capacity) spans) in
          subst (All IsNeverFull) (sym c.in_ok-step.ensures.answers) (All-push IsNeverFull w.answers a (i.fits spans) (c.in_ok-step.ensures.fits here));
      limit = c.step.ensures.limit ∙ i.limit;
      capacity = c.step.ensures.capacity ∙ i.capacity;
      window = c.step.ensures.window ∙ i.window;
      failed = c.in_ok-step.ensures.ok;
    }

pub returns-clause-events : goal.returns-clause-events
returns-clause-events c =
    subst (λ (es : List Event). Leads c.args.self.now.limit c.args.self.now.capacity es c.loop-event.self.answers c.args.self.now.wired c.loop-event.self.wired)
    (take_all c.loop-event.event-index c.args.events.now (omega arith)) c.loop-event.invariant.leads
