use Rattle.std.proofs.Common.{subst}
use Rattle.mq_world.specs.Pairs.{wired_of}
use Rattle.mq_flow.specs.Window.{Spans}
use Rattle.mq_world.specs.Listed.{FreedGrows}
use Rattle.mq_world.specs.World.{WorldState, IsNeverFull}
use Rattle.mq_world.proofs.Telling.{stands_done}
use Rattle.mq_world.proofs.Fitting.{have_still, have_spanned, fits_done}
use Rattle.mq_world.proofs.world.World.step.Goals as goal

pub make-requires-clause-stands : goal.make-requires-clause-stands
make-requires-clause-stands c = let st = c.self.invariant.2 c.if-self.false in (st.0, st.1)

pub invariant_of-self-2 : goal.invariant_of-self-2
invariant_of-self-2 c =
    let f = c.self.inside in
    let st = c.self.invariant.2 c.if-self.false in (
      c.make.ensures.config,
      c.self.invariant.1,
      λ _.
          let v = wired_of c.make.new.self in
          let g = stands_done c.over_bytes.ensures f.limits f.capacity c.args.event.now c.in_ok-answer.answer (wired_of f.pair) v st.0 st.1
          (c.in_ok-answer.ensures.does f.limits f.capacity st.0 st.1) in
          (g.0, g.1, have_still f.limits f.capacity f.window (wired_of f.pair) v st.0 g.0 st.1 g.1 g.2 st.2),
    )

pub returns-clause-headline : goal.returns-clause-headline
returns-clause-headline c =
    let f = c.self.inside in
    let st = c.self.invariant.2 c.if-self.false in
    let g = stands_done c.over_bytes.ensures f.limits f.capacity c.args.event.now c.in_ok-answer.answer (wired_of f.pair)
    (wired_of c.make.new.self) st.0 st.1 (c.in_ok-answer.ensures.does f.limits f.capacity st.0 st.1) in
    c.over_bytes.ensures.headline f.limits f.capacity (wired_of c.make.new.self) g.0 g.1

pub returns-clause-fits : goal.returns-clause-fits
returns-clause-fits c =
    let f = c.self.inside in
    let st = c.self.invariant.2 c.if-self.false in
    subst (λ (z : WorldState). Spans z.window z.capacity → IsNeverFull c.in_ok-answer.answer) c.self.view_is
    (λ spans. fits_done f.limits f.capacity c.args.event.now c.in_ok-answer.answer (wired_of f.pair) (wired_of c.make.new.self) st.0 st.1
    (c.in_ok-answer.ensures.does f.limits f.capacity st.0 st.1) (have_spanned f.capacity f.window (wired_of f.pair) st.2 spans))

pub returns-in_err-push-clause-freed_at_server : goal.returns-in_err-push-clause-freed_at_server
returns-in_err-push-clause-freed_at_server c =
    subst (λ (z : WorldState). FreedGrows z.wired.server.freed c.make.new.self.trace.server.freed.items) c.self.view_is c.make.ensures.told_server.freed
