use Rattle.std.proofs.Common.{false, ap, subst, ◌∙◌}
use Rattle.mq_end.specs.Publishing.{connect_of}
use Rattle.mq_end.specs.declared.config.ClientConfig.{ClientConfig}
use Rattle.mq_world.specs.Pairs.{wired_of}
use Rattle.mq_world.specs.declared.answer.Answer.TheVariants as answers
use Rattle.mq_world.specs.SettlesOver.{SettledFrom}
use Rattle.mq_flow.specs.Window.{Spans}
use Rattle.mq_world.specs.World.{WorldState, IsNeverFull, IsSettled, MetNoWant}
use Rattle.mq_world.proofs.Fitting.{have_still, have_spanned, fits_settled}
use Rattle.mq_world.proofs.Worlds.{stands_settled}
use Rattle.mq_world.proofs.world.World.settle.Goals as goal

pub invariant_of-self-2 : goal.invariant_of-self-2
invariant_of-self-2 c =
    let f = c.self.inside in
    let st = c.self.invariant.2 c.if-self.false in (
      ap (λ (z : ClientConfig). connect_of z false) c.settle.ensures.config ∙ c.self.invariant.0,
      c.self.invariant.1,
      λ _.
          let v = wired_of c.settle.new.self in
          let g = stands_settled c.over_bytes.ensures f.limits f.capacity (wired_of f.pair) v st.0 c.in_ok-settle.field-0 st.1
          (c.in_ok-settle.ensures.settled f.limits f.capacity st.0 st.1) in
          (g.0, g.1, have_still f.limits f.capacity f.window (wired_of f.pair) v st.0 g.0 st.1 g.1 g.2 st.2),
    )

pub returns-clause-settles : goal.returns-clause-settles
returns-clause-settles c =
    let f = c.self.inside in
    let st = c.self.invariant.2 c.if-self.false in
    subst (λ (z : WorldState). IsSettled z.limit z.capacity c.in_ok-settle.field-0 z.wired (wired_of c.settle.new.self)) c.self.view_is
    (c.in_ok-settle.ensures.settled f.limits f.capacity st.0 st.1)

pub returns-clause-headline : goal.returns-clause-headline
returns-clause-headline c =
    let f = c.self.inside in
    let st = c.self.invariant.2 c.if-self.false in
    let g = stands_settled c.over_bytes.ensures f.limits f.capacity (wired_of f.pair) (wired_of c.settle.new.self) st.0 c.in_ok-settle.field-0 st.1
    (c.in_ok-settle.ensures.settled f.limits f.capacity st.0 st.1) in
    c.over_bytes.ensures.headline f.limits f.capacity (wired_of c.settle.new.self) g.0 g.1

pub returns-clause-settled : goal.returns-clause-settled
returns-clause-settled c =
    let f = c.self.inside in
    let st = c.self.invariant.2 c.if-self.false in
    subst (λ (z : WorldState). Spans z.window z.capacity → MetNoWant (answers.Settled c.in_ok-settle.field-0)
    → SettledFrom z.wired (wired_of c.settle.new.self)) c.self.view_is
    (λ spans. c.in_ok-settle.ensures.left f.limits f.capacity st.0 st.1 (have_spanned f.capacity f.window (wired_of f.pair) st.2 spans))

pub returns-clause-fits : goal.returns-clause-fits
returns-clause-fits c =
    let f = c.self.inside in
    let st = c.self.invariant.2 c.if-self.false in
    subst (λ (z : WorldState). Spans z.window z.capacity → IsNeverFull (answers.Settled c.in_ok-settle.field-0)) c.self.view_is
    (λ spans. fits_settled c.over_bytes.ensures f.limits f.capacity (wired_of f.pair) (wired_of c.settle.new.self) st.0 c.in_ok-settle.field-0 st.1
    (c.in_ok-settle.ensures.settled f.limits f.capacity st.0 st.1) (have_spanned f.capacity f.window (wired_of f.pair) st.2 spans))
