use Rattle.std.proofs.Common.{ℕ, sym, subst, ◌∙◌}
use Rattle.std.proofs.lemmas.Result.{on_ok_weaker}
use Rattle.mq_decode.specs.Limits.{Bounds}
use Rattle.mq_flow.specs.Window.{Spans}
use Rattle.mq_world.specs.World.{Leads}
use Rattle.mq_world.proofs.Given.{if_given, if_given_always}
use Rattle.mq_world.proofs.world.World.run_with.Goals as goal

pub returns-clause-headline : goal.returns-clause-headline
returns-clause-headline c =
    if_given c.make_all-made.result c.given.result c.make_all-made.new.self _ c.given.ensures.ok c.given.ensures.err c.make_all-made.ensures.headline

pub returns-clause-events : goal.returns-clause-events
returns-clause-events c =
    let w = c.in_ok-world.world in
    let v = c.make_all-made.new.self in
    if_given c.make_all-made.result c.given.result c.make_all-made.new.self _ c.given.ensures.ok c.given.ensures.err
    (on_ok_weaker c.make_all-made.result
    (λ leads. (
      w.wired,
      c.in_ok-world.ensures.new,
      subst (λ (l : Bounds). Leads l c.args.capacity c.args.events.now v.answers w.wired v.wired) c.in_ok-world.ensures.limit
          (subst (λ (n : ℕ). Leads w.limit n c.args.events.now v.answers w.wired v.wired) c.in_ok-world.ensures.capacity leads),
    ))
    c.make_all-made.ensures.events)

pub returns-clause-fits : goal.returns-clause-fits
returns-clause-fits c =
    let w = c.in_ok-world.world in
    if_given c.make_all-made.result c.given.result c.make_all-made.new.self _ c.given.ensures.ok c.given.ensures.err
    (on_ok_weaker c.make_all-made.result
    (λ fits spans. fits (subst (λ o. Spans o w.capacity) (sym c.in_ok-world.ensures.window) (subst (Spans c.args.window) (sym c.in_ok-world.ensures.capacity) spans)))
    c.make_all-made.ensures.fits)

pub returns-clause-limit : goal.returns-clause-limit
returns-clause-limit c =
    if_given_always c.make_all-made.result c.given.result c.make_all-made.new.self _ c.given.ensures.ok c.given.ensures.err (c.make_all-made.ensures.limit ∙ c.in_ok-world.ensures.limit)

pub returns-clause-capacity : goal.returns-clause-capacity
returns-clause-capacity c =
    if_given_always c.make_all-made.result c.given.result c.make_all-made.new.self _ c.given.ensures.ok c.given.ensures.err (c.make_all-made.ensures.capacity ∙ c.in_ok-world.ensures.capacity)

pub returns-clause-window : goal.returns-clause-window
returns-clause-window c =
    if_given_always c.make_all-made.result c.given.result c.make_all-made.new.self _ c.given.ensures.ok c.given.ensures.err (c.make_all-made.ensures.window ∙ c.in_ok-world.ensures.window)

pub returns-clause-failed : goal.returns-clause-failed
returns-clause-failed c =
    if_given c.make_all-made.result c.given.result c.make_all-made.new.self _ c.given.ensures.ok c.given.ensures.err c.make_all-made.ensures.failed
