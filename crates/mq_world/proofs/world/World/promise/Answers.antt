use Rattle.std.proofs.Common.{◌≡◌, false, subst}
use Rattle.mq_world.specs.Carries.{HaveWindow, seen}
use Rattle.mq_world.specs.Headline.{Headline}
use Rattle.mq_world.specs.Machine.{Machine}
use Rattle.mq_world.specs.OverBytes.{Stands}
use Rattle.mq_world.specs.World.{WorldState}
use Rattle.mq_world.specs.Pairs.{wired_of}
use Rattle.mq_world.proofs.world.World.promise.Goals as goal

pub returns-clause-carries : goal.returns-clause-carries
returns-clause-carries c = subst (λ (w : WorldState). w.failed ≡ false → (m : Machine) × Stands w.limit w.capacity w.wired m) c.self.view_is
    (λ (e : c.self.inside.failed ≡ false). let s = c.self.invariant.2 e in (s.0, s.1))

pub returns-clause-window : goal.returns-clause-window
returns-clause-window c =
    subst (λ (w : WorldState). w.failed ≡ false → HaveWindow w.window w.wired) c.self.view_is (λ (e : c.self.inside.failed ≡ false). (c.self.invariant.2 e).2)

pub returns-clause-headline : goal.returns-clause-headline
returns-clause-headline c = subst (λ (w : WorldState). w.failed ≡ false → Headline (seen w.wired)) c.self.view_is
    (λ (e : c.self.inside.failed ≡ false). let s = c.self.invariant.2 e in
    c.over_bytes.ensures.headline c.self.inside.limits c.self.inside.capacity (wired_of c.self.inside.pair) s.0 s.1)
