use Rattle.std.proofs.Common.{◌≡◌, false, subst}
use Rattle.mq_world.specs.Carries.{seen}
use Rattle.mq_world.specs.Headline.{Headline}
use Rattle.mq_world.specs.World.{WorldState}
use Rattle.mq_world.specs.Pairs.{wired_of}
use Rattle.mq_world.proofs.world.World.trace.Goals as goal

pub returns-clause-headline : goal.returns-clause-headline
returns-clause-headline c = subst (λ (w : WorldState). w.failed ≡ false → Headline (seen w.wired)) c.self.view_is
    (λ (e : c.self.inside.failed ≡ false). let s = c.self.invariant.2 e in
    c.over_bytes.ensures.headline c.self.inside.limits c.self.inside.capacity (wired_of c.self.inside.pair) s.0 s.1)
