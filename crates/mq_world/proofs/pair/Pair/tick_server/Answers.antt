use Rattle.std.proofs.Common.{ℕ, refl, ap, subst, ◌∙◌}
use Rattle.mq_end.specs.KeepAlive.{server_ticks}
use Rattle.mq_end.specs.State.{EndState}
use Rattle.mq_end.specs.Receiving.{Acts}
use Rattle.mq_world.specs.Carries.{Wired}
use Rattle.mq_world.specs.Pairs.{wired_of}
use Rattle.mq_world.proofs.Clocks.{told_at}
use Rattle.mq_world.proofs.pair.Pair.tick_server.Goals as goal

pub returns-clause-does : goal.returns-clause-does
returns-clause-does c = λ limit capacity m s.
    let w : Wired = wired_of c.args.self.now in
    let old : EndState = c.args.self.now.server in
    let new : EndState = c.tick-closed.new.self in
    let now = c.saturating_add-self.ensures in
    let v : Wired = record { client = w.client; server = record w.server { state = new; clock = c.saturating_add-self.result; wire = c.cut_off.new.wire } } in (
      refl,
      told_at c.over_bytes.ensures limit capacity w v c.args.more c.tick-closed.result new
          (c.tick-closed.ensures.closed ∙ ap (λ (n : ℕ). (server_ticks old.last_activity n old.end).close) now)
          (subst (λ (n : ℕ). Acts (server_ticks old.last_activity n old.end) old new) now c.tick-closed.ensures.state)
          (λ i. record { client = w.client; server = record w.server { state = new; clock = now i; wire = c.cut_off.ensures i } }),
    )
