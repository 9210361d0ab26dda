use Rattle.std.proofs.Common.{◌≡◌, ℕ, true, List, Option, ◌++◌, refl, sym, ap, subst, ◌∙◌}
use Rattle.mq_end.specs.declared.reason.CloseReason.{CloseReason}
use Rattle.mq_end.specs.KeepAlive.{pings}
use Rattle.mq_end.specs.State.{EndState}
use Rattle.mq_end.specs.Requests.{Ticks}
use Rattle.mq_end.specs.Publishing.{ClientState}
use Rattle.mq_world.specs.declared.side.Side.TheVariants.{Client}
use Rattle.mq_world.specs.Carries.{Wired}
use Rattle.mq_world.specs.Pairs.{wired_of}
use Rattle.mq_world.specs.World.{IsTold}
use Rattle.mq_world.proofs.Clocks.{asked_at}
use Rattle.mq_world.proofs.pair.Pair.tick_client.Goals as goal

pub returns-in_default-clause-does : goal.returns-in_default-clause-does
returns-in_default-clause-does c = λ limit capacity m s.
    let w : Wired = wired_of c.args.self.now in
    let end = ap (λ (z : ClientState). z.link) c.in_default.ensures.err in
    let old : EndState = c.args.self.now.client.link in
    let due = subst (λ (n : ℕ). pings old.last_activity n old.end ≡ true) c.saturating_add-self.ensures c.in_default.ensures.memory in (
      refl,
      record {
        client = refl;
        reason = refl;
        due = due;
        world = λ i. record w { client = record w.client { state = end i; clock = c.saturating_add-self.ensures i } };
      },
    )

pub returns-clause-does : goal.returns-clause-does
returns-clause-does c = λ limit capacity m s.
    let w : Wired = wired_of c.args.self.now in
    let old : EndState = c.args.self.now.client.link in
    let new : EndState = c.tick.new.self.link in
    let now = c.saturating_add-self.ensures in
    let v : Wired = record {
      client = record w.client { state = c.take_all_output-output.new.self.link; clock = c.saturating_add-self.result };
      server = record w.server { wire = c.carry.new.wire };
    } in
    let told = asked_at c.over_bytes.ensures limit capacity w v c.args.more new s.carries.client.output
    (subst (λ (n : ℕ). Ticks n old new) now c.in-Ok.ensures.ok)
    (λ i. record {
      client = record w.client { state = ap (λ (z : ClientState). z.link) c.take_all_output-output.ensures.left i; clock = now i };
      server = record w.server { wire = (c.in_ok-carry.ensures.ok ∙ ap (λ (b : List ℕ). w.server.wire ++ b) c.take_all_output-output.ensures.bytes) i };
    }) in
    (refl, subst (λ (closed : Option CloseReason). IsTold limit capacity Client c.args.more closed w v) (sym c.in-Ok.ensures.closed) told)
