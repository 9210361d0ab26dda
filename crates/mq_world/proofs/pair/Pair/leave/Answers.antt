use Rattle.std.proofs.Common.{ℕ, List, ◌++◌, ap, ◌∙◌}
use Rattle.mq_end.specs.Client.{leave_refusal}
use Rattle.mq_end.specs.State.{EndState}
use Rattle.mq_end.specs.Publishing.{ClientState}
use Rattle.mq_world.specs.Carries.{Wired}
use Rattle.mq_world.specs.Pairs.{wired_of}
use Rattle.mq_world.proofs.Worlds.{no_reason}
use Rattle.mq_world.proofs.Clocks.{left_at, not_left_at}
use Rattle.mq_world.proofs.pair.Pair.leave.Goals as goal

pub returns-in-Err-clause-does : goal.returns-in-Err-clause-does
returns-in-Err-clause-does c = λ limit capacity m s.
    let w : Wired = wired_of c.args.self.now in
    let v : Wired = record w { client = record w.client { state = c.disconnect.new.self.link } } in
    not_left_at w v c.in-Err.why c.disconnect.result c.in-Err.is c.disconnect.ensures.refused c.disconnect.ensures.memory
    (λ i. record w { client = record w.client { state = ap (λ (z : ClientState). z.link) c.in-Err.ensures.err i } })

pub returns-clause-does : goal.returns-clause-does
returns-clause-does c = λ limit capacity m s.
    let w : Wired = wired_of c.args.self.now in
    let new : EndState = c.disconnect.new.self.link in
    let v : Wired =
    record {
      client = record w.client { state = c.take_all_output-output.new.self.link; wire = c.cut_off.new.wire };
      server = record w.server { wire = c.carry.new.wire };
    } in
    left_at c.over_bytes.ensures limit capacity w v new s.carries.client.output
    (no_reason (leave_refusal w.client.state.end) c.in_default.field-0 c.disconnect.result c.in_default.is c.disconnect.ensures.refused)
    c.in_default.ensures.ok (λ i. record {
      client = record w.client { state = ap (λ (z : ClientState). z.link) c.take_all_output-output.ensures.left i; wire = c.cut_off.ensures i };
      server = record w.server { wire = (c.in_ok-carry.ensures.ok ∙ ap (λ (b : List ℕ). w.server.wire ++ b) c.take_all_output-output.ensures.bytes) i };
    })
