use Rattle.std.proofs.Common.{◌∙◌, ℕ, List, sym, ap, arith}
use Rattle.std.specs.Option.{is_some}
use Rattle.mq_route.specs.Hub.{key_of}
use Rattle.mq_tables.specs.Sessions.{sessions_of}
use Rattle.mq_hub.proofs.Checks.{in_use}
use Rattle.mq_hub.proofs.connect.check.least_made_up.Goals as goal

pub loop-number-preserved : goal.loop-number-preserved
loop-number-preserved c =
    let ss = sessions_of c.args.sessions.now.list in
    let there = ap (λ (k : List ℕ). is_some (key_of k ss)) (sym c.in_ok-name.ensures) ∙ ap is_some (sym c.key_of.ensures) ∙ c.if-is_none.ensures in
    record {
      within = omega (arith, c.loop-number-test.true);
      same = sym (in_use c.len-most.result c.loop-number.number ss (omega (arith, c.loop-number-test.true)) there) ∙ c.loop-number.invariant.same;
    }
