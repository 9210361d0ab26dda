-- Runs that the machine has.
use Rattle.std.proofs.Common.{refl, arith}
use Rattle.std.specs.FinSet.{contains-empty}
use Rattle.std.specs.Ordering.{nat_cmp}
use Rattle.mq_world.specs.Examples.{Examples}
use Rattle.mq_flow.proofs.Members.{insert_same}

pub samples : Examples
samples = record {
  pubrec_lost_runs = (tt, (tt, (tt, ((refl, ((omega arith, omega arith), refl)), (tt, (tt, refl))))));
  pubrec_lost_before = simp (contains-empty nat_cmp);
  pubrec_lost_after = simp (contains-empty nat_cmp, insert_same);
  puback_lost_runs = (tt, (tt, (tt, ((refl, ((omega arith, omega arith), refl)), (tt, (tt, refl))))));
  puback_lost_before = refl;
  puback_lost_after = refl;
  dropped_inside_runs = (tt, (tt, (tt, refl)));
  dropped_inside_server = refl;
  dropped_inside_client = refl;
  dropped_inside_after = refl;
  refused_before = refl;
  accepted_after = (tt, (tt, ((refl, ((omega arith, omega arith), refl)), refl)));
}
