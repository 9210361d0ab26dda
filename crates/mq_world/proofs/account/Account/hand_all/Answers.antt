use Rattle.std.proofs.Common.{◌≡◌, ap, ◌∙◌, arith}
use Rattle.std.proofs.lemmas.Grind.{common_steps}
use Rattle.mq_world.specs.Listed.{handed_in}
use Rattle.mq_world.proofs.Growing.{handed_more_grows, handed_still_grows}
use Rattle.mq_world.proofs.account.Account.hand_all.Goals as goal
use Rattle.mq_world.proofs.account.Account.hand_all.Goals.{in-Handed+in_ok-clone+in_ok-hand, in_default}

pub loop-happening-preserved : goal.loop-happening-preserved
loop-happening-preserved c = record {
  handed = grind (arith, common_steps);
  accepted = grind (arith, common_steps);
  freed = grind (arith, common_steps);
  grows = elim c.match-happening.branch [
    | in-Handed+in_ok-clone+in_ok-hand w ↦
        handed_more_grows _ _ _ _ c.loop-happening.invariant.grows (ap handed_in w.self-is ∙ w.in_ok-hand.ensures.handed)
    | in_default w ↦ handed_still_grows _ _ _ c.loop-happening.invariant.grows (ap handed_in w.self-is)
  ];
}
