use Rattle.std.proofs.Common.{◌≡◌, drop}
use Rattle.mq_world.specs.OverBytes.{handed_with}
use Rattle.mq_world.specs.Listed.{HandedGrows, accepted_in, handed_in}
use Rattle.mq_world.proofs.account.Account.hand_all.Given as goal

abbrev pub invariant-loop-happening : goal.invariant-loop-happening
invariant-loop-happening l = record {
  handed : handed_with (drop l.happening-index l.happenings) (handed_in l.self) ≡ handed_with l.happenings (handed_in l.initial.self);
  accepted : accepted_in l.self ≡ accepted_in l.initial.self;
  freed : l.self.freed.items ≡ l.initial.self.freed.items;
  grows : HandedGrows (handed_in l.initial.self) (handed_in l.self);
}
