use Rattle.std.proofs.Common.{◌≡◌, drop}
use Rattle.mq_world.specs.Half.{freed_with}
use Rattle.mq_world.specs.Listed.{FreedGrows, accepted_in, handed_in}
use Rattle.mq_world.proofs.account.Account.free_all.Given as goal

abbrev pub invariant-loop-id : goal.invariant-loop-id
invariant-loop-id l = record {
  freed : freed_with l.initial.self.accepted_at_least_once.items (drop l.id-index l.acknowledged) l.self.freed.items
      ≡ freed_with l.initial.self.accepted_at_least_once.items l.acknowledged l.initial.self.freed.items;
  accepted : accepted_in l.self ≡ accepted_in l.initial.self;
  handed : handed_in l.self ≡ handed_in l.initial.self;
  grows : FreedGrows l.initial.self.freed.items l.self.freed.items;
}
