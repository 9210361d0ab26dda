use Rattle.std.proofs.Common.{◌≡◌}
use Rattle.mq_hub.proofs.hub.HubOver.load_messages.Given as goal

abbrev pub invariant-loop : goal.invariant-loop
invariant-loop g l = l.self ≡ record l.fn.self { retained = l.self.retained }
