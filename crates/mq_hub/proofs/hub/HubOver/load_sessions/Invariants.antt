use Rattle.std.proofs.Common.{◌≡◌}
use Rattle.mq_hub.proofs.hub.HubOver.load_sessions.Given as goal

abbrev pub invariant-loop : goal.invariant-loop
invariant-loop g l = l.self ≡ record l.fn.self { sessions = l.self.sessions }
