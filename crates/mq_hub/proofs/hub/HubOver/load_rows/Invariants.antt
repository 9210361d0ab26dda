use Rattle.std.proofs.Common.{◌≡◌}
use Rattle.mq_hub.proofs.hub.HubOver.load_rows.Given as goal

abbrev pub invariant-loop-row : goal.invariant-loop-row
invariant-loop-row g l = l.self ≡ record l.fn.self { rows = l.self.rows }
