use Rattle.std.proofs.Common.{◌≡◌, ◌+◌, length}
use Rattle.mq_flow.specs.Held.{messages}
use Rattle.mq_flow.proofs.table.Table.waiting.Given as goal

abbrev pub invariant-loop : goal.invariant-loop
invariant-loop l =
    (goal.iterator-loop).can_next l.iterator' × (goal.iterator-loop).is_finite l.iterator' × (l.count ≡ length (messages l.self.pairs) + length l.iterator')
