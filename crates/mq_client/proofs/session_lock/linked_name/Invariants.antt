use Rattle.std.proofs.Common.{◌≤◌, ℕ, string_bytes}
use Rattle.mq_client.specs.Links.{Reaches}
use Rattle.mq_client.proofs.session_lock.linked_name.Given as goal

abbrev pub invariant-loop-nth : goal.invariant-loop-nth
invariant-loop-nth g l = (links : ℕ) × (links ≤ l.nth) × Reaches links l.fn.name (string_bytes l.name)
