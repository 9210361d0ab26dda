use Rattle.std.proofs.Common.{◌≡◌, ◌≤◌, count_by, take}
use Rattle.mq_loopback.specs.Inside.Clients.{is_collector}
use Rattle.mq_loopback.proofs.client_threads.count_collectors.Given as goal

abbrev pub invariant-loop-client : goal.invariant-loop-client
invariant-loop-client l = (l.count ≡ count_by is_collector (take l.client-index l.clients)) × (l.count ≤ l.client-index)
