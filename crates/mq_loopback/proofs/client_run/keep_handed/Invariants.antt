use Rattle.std.proofs.Common.{◌≡◌, ◌++◌, flat_map}
use Rattle.mq_client.specs.Collecting.{handed}
use Rattle.mq_loopback.proofs.client_run.keep_handed.Given as goal

abbrev pub invariant-loop-happening : goal.invariant-loop-happening
invariant-loop-happening l = l.messages.items ≡ l.initial.messages.items ++ flat_map handed l.yielded
