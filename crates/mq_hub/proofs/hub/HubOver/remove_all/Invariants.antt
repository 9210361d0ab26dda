use Rattle.std.proofs.Common.{◌+◌, ◌≤◌, take}
use Rattle.mq_route.specs.Step.{remove_all}
use Rattle.mq_hub.specs.Inside.Refinement.{Refines}
use Rattle.mq_hub.proofs.hub.HubOver.remove_all.Given as goal

abbrev pub invariant-loop-key : goal.invariant-loop-key
invariant-loop-key g l = record {
  done : Refines (remove_all (take l.key-index l.keys)) l.fn.self l.fn.log.acts l.self l.log.acts;
  room : l.fn.log.room ≤ l.log.room + l.key-index;
}
