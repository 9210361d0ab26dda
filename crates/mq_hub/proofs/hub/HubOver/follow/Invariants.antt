use Rattle.std.proofs.Common.{take}
use Rattle.mq_hub.specs.Run.{IsFollowed}
use Rattle.mq_hub.proofs.hub.HubOver.follow.Given as goal

abbrev pub invariant-loop-event : goal.invariant-loop-event
invariant-loop-event g l = IsFollowed l.fn.self (take l.event-index l.events) l.replies.items l.self
