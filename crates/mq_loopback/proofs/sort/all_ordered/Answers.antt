use Rattle.mq_loopback.proofs.Sorting.{list_more}
use Rattle.mq_loopback.proofs.sort.all_ordered.Goals as goal

pub loop-messages-preserved : goal.loop-messages-preserved
loop-messages-preserved c = list_more c.loop-messages.yielded c.loop-messages.all.items c.push.new.self.items c.in-Some.messages c.in_ok-ordered.field-0 c.loop-messages.invariant c.in_ok-ordered.ensures c.in_ok-push.ensures.items
