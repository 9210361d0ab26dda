use Rattle.std.proofs.Common.{sym, ◌∙◌}
use Rattle.mq_topic.proofs.Gathering.{push_is}
use Rattle.mq_topic.proofs.trie_walk.push_some.Goals as goal

pub returns-in_ok-push : goal.returns-in_ok-push
returns-in_ok-push c = push_is c.args.places.now.items c.push.new.self.items c.args.at c.in_ok-push.ensures.items (sym c.is_some.ensures ∙ c.if-is_some.true)
