use Rattle.mq_pubsub_options.specs.Grammar.{publish_rules}
use Rattle.mq_pubsub_options.proofs.grammar.publish_command.Goals as goal

pub returns : goal.returns
unfolding publish_rules
returns c = c.command_of.ensures
