use Rattle.mq_pubsub_options.specs.Grammar.{subscribe_rules}
use Rattle.mq_pubsub_options.proofs.grammar.subscribe_command.Goals as goal

pub returns : goal.returns
unfolding subscribe_rules
returns c = c.command_of.ensures
