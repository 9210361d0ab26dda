use Rattle.std.proofs.Common.{◌≡◌, map, take}
use Rattle.clap.specs.Words.{app_of}
use Rattle.mq_pubsub_options.specs.Grammar.{with_rules}
use Rattle.mq_pubsub_options.specs.Inside.Grammar.{rule_of_row}
use Rattle.mq_pubsub_options.proofs.grammar.with_rows.Given as goal

abbrev pub invariant-loop-row : goal.invariant-loop-row
invariant-loop-row l =
    app_of l.command ≡ with_rules (app_of l.initial.command) (map rule_of_row (take l.row-index l.rows))
