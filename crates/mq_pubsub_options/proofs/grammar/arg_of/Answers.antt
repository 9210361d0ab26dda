use Rattle.std.proofs.Common.{◌≡◌, IfOk, subst, sym}
use Rattle.clap.specs.Words.{rule_of}
use Rattle.mq_pubsub_options.specs.Inside.Grammar.{named_rule_of, rule_with}
use Rattle.mq_pubsub_options.specs.declared.grammar.Kind.{Kind}
use Rattle.mq_pubsub_options.proofs.Rows.{renamed}
use Rattle.mq_pubsub_options.proofs.grammar.arg_of.Goals as goal

pub returns-in-Renamed-clause-rule : goal.returns-in-Renamed-clause-rule
returns-in-Renamed-clause-rule c =
    subst (λ (kind : Kind). IfOk c.alias.result (λ arg. rule_of arg ≡ rule_with kind (named_rule_of c.args.row.now))) (sym c.in-Renamed.is)
    (renamed c.alias.result c.texted-in-Renamed.result c.args.row.now c.in-Renamed.other c.texted-in-Renamed.ensures.rule c.alias.ensures)
