use Rattle.std.proofs.Common.{◌≡◌, IfOk, subst, rules}
use Rattle.std.specs.Prelude.{codes, pos}
use Rattle.clap.specs.Words.{Rule, app_of, rule_of, with_rule}
use Rattle.clap.specs.declared.builder.value_parser.ValueParser.TheVariants.{Signed}
use Rattle.mq_cli.specs.Grammar.{limit_rule}
use Rattle.mq_cli.proofs.broker.with_journal.Goals as goal

pub returns-clause-words : goal.returns-clause-words
returns-clause-words c =
    let one : rule_of c.limit.result ≡ limit_rule (codes "JOURNAL_SIZE") (codes "journal-size") (Signed (pos 0) (pos 4294967295)) = search rules in
    subst (λ (r : Rule). IfOk c.with_arg.result (λ new. app_of new ≡ with_rule (app_of c.args.command) r)) one c.with_arg.ensures.words
