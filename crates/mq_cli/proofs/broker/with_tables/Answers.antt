use Rattle.std.proofs.Common.{◌≡◌, ◌∙◌, IfOk, ap, subst, rules}
use Rattle.std.specs.Prelude.{codes, pos}
use Rattle.clap.specs.Words.{App, Rule, app_of, rule_of, with_rule}
use Rattle.clap.specs.declared.builder.value_parser.ValueParser.TheVariants.{Signed}
use Rattle.mq_cli.specs.Grammar.{limit_rule}
use Rattle.mq_cli.proofs.broker.with_tables.Goals as goal

pub returns-clause-words : goal.returns-clause-words
returns-clause-words c =
    let connections : Rule = limit_rule (codes "MAX_CONNECTIONS") (codes "max-connections") (Signed (pos 0) (pos 4294967295)) in
    let sessions : Rule = limit_rule (codes "MAX_SESSIONS") (codes "max-sessions") (Signed (pos 0) (pos 4294967295)) in
    let matches : Rule = limit_rule (codes "MAX_MATCHES") (codes "max-matches") (Signed (pos 0) (pos 4294967295)) in
    let one : rule_of c.limit.result ≡ limit_rule (codes "MAX_CONNECTIONS") (codes "max-connections") (Signed (pos 0) (pos 4294967295)) = search rules in
    let two : rule_of c.limit-2.result ≡ limit_rule (codes "MAX_SESSIONS") (codes "max-sessions") (Signed (pos 0) (pos 4294967295)) = search rules in
    let three : rule_of c.limit-3.result ≡ limit_rule (codes "MAX_MATCHES") (codes "max-matches") (Signed (pos 0) (pos 4294967295)) = search rules in
    let first : app_of c.in_ok-command.command ≡ with_rule (app_of c.args.command) connections = c.in_ok-command.ensures.words ∙ ap (with_rule (app_of c.args.command)) one in
    let second : app_of c.in_ok-command-2.command ≡ with_rule (with_rule (app_of c.args.command) connections) sessions =
    c.in_ok-command-2.ensures.words ∙ (ap (λ (a : App). with_rule a (rule_of c.limit-2.result)) first ∙ ap (with_rule (with_rule (app_of c.args.command) connections)) two) in
    subst (λ (a : App). IfOk c.with_arg-3.result (λ new. app_of new ≡ with_rule a matches)) second
    (subst (λ (r : Rule). IfOk c.with_arg-3.result (λ new. app_of new ≡ with_rule (app_of c.in_ok-command-2.command) r)) three c.with_arg-3.ensures.words)
