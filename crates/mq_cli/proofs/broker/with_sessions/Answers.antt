use Rattle.std.proofs.Common.{◌≡◌, ◌∙◌, IfOk, ap, subst, rules}
use Rattle.std.specs.Prelude.{codes, pos}
use Rattle.clap.specs.Words.{App, Rule, app_of, rule_of, with_rule}
use Rattle.clap.specs.declared.builder.value_parser.ValueParser.TheVariants.{Signed}
use Rattle.mq_cli.specs.Grammar.{file_rule, limit_rule}
use Rattle.mq_cli.proofs.broker.with_sessions.Goals as goal

pub returns-clause-words : goal.returns-clause-words
returns-clause-words c =
    let one : rule_of c.limit.result ≡ limit_rule (codes "MAX_STORED") (codes "max-stored") (Signed (pos 0) (pos 4294967295)) = search rules in
    let first : app_of c.in_ok-command.command ≡ with_rule (app_of c.args.command) (limit_rule (codes "MAX_STORED") (codes "max-stored") (Signed (pos 0) (pos 4294967295))) =
    c.in_ok-command.ensures.words ∙ ap (with_rule (app_of c.args.command)) one in
    subst (λ (a : App). IfOk c.with_arg-2.result (λ new. app_of new ≡ with_rule a (file_rule (codes "SESSION_EXPIRY") (codes "session-expiry")))) first
    (subst (λ (r : Rule). IfOk c.with_arg-2.result (λ new. app_of new ≡ with_rule (app_of c.in_ok-command.command) r)) c.file_option.ensures.rule c.with_arg-2.ensures.words)
