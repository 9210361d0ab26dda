use Rattle.std.proofs.Common.{◌≡◌, ◌∙◌, IfOk, ap, subst}
use Rattle.std.specs.Prelude.{codes}
use Rattle.clap.specs.Words.{App, Rule, app_of, with_rule}
use Rattle.mq_cli.specs.Grammar.{file_rule}
use Rattle.mq_cli.proofs.broker.with_data.Goals as goal

pub returns-clause-words : goal.returns-clause-words
returns-clause-words c =
    let first : app_of c.in_ok-command.command ≡ with_rule (app_of c.args.command) (file_rule (codes "DATA") (codes "data")) =
    c.in_ok-command.ensures.words ∙ ap (with_rule (app_of c.args.command)) c.file_option.ensures.rule in
    subst (λ (a : App). IfOk c.with_arg-2.result (λ new. app_of new ≡ with_rule a (file_rule (codes "KEEP") (codes "keep")))) first
    (subst (λ (r : Rule). IfOk c.with_arg-2.result (λ new. app_of new ≡ with_rule (app_of c.in_ok-command.command) r)) c.file_option-2.ensures.rule c.with_arg-2.ensures.words)
