use Rattle.std.proofs.Common.{◌≡◌, ◌∙◌, IfOk, ap, subst}
use Rattle.clap.specs.Words.{App, app_of, with_subcommand}
use Rattle.mq_cli.specs.Grammar.{collect_words, job_words, publish_words, serve_words}
use Rattle.mq_cli.proofs.grammar.socket_commands.Goals as goal

pub returns : goal.returns
returns c =
    let served : app_of c.in_ok-line-2.line ≡ with_subcommand job_words serve_words.top =
    c.in_ok-line-2.ensures serve_words c.serve_command.ensures.words ∙ ap (λ (a : App). with_subcommand a serve_words.top) c.in_ok-line.ensures in
    let published : app_of c.in_ok-line-3.line ≡ with_subcommand (with_subcommand job_words serve_words.top) publish_words.top =
    c.in_ok-line-3.ensures publish_words c.publish_command.ensures.words ∙ ap (λ (a : App). with_subcommand a publish_words.top) served in
    subst (λ (a : App). IfOk c.with_command-3.result (λ new. app_of new ≡ with_subcommand a collect_words.top)) published
    (c.with_command-3.ensures collect_words c.collect_command.ensures.words)
