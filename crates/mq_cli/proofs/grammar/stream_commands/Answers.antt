use Rattle.std.proofs.Common.{◌≡◌, ◌∙◌, IfOk, ap, subst}
use Rattle.clap.specs.Words.{App, app_of, with_subcommand}
use Rattle.mq_cli.specs.Grammar.{bare_words, check_words, show_words}
use Rattle.mq_cli.proofs.grammar.stream_commands.Goals as goal

pub returns : goal.returns
returns c =
    let shown : app_of c.in_ok-line.line ≡ with_subcommand bare_words show_words.top =
    c.in_ok-line.ensures show_words c.show_command.ensures.words ∙ ap (λ (a : App). with_subcommand a show_words.top) c.bare_line.ensures in
    subst (λ (a : App). IfOk c.with_command-2.result (λ new. app_of new ≡ with_subcommand a check_words.top)) shown
    (c.with_command-2.ensures check_words c.check_command.ensures.words)
