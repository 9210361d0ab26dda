use Rattle.std.proofs.Common.{◌≡◌, ◌∙◌, IfOk, ap, subst, codes}
use Rattle.clap.specs.Words.{App, app_of, new_app, with_subcommand}
use Rattle.mq_cli.specs.Grammar.{served_words, word_words}
use Rattle.mq_cli.proofs.grammar.command_line.Goals as goal

pub returns : goal.returns
returns c =
    let scripts = word_words (codes "completion") (codes "SHELL") in
    let pages = new_app (codes "manual") in
    let scripted : app_of c.in_ok-line-2.line ≡ with_subcommand served_words scripts.top =
    c.in_ok-line-2.ensures scripts c.completion_command.ensures.words ∙ ap (λ (a : App). with_subcommand a scripts.top) c.in_ok-line.ensures in
    subst (λ (a : App). IfOk c.with_command-2.result (λ new. app_of new ≡ with_subcommand a pages.top)) scripted
    (c.with_command-2.ensures pages c.manual_command.ensures.words)
