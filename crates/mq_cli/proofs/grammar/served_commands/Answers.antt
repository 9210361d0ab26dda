use Rattle.std.proofs.Common.{◌≡◌, ◌∙◌, IfOk, ap, subst, codes}
use Rattle.clap.specs.Words.{App, app_of, with_subcommand}
use Rattle.mq_cli.specs.Grammar.{broker_words, socket_words, word_words}
use Rattle.mq_cli.proofs.grammar.served_commands.Goals as goal

pub returns : goal.returns
returns c =
    let hashes = word_words (codes "password") (codes "NAME") in
    let loops = word_words (codes "loopback") (codes "FILE") in
    let served : app_of c.in_ok-line-2.line ≡ with_subcommand socket_words broker_words.top =
    c.in_ok-line-2.ensures broker_words c.broker_command.ensures.words ∙ ap (λ (a : App). with_subcommand a broker_words.top) c.in_ok-line.ensures in
    let journals = word_words (codes "journal") (codes "FILE") in
    let listed : app_of c.in_ok-line-3.line ≡ with_subcommand (with_subcommand socket_words broker_words.top) journals.top =
    c.in_ok-line-3.ensures journals c.journal_command.ensures.words ∙ ap (λ (a : App). with_subcommand a journals.top) served in
    let hashed : app_of c.in_ok-line-4.line ≡ with_subcommand (with_subcommand (with_subcommand socket_words broker_words.top) journals.top) hashes.top =
    c.in_ok-line-4.ensures hashes c.password_command.ensures.words ∙ ap (λ (a : App). with_subcommand a hashes.top) listed in
    subst (λ (a : App). IfOk c.with_command-4.result (λ new. app_of new ≡ with_subcommand a loops.top)) hashed
    (c.with_command-4.ensures loops c.loopback_command.ensures.words)
