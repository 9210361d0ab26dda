use Rattle.std.proofs.Common.{◌≡◌, ◌∙◌, IfOk, ap, subst}
use Rattle.clap.specs.Words.{App, app_of, with_subcommand}
use Rattle.mq_cli.specs.Grammar.{match_words, random_words, replay_words, stream_words}
use Rattle.mq_cli.proofs.grammar.job_commands.Goals as goal

pub returns : goal.returns
returns c =
    let matches : app_of c.in_ok-line-2.line ≡ with_subcommand stream_words match_words.top =
    c.in_ok-line-2.ensures match_words c.match_command.ensures.words ∙ ap (λ (a : App). with_subcommand a match_words.top) c.in_ok-line.ensures in
    let replayed : app_of c.in_ok-line-3.line ≡ with_subcommand (with_subcommand stream_words match_words.top) replay_words.top =
    c.in_ok-line-3.ensures replay_words c.replay_command.ensures.words ∙ ap (λ (a : App). with_subcommand a replay_words.top) matches in
    subst (λ (a : App). IfOk c.with_command-3.result (λ new. app_of new ≡ with_subcommand a random_words.top)) replayed
    (c.with_command-3.ensures random_words c.random_command.ensures.words)
