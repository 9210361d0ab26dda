use Rattle.std.proofs.Common.{codes, refl}
use Rattle.clap.specs.Words.{new_app}
use Rattle.mq_cli.specs.Grammar.{broker_words, check_words, collect_words, match_words, publish_words, random_words, replay_words, serve_words, show_words, word_words}
use Rattle.mq_cli.specs.Inside.Grammar.{command_named}
use Rattle.mq_cli.proofs.Commands.{differs, shown, unnamed}
use Rattle.mq_cli.proofs.grammar.shown_command.Goals as goal

pub returns-in-show : goal.returns-in-show
unfolding command_named
returns-in-show c = shown c.args.name.now (codes "show") show_words c.show_command.result c.with_usage.result c.in-show.is refl c.show_command.ensures.words c.with_usage.ensures

pub returns-in-check : goal.returns-in-check
unfolding command_named
returns-in-check c = shown c.args.name.now (codes "check") check_words c.check_command.result c.with_usage-in-check.result c.in-check.is refl c.check_command.ensures.words c.with_usage-in-check.ensures

pub returns-in-match : goal.returns-in-match
unfolding command_named
returns-in-match c = shown c.args.name.now (codes "match") match_words c.match_command.result c.with_usage-in-match.result c.in-match.is refl c.match_command.ensures.words c.with_usage-in-match.ensures

pub returns-in-replay : goal.returns-in-replay
unfolding command_named
returns-in-replay c = shown c.args.name.now (codes "replay") replay_words c.replay_command.result c.with_usage-in-replay.result c.in-replay.is refl c.replay_command.ensures.words c.with_usage-in-replay.ensures

pub returns-in-random : goal.returns-in-random
unfolding command_named
returns-in-random c = shown c.args.name.now (codes "random") random_words c.random_command.result c.with_usage-in-random.result c.in-random.is refl c.random_command.ensures.words c.with_usage-in-random.ensures

pub returns-in-serve : goal.returns-in-serve
unfolding command_named
returns-in-serve c = shown c.args.name.now (codes "serve") serve_words c.serve_command.result c.with_usage-in-serve.result c.in-serve.is refl c.serve_command.ensures.words c.with_usage-in-serve.ensures

pub returns-in-publish : goal.returns-in-publish
unfolding command_named
returns-in-publish c = shown c.args.name.now (codes "publish") publish_words c.publish_command.result c.with_usage-in-publish.result c.in-publish.is refl c.publish_command.ensures.words c.with_usage-in-publish.ensures

pub returns-in-collect : goal.returns-in-collect
unfolding command_named
returns-in-collect c = shown c.args.name.now (codes "collect") collect_words c.collect_command.result c.with_usage-in-collect.result c.in-collect.is refl c.collect_command.ensures.words c.with_usage-in-collect.ensures

pub returns-in-broker : goal.returns-in-broker
unfolding command_named
returns-in-broker c = shown c.args.name.now (codes "broker") broker_words c.broker_command.result c.with_usage-in-broker.result c.in-broker.is refl c.broker_command.ensures.words c.with_usage-in-broker.ensures

pub returns-in-journal : goal.returns-in-journal
unfolding command_named
returns-in-journal c = shown c.args.name.now (codes "journal") (word_words (codes "journal") (codes "FILE")) c.journal_command.result c.with_usage-in-journal.result c.in-journal.is refl c.journal_command.ensures.words c.with_usage-in-journal.ensures

pub returns-in-password : goal.returns-in-password
unfolding command_named
returns-in-password c = shown c.args.name.now (codes "password") (word_words (codes "password") (codes "NAME")) c.password_command.result c.with_usage-in-password.result c.in-password.is refl c.password_command.ensures.words c.with_usage-in-password.ensures

pub returns-in-loopback : goal.returns-in-loopback
unfolding command_named
returns-in-loopback c = shown c.args.name.now (codes "loopback") (word_words (codes "loopback") (codes "FILE")) c.loopback_command.result c.with_usage-in-loopback.result c.in-loopback.is refl c.loopback_command.ensures.words c.with_usage-in-loopback.ensures

pub returns-in-completion : goal.returns-in-completion
unfolding command_named
returns-in-completion c = shown c.args.name.now (codes "completion") (word_words (codes "completion") (codes "SHELL")) c.completion_command.result c.with_usage-in-completion.result c.in-completion.is refl c.completion_command.ensures.words c.with_usage-in-completion.ensures

pub returns-in-manual : goal.returns-in-manual
unfolding command_named
returns-in-manual c = shown c.args.name.now (codes "manual") (new_app (codes "manual")) c.manual_command.result c.with_usage-in-manual.result c.in-manual.is refl c.manual_command.ensures.words c.with_usage-in-manual.ensures

pub returns-in_default : goal.returns-in_default
returns-in_default c =
    let name = c.args.name.now in
    unnamed name c.command_line.result (differs (codes "show") name c.in_default.not-show, (differs (codes "check") name c.in_default.not-check, (differs (codes "match") name c.in_default.not-match, (differs (codes "replay") name c.in_default.not-replay, (differs (codes "random") name c.in_default.not-random, (differs (codes "serve") name c.in_default.not-serve, (differs (codes "publish") name c.in_default.not-publish, (differs (codes "collect") name c.in_default.not-collect, (differs (codes "broker") name c.in_default.not-broker, (differs (codes "journal") name c.in_default.not-journal, (differs (codes "password") name c.in_default.not-password, (differs (codes "loopback") name c.in_default.not-loopback, (differs (codes "completion") name c.in_default.not-completion, (differs (codes "manual") name c.in_default.not-manual, tt))))))))))))))
