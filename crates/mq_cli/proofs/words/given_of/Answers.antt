use Rattle.std.proofs.Common.{rules, IsSome}
use Rattle.clap.specs.Words.{found_of}
use Rattle.clap.specs.declared.parser.matches.ArgMatches.TheViews.{out-ArgMatches}
use Rattle.mq_cli.proofs.Matches.{word_given}
use Rattle.mq_cli.proofs.words.given_of.Goals as goal

pub returns : goal.returns
returns c =
    let some : IsSome c.subcommand_matches.result = rw c.in_ok-met.was (search rules) in
    let named = c.subcommand_matches.ensures.found.0 some in
    let rows = rw c.in_ok-met.was at c.subcommand_matches.ensures.rows in
    word_given (out-ArgMatches c.args.matches.now).subcommand c.args.command.now c.args.word.now (found_of c.in_ok-met.met.now) c.get_str.result (record { named = named; rows = rows }) c.get_str.ensures
