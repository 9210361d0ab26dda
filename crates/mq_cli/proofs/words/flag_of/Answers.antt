use Rattle.std.proofs.Common.{rules, IsSome}
use Rattle.clap.specs.Words.{found_of}
use Rattle.clap.specs.declared.parser.matches.ArgMatches.TheViews.{out-ArgMatches}
use Rattle.mq_cli.proofs.Matches.{flag_given}
use Rattle.mq_cli.proofs.words.flag_of.Goals as goal

pub returns : goal.returns
returns c =
    let some : IsSome c.subcommand_matches.result = rw c.in_ok-met.was (search rules) in
    let named = c.subcommand_matches.ensures.found.0 some in
    let rows = rw c.in_ok-met.was at c.subcommand_matches.ensures.rows in
    flag_given (out-ArgMatches c.args.matches.now).subcommand c.args.command.now c.args.word.now (found_of c.in_ok-met.met.now) c.get_flag.result (record { named = named; rows = rows })
    c.get_flag.ensures.value c.get_flag.ensures.other c.get_flag.ensures.none
