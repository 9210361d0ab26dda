use Rattle.std.proofs.Common.{rules, IsSome}
use Rattle.std.specs.Str.Parse.{ParsesUnsigned, ExplainsUnsignedError, HasUnsignedDigitsIfOk}
use Rattle.clap.specs.Words.{found_of}
use Rattle.clap.specs.declared.parser.matches.ArgMatches.TheViews.{out-ArgMatches}
use Rattle.mq_cli.proofs.Matches.{number_given}
use Rattle.mq_cli.proofs.words.number_of.Goals as goal

pub returns : goal.returns
returns c =
    let some : IsSome c.subcommand_matches.result = rw c.in_ok-met.was (search rules) in
    let named = c.subcommand_matches.ensures.found.0 some in
    let rows = rw c.in_ok-met.was at c.subcommand_matches.ensures.rows in
    number_given (λ bs r. ParsesUnsigned 64 10 bs r × ExplainsUnsignedError 10 bs r × HasUnsignedDigitsIfOk bs r) (out-ArgMatches c.args.matches.now).subcommand c.args.command.now c.args.word.now
    (found_of c.in_ok-met.met.now) c.get_one.result (record { named = named; rows = rows }) (λ t n g. g.0) c.get_one.ensures.none c.get_one.ensures.value
