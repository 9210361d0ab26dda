use Rattle.std.proofs.Common.{rules, refl, sym, ap, map, Bor, List, ℕ, IsSome}
use Rattle.clap.specs.Words.{found_of}
use Rattle.clap.specs.declared.parser.matches.ArgMatches.TheViews.{out-ArgMatches}
use Rattle.mq_cli.proofs.Matches.{texts_given}
use Rattle.mq_cli.proofs.words.texts_of.Goals as goal

pub returns-in_ok-to_vec-in-Some-get_strs : goal.returns-in_ok-to_vec-in-Some-get_strs
returns-in_ok-to_vec-in-Some-get_strs c =
    let some : IsSome c.subcommand_matches.result = rw c.in-Some.is (search rules) in
    let named = c.subcommand_matches.ensures.found.0 some in
    let rows = rw c.in-Some.is at c.subcommand_matches.ensures.rows in
    let same = c.in_ok-to_vec-in-Some-get_strs.ensures.items_if_clones_equal (search rules) in
    texts_given (out-ArgMatches c.args.matches.now).subcommand c.args.command.now c.args.word.now (found_of c.in-Some.met.now) _ _ (record { named = named; rows = rows }) c.get_strs.ensures
    (rw c.in-Some-get_strs.is (ap (map (λ (t : Bor (List ℕ)). t.now)) (sym same)))

pub returns-in-None : goal.returns-in-None
returns-in-None c =
    let some : IsSome c.subcommand_matches.result = rw c.in-Some.is (search rules) in
    let named = c.subcommand_matches.ensures.found.0 some in
    let rows = rw c.in-Some.is at c.subcommand_matches.ensures.rows in
    texts_given (out-ArgMatches c.args.matches.now).subcommand c.args.command.now c.args.word.now (found_of c.in-Some.met.now) _ _ (record { named = named; rows = rows }) c.get_strs.ensures
    (rw (c.in-None.is, c.new.ensures.items) refl)
