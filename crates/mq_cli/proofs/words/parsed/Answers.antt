use Rattle.std.proofs.Common.{◌∙◌, ap, subst, map, Bor, List, ℕ, Option}
use Rattle.clap.specs.Simple.{is_simple}
use Rattle.clap.specs.Words.{App, Row, Text, subcommand_of}
use Rattle.mq_cli.specs.CommandLine.{IsCommandOf}
use Rattle.mq_cli.proofs.Matches.{program_is_simple}
use Rattle.mq_cli.proofs.words.parsed.Goals as goal

pub returns-in-Some : goal.returns-in-Some
returns-in-Some c =
    let built = c.in_ok-line.ensures in
    let words = map (λ (word : Bor (List ℕ)). word.now) c.args.words.now in
    let same = (c.in_ok-matches.ensures.ok.2 (ap is_simple built ∙ program_is_simple)).1 ∙ ap (λ (a : App). subcommand_of a words) built in
    let found = rw c.in-Some.is at c.in_ok-command.ensures in
    subst (λ (command : Option (Text × List Row)). IsCommandOf command c.in-Some.command) same found
