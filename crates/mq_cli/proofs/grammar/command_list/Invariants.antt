use Rattle.std.proofs.Common.{◌≡◌, map, take}
use Rattle.clap.specs.Words.{shape_of}
use Rattle.mq_cli.proofs.grammar.command_list.Given as goal

abbrev pub invariant-loop-command : goal.invariant-loop-command
invariant-loop-command l = map shape_of l.commands.items ≡ map shape_of (take l.command-index l.command-items)
