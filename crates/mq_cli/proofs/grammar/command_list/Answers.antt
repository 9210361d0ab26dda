use Rattle.std.proofs.Common.{◌≡◌, ◌∙◌, map, ap, subst, arith}
use Rattle.std.proofs.lemmas.List.{take_all}
use Rattle.std.specs.Prelude.{IfSome}
use Rattle.clap.specs.Words.{App, Text, shape_of}
use Rattle.mq_cli.specs.Grammar.{program_words}
use Rattle.mq_cli.specs.Inside.Grammar.{command_named}
use Rattle.mq_cli.proofs.Commands.{next_listed, same_shape}
use Rattle.mq_cli.proofs.grammar.command_list.Goals as goal

pub loop-command-preserved : goal.loop-command-preserved
loop-command-preserved c =
    let subs = c.get_subcommands-command-items.result.now in
    let sub = c.command-item.result in
    let made = c.in_ok-shown_command.field-0 in
    let all : map shape_of subs ≡ program_words.subs = ap (map shape_of) c.get_subcommands-command-items.ensures ∙ ap (λ (a : App). a.subs) c.in_ok-line.ensures in
    let named : IfSome (command_named (shape_of sub).name) (λ shape. shape_of made ≡ shape) =
    subst (λ (name : Text). IfSome (command_named name) (λ shape. shape_of made ≡ shape)) (ap (λ n. n.now) c.get_name.ensures) c.in_ok-shown_command.ensures in
    let same = same_shape subs c.loop-command.command-index sub made all (omega arith) c.command-item.is named in
    next_listed subs c.loop-command.commands.items c.push.new.self.items c.loop-command.command-index sub made c.in_ok-push.ensures.items c.loop-command.invariant same c.command-item.is (omega arith)

pub returns : goal.returns
returns c =
    let subs = c.get_subcommands-command-items.result.now in
    let all : map shape_of subs ≡ program_words.subs = ap (map shape_of) c.get_subcommands-command-items.ensures ∙ ap (λ (a : App). a.subs) c.in_ok-line.ensures in
    c.loop-command.invariant ∙ ap (map shape_of) (take_all c.loop-command.command-index subs (omega arith)) ∙ all
