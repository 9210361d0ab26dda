use Rattle.std.proofs.Common.{◌∙◌, List, codes, ap, sym, arith}
use Rattle.std.proofs.lemmas.List.{take_all}
use Rattle.std.proofs.lemmas.List.Folds.{flat_map-map}
use Rattle.std.specs.List.{flat_map}
use Rattle.clap.specs.Words.{rule_of}
use Rattle.clap.specs.declared.builder.arg.Arg.{Arg}
use Rattle.clap.specs.declared.builder.command.Command.TheViews.{out-Command}
use Rattle.mq_manual.specs.Completion.{option_names}
use Rattle.mq_manual.proofs.completion.options_of.Goals as goal

pub returns : goal.returns
returns c =
    let all = λ (args : List Arg). flat_map (λ a. option_names (codes " ") (rule_of a)) args in
    let args = c.get_arguments-arg-items.result.now in
    c.loop-arg.invariant ∙ ap all (take_all c.loop-arg.arg-index args (omega arith) ∙ c.get_arguments-arg-items.ensures)
    ∙ sym (flat_map-map (option_names (codes " ")) rule_of (out-Command c.args.command.now).args.items)
