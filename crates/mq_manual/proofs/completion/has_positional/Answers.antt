use Rattle.std.proofs.Common.{◌∙◌, List, map, ap, sym, arith}
use Rattle.std.proofs.lemmas.List.{take_all}
use Rattle.std.specs.List.{list_any}
use Rattle.clap.specs.Simple.{is_positional}
use Rattle.clap.specs.Words.{rule_of}
use Rattle.clap.specs.declared.builder.arg.Arg.{Arg}
use Rattle.mq_manual.proofs.Options.{is_unnamed, next_named, none_unnamed, one_unnamed}
use Rattle.mq_manual.proofs.completion.has_positional.Goals as goal

pub returns-then-is_positional : goal.returns-then-is_positional
returns-then-is_positional c =
    let args = c.get_arguments-arg-items.result.now in
    let found = one_unnamed args c.loop-arg.arg-index c.arg-item.result (omega arith) c.arg-item.is (sym c.is_positional.ensures ∙ c.if-is_positional.true) in
    sym found ∙ ap (λ (xs : List Arg). list_any is_positional (map rule_of xs)) c.get_arguments-arg-items.ensures

pub loop-arg-preserved : goal.loop-arg-preserved
loop-arg-preserved c =
    next_named c.get_arguments-arg-items.result.now c.loop-arg.arg-index c.arg-item.result (omega arith) c.arg-item.is (sym c.is_positional.ensures ∙ c.if-is_positional.false) c.loop-arg.invariant

pub returns : goal.returns
returns c =
    let args = c.get_arguments-arg-items.result.now in
    let none = none_unnamed args (ap (list_any is_unnamed) (sym (take_all c.loop-arg.arg-index args (omega arith))) ∙ c.loop-arg.invariant) in
    sym none ∙ ap (λ (xs : List Arg). list_any is_positional (map rule_of xs)) c.get_arguments-arg-items.ensures
