use Rattle.std.proofs.Common.{◌≡◌, true, false, sym, ap, ◌∙◌, arith, rules}
use Rattle.std.specs.List.{before_first}
use Rattle.std.specs.Option.{is_some}
use Rattle.std.proofs.lemmas.Str.Pattern.{split_once_first}
use Rattle.mq_topic.specs.Topic.{is_slash, level_fault}
use Rattle.mq_topic.proofs.Levels.{option_or-some, option_or-no, levels_fault_first, levels_fault_last}
use Rattle.mq_topic.proofs.level.levels_fault.Goals as goal

pub returns-then-is_some : goal.returns-then-is_some
returns-then-is_some c =
    let rest = c.levels.rest.now in
    let cut = rw c.in-Some.is at (split_once_first 47 rest c.split_once.result c.split_once.ensures.cases (omega arith)) in
    let first : c.level_fault-fault.result ≡ level_fault false (before_first is_slash rest) = c.level_fault-fault.ensures ∙ ap (level_fault false) cut.1 in
    let some : is_some c.level_fault-fault.result ≡ true = sym c.is_some.ensures ∙ c.if-is_some.true in
    let turn = c.levels.invariant.0 ∙ levels_fault_first rest cut.0 in
    rw first (sym (turn ∙ option_or-some _ _ (rw first at some)))

pub levels-preserved : goal.levels-preserved
levels-preserved c =
    let rest = c.levels.rest.now in
    let cut = rw c.in-Some.is at (split_once_first 47 rest c.split_once.result c.split_once.ensures.cases (omega arith)) in
    let first : c.level_fault-fault.result ≡ level_fault false (before_first is_slash rest) = c.level_fault-fault.ensures ∙ ap (level_fault false) cut.1 in
    let none : is_some c.level_fault-fault.result ≡ false = sym c.is_some.ensures ∙ c.if-is_some.false in
    let turn = c.levels.invariant.0 ∙ levels_fault_first rest cut.0 in
    (rw cut.2 (turn ∙ option_or-no _ _ (rw first at none)), search rules)

pub returns : goal.returns
returns c =
    let rest = c.levels.rest.now in
    let none = rw c.in_default.is at (split_once_first 47 rest c.split_once.result c.split_once.ensures.cases (omega arith)) in
    c.level_fault.ensures ∙ sym (c.levels.invariant.0 ∙ levels_fault_last rest none)
