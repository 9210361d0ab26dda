use Rattle.std.proofs.Common.{◌∷◌, sym, ap, ◌∙◌, eqb}
use Rattle.std.proofs.lemmas.Str.Pattern.{split_once_first}
use Rattle.std.proofs.lemmas.List.Splits.{slice_split_first}
use Rattle.mq_topic.proofs.Levels.{one_part}
use Rattle.mq_schedule.specs.Parts.{parts}
use Rattle.mq_schedule.proofs.words.first_part.Goals as goal

pub returns-in-Some : goal.returns-in-Some
returns-in-Some c =
    let text = c.args.text.now in
    let cut = rw c.in-Some.is at (split_once_first c.args.by text c.split_once.result c.split_once.ensures.cases c.requires) in
    slice_split_first (λ b. eqb b c.args.by) text 0 cut.0 ∙ (λ i. sym cut.1 i ∷ ap (parts c.args.by) (sym cut.2) i)

pub returns-in-None : goal.returns-in-None
returns-in-None c =
    let text = c.args.text.now in
    let none = rw c.in-None.is at (split_once_first c.args.by text c.split_once.result c.split_once.ensures.cases c.requires) in
    one_part (λ b. eqb b c.args.by) text none
