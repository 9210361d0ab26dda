use Rattle.std.proofs.Common.{◌≡◌, ℕ, ◌≤◌, ◌∙◌, List, length, sym, ap, subst, arith}
use Rattle.std.specs.Map.{keys_of}
use Rattle.mq_flow.specs.declared.table.Held.{Held}
use Rattle.mq_flow.specs.Held.{pairs_in}
use Rattle.mq_flow.specs.Sender.{times}
use Rattle.mq_flow.proofs.Slots.{pairs_full, length_full}
use Rattle.mq_flow.proofs.table.compact.Goals as goal

pub renumber-requires-clause-once : goal.renumber-requires-clause-once
renumber-requires-clause-once c =
    let same = ap pairs_in (c.as_slice.ensures.value ∙ c.drop_empty.ensures.items) ∙ pairs_full c.args.slots.now.items in
    λ i. subst (λ (ps : List (ℕ × Held)). times i (keys_of ps) ≤ 1) (sym same) (c.requires.once i)

pub renumber-requires-clause-many : goal.renumber-requires-clause-many
renumber-requires-clause-many c =
    let same = ap length (ap pairs_in (c.as_slice.ensures.value ∙ c.drop_empty.ensures.items) ∙ pairs_full c.args.slots.now.items) in
    let many = c.requires.many in
    omega arith

pub returns-clause-pairs : goal.returns-clause-pairs
returns-clause-pairs c = ap pairs_in c.drop_empty.ensures.items ∙ pairs_full c.args.slots.now.items

pub returns-clause-full : goal.returns-clause-full
returns-clause-full c = ap length c.drop_empty.ensures.items ∙ length_full c.args.slots.now.items
