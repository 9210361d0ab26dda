use Rattle.std.proofs.Common.{◌∙◌, ◌+◌, ℕ, List, length, refl, sym, ap, ap₂}
use Rattle.mq_tables.specs.Rules.{left_of}
use Rattle.mq_tables.proofs.Spaces.{left_twice}
use Rattle.mq_tables.proofs.space.waiting_left.Goals as goal

pub returns : goal.returns
returns c =
    let output = c.args.end.now.output in
    c.left_of.ensures
    ∙ ap₂ left_of c.left_of-rest.ensures (ap (λ (b : List ℕ). length b) c.output.ensures)
    ∙ sym (left_twice c.args.most_waiting c.args.queued (c.args.queued + length output) (length output) refl)
