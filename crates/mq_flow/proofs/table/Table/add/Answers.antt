use Rattle.std.proofs.Common.{◌≡◌, ◌∙◌, ◌<◌, ℕ, List, length, sym, ap, subst, arith}
use Rattle.mq_flow.specs.declared.table.Held.{Held}
use Rattle.mq_flow.specs.Held.{Kept, pairs_in}
use Rattle.mq_flow.proofs.StoredBytes.{bytes_bound}
use Rattle.mq_flow.proofs.table.Table.add.Goals as goal
use Rattle.mq_flow.proofs.table.Table.add.Goals.{then-is_crowded, else-is_crowded}

pub overflow_add-self : goal.overflow_add-self
overflow_add-self c =
    let grown : c.if-is_crowded.self.pairs ≡ c.args.self.now.pairs = elim c.if-is_crowded.branch [
      | then-is_crowded w ↦ ap (λ (v : Kept). v.pairs) w.self-is ∙ w.grow.ensures.pairs
      | else-is_crowded w ↦ ap (λ (v : Kept). v.pairs) w.self-is
    ] in
    let same = ap (λ (v : Kept). v.pairs) c.self.view_is ∙ c.reserve.ensures.pairs ∙ grown in
    let few = subst (λ (ps : List (ℕ × Held)). length ps < 65536) (sym same) c.requires.few in
    let bound = bytes_bound c.self.inside.bytes (pairs_in c.self.inside.slots.items) c.self.invariant.2 few in
    omega (arith, bound, c.held_bytes.ensures.short)
