use Rattle.std.proofs.Common.{ℕ, List, ◌+◌, length, sym, ap, ◌∙◌}
use Rattle.mq_flow.specs.Held.{messages}
use Rattle.mq_flow.proofs.Tables.{both_kinds}
use Rattle.mq_flow.proofs.table.Table.waiting.Goals as goal

pub loop-init : goal.loop-init
loop-init c = (tt, tt, c.len-count.ensures ∙ both_kinds c.args.self.now.pairs ∙ ap (λ (l : List ℕ). length (messages c.args.self.now.pairs) + length l) (sym (c.into_iter-iterator.ensures.into_iter_gives ∙ c.releases-items.ensures.rest)))
