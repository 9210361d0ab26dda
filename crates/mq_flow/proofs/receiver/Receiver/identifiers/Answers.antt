use Rattle.std.proofs.Common.{ap, sym, ◌∙◌}
use Rattle.std.specs.Ordering.{nat_cmp}
use Rattle.std.specs.FinSet.{FinSet, len}
use Rattle.mq_flow.proofs.Ascending.{keys_rise}
use Rattle.mq_flow.proofs.Windows.{len_keys}
use Rattle.mq_flow.proofs.receiver.Receiver.identifiers.Goals as goal

pub returns : goal.returns
returns c =
    let keys = c.self.inside.stored.keys in
    c.len.ensures.len
    ∙ sym (len_keys 1 keys (keys_rise keys c.self.invariant c.len.ensures.ordered))
    ∙ ap (λ (s : FinSet nat_cmp). len s) c.self.view_is
