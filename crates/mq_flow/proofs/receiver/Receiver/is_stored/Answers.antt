use Rattle.std.proofs.Common.{ap, sym, ◌∙◌}
use Rattle.std.specs.List.{list_any}
use Rattle.std.specs.Ordering.{nat_cmp, eq_by_cmp}
use Rattle.std.specs.Cmp.{nat_cmp_total}
use Rattle.std.specs.FinSet.{FinSet, contains, contains-from_list}
use Rattle.mq_flow.proofs.receiver.Receiver.is_stored.Goals as goal

pub returns : goal.returns
returns c =
    c.contains.ensures
    ∙ ap (λ q. list_any (eq_by_cmp nat_cmp q) c.self.inside.stored.keys) c.get.ensures.value
    ∙ sym (contains-from_list nat_cmp_total c.self.inside.stored.keys c.args.id)
    ∙ ap (λ (s : FinSet nat_cmp). contains s c.args.id) c.self.view_is
