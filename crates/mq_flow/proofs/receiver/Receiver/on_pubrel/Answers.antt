use Rattle.std.proofs.Common.{ap, ◌∙◌}
use Rattle.std.specs.Ordering.{nat_cmp}
use Rattle.std.specs.FinSet.{FinSet, remove, from_list}
use Rattle.mq_flow.proofs.Members.{keys_removed, identifiers_removed}
use Rattle.mq_flow.proofs.receiver.Receiver.on_pubrel.Goals as goal

pub returns-clause-book : goal.returns-clause-book
returns-clause-book c =
    keys_removed c.self.inside.stored.keys c.remove.new.self.keys c.get.result c.remove.ensures.updates.0
    ∙ ap (remove (from_list c.self.inside.stored.keys)) c.get.ensures.value
    ∙ ap (λ (s : FinSet nat_cmp). remove s c.args.id) c.self.view_is

pub invariant_of-self : goal.invariant_of-self
invariant_of-self c = identifiers_removed c.self.inside.stored.keys c.remove.new.self.keys c.get.result c.remove.ensures.updates.0 c.self.invariant
