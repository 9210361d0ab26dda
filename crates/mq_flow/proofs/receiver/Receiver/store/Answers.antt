use Rattle.std.proofs.Common.{ap, sym, subst, ◌∙◌, not}
use Rattle.std.specs.List.{list_any}
use Rattle.std.specs.Ordering.{nat_cmp, eq_by_cmp}
use Rattle.std.specs.Cmp.{nat_cmp_total}
use Rattle.std.specs.FinSet.{FinSet, contains, insert, from_list, contains-from_list}
use Rattle.mq_packet.specs.Identifier.{IsIdentifier}
use Rattle.mq_flow.proofs.Members.{keys_inserted, identifiers_inserted}
use Rattle.mq_flow.proofs.receiver.Receiver.store.Goals as goal

pub returns-clause-new : goal.returns-clause-new
returns-clause-new c =
    c.in_ok-insert.ensures.added
    ∙ ap (λ q. not (list_any (eq_by_cmp nat_cmp q) c.self.inside.stored.keys)) c.get.ensures.value
    ∙ ap not (sym (contains-from_list nat_cmp_total c.self.inside.stored.keys c.args.id) ∙ ap (λ (s : FinSet nat_cmp). contains s c.args.id) c.self.view_is)

pub returns-clause-book : goal.returns-clause-book
returns-clause-book c =
    keys_inserted c.self.inside.stored.keys c.insert.new.self.keys c.get.result c.in_ok-insert.ensures.updates.0
    ∙ ap (insert (from_list c.self.inside.stored.keys)) c.get.ensures.value
    ∙ ap (λ (s : FinSet nat_cmp). insert s c.args.id) c.self.view_is

pub invariant_of-self-2 : goal.invariant_of-self-2
invariant_of-self-2 c =
    identifiers_inserted c.self.inside.stored.keys c.insert.new.self.keys c.get.result c.in_ok-insert.ensures.updates.0 (subst IsIdentifier (sym c.get.ensures.value) c.get.ensures.identifier) c.self.invariant
