use Rattle.std.proofs.Common.{◌≡◌, ℕ, Some, None, cond, ap, subst, ◌∙◌}
use Rattle.std.specs.Map.{lookup}
use Rattle.mq_topic.specs.ClientRows.{rows_of}
use Rattle.mq_topic.specs.Rows.{without_row}
use Rattle.mq_topic.proofs.ClientMaps.{absent_client, empty_own, is_filter, none_is, nothing_twice, own_is, remove_rows, removed_rows, some_own, twice, written_rows}
use Rattle.mq_topic.proofs.Nodes.{is_client}
use Rattle.mq_topic.proofs.client_rows.ClientRows.remove.Goals.{in-Some-1, in-None-1}
use Rattle.mq_topic.proofs.client_rows.ClientRows.remove.Goals as goal

pub returns-in_default : goal.returns-in_default
returns-in_default c =
    let client = c.args.client in
    let f = c.args.filter.now in
    let old = c.self.inside.clients.entries in
    let none = c.in_default.ensures.value in
    ap (λ m. rows_of m.entries) c.get_mut.follows.holds-at-none
    ∙ subst (λ rows. rows_of old ≡ without_row client f rows) c.self.view_is
    (remove_rows client f old old None c.self.invariant c.self.invariant (absent_client client old none) (none_is client f None old (λ g. None) none (λ g. nothing_twice (is_filter f g))))

pub invariant_of-self-then-is_empty : goal.invariant_of-self-then-is_empty
invariant_of-self-then-is_empty c =
    let old = c.self.inside.clients.entries in
    let own = c.remove.new.self in
    let mid = c.get_mut.follows.lender own in
    let h = c.get_mut.follows.holds own in
    let written = written_rows c.args.client old mid.entries own c.self.invariant h.0 h.4 c.remove.ensures.ordered in
    removed_rows c.args.client mid.entries c.remove-then-is_empty.new.self.entries written c.remove-then-is_empty.ensures.entries c.remove-then-is_empty.ensures.ordered

pub invariant_of-self-else-is_empty : goal.invariant_of-self-else-is_empty
invariant_of-self-else-is_empty c =
    let own = c.remove.new.self in
    let h = c.get_mut.follows.holds own in
    written_rows c.args.client c.self.inside.clients.entries (c.get_mut.follows.lender own).entries own c.self.invariant h.0 h.4 c.remove.ensures.ordered

pub returns-then-is_empty : goal.returns-then-is_empty
returns-then-is_empty c =
    let client = c.args.client in
    let f = c.args.filter.now in
    let old = c.self.inside.clients.entries in
    let own = c.remove.new.self in
    let mid = c.get_mut.follows.lender own in
    let h = c.get_mut.follows.holds own in
    let new = c.remove-then-is_empty.new.self.entries in
    let was = c.in-Some.ensures.value in
    let written = written_rows client old mid.entries own c.self.invariant h.0 h.4 c.remove.ensures.ordered in
    let kept = removed_rows client mid.entries new written c.remove-then-is_empty.ensures.entries c.remove-then-is_empty.ensures.ordered in
    let updates = h.3 (some_own (lookup (is_client client) old) c.in-Some.own.now was) in
    let clients = λ (d : ℕ). c.remove-then-is_empty.ensures.updates.0 d ∙ ap (cond (is_client client d) None) (updates.0 d) ∙ twice (is_client client d) (Some own) (lookup (is_client d) old) in
    let none = empty_own own.entries (c.is_empty.ensures.0 c.if-is_empty.true) in
    let filters = own_is client f None old c.in-Some.own.now (λ g. None) was (λ g. none g ∙ c.remove.ensures.updates.0 g) in
    let done = subst (λ rows. rows_of new ≡ without_row client f rows) c.self.view_is (remove_rows client f old new None c.self.invariant kept clients filters) in
    elim c.match-remove.branch [ in-Some-1 w ↦ w.self-is ∙ done | in-None-1 w ↦ w.self-is ∙ done ]

pub returns-else-is_empty : goal.returns-else-is_empty
returns-else-is_empty c =
    let client = c.args.client in
    let f = c.args.filter.now in
    let old = c.self.inside.clients.entries in
    let own = c.remove.new.self in
    let mid = c.get_mut.follows.lender own in
    let h = c.get_mut.follows.holds own in
    let was = c.in-Some.ensures.value in
    let written = written_rows client old mid.entries own c.self.invariant h.0 h.4 c.remove.ensures.ordered in
    let updates = h.3 (some_own (lookup (is_client client) old) c.in-Some.own.now was) in
    subst (λ rows. rows_of mid.entries ≡ without_row client f rows) c.self.view_is
    (remove_rows client f old mid.entries (Some own) c.self.invariant written (λ d. updates.0 d) (own_is client f None old c.in-Some.own.now (λ g. lookup (is_filter g) own.entries) was (λ g. c.remove.ensures.updates.0 g)))
