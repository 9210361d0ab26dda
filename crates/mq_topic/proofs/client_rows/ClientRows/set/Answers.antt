use Rattle.std.proofs.Common.{◌≡◌, Option, Some, None, cond, sym, ap, subst, ◌∙◌}
use Rattle.std.specs.Map.{lookup}
use Rattle.std.specs.Option.{option_map_or}
use Rattle.mq_topic.specs.ClientRows.{AreClientRows, rows_of}
use Rattle.mq_topic.specs.Rows.{row_qos, with_row}
use Rattle.mq_topic.proofs.ClientMaps.{Own, inserted_rows, is_filter, none_is, own_is, rows_qos, same_rows, set_rows, some_own, written_rows}
use Rattle.mq_topic.proofs.Nodes.{is_client}
use Rattle.mq_topic.proofs.Placing.{T-true, on_err}
use Rattle.mq_topic.proofs.client_rows.ClientRows.set.Goals as goal

pub invariant_of-self : goal.invariant_of-self
invariant_of-self c =
    let own = c.insert.new.self in
    let h = c.get_mut.follows.holds own in
    written_rows c.args.client c.self.inside.clients.entries (c.get_mut.follows.lender own).entries own c.self.invariant h.0 h.4 c.in_err-insert.ensures.ordered

pub returns-in_err-insert-clause-unchanged : goal.returns-in_err-insert-clause-unchanged
returns-in_err-insert-clause-unchanged c =
    let client = c.args.client in
    let old = c.self.inside.clients.entries in
    let own = c.insert.new.self in
    let mid = c.get_mut.follows.lender own in
    let h = c.get_mut.follows.holds own in
    let was = c.in-Some.ensures.value in
    let written = written_rows client old mid.entries own c.self.invariant h.0 h.4 c.in_err-insert.ensures.ordered in
    let updates = h.3 (some_own (lookup (is_client client) old) c.in-Some.own.now was) in
    on_err _ c.from_residual.result
    (subst (λ rows. rows_of mid.entries ≡ rows) c.self.view_is (same_rows client old mid.entries c.in-Some.own.now own c.self.invariant written was c.in_err-insert.ensures.err (λ d. updates.0 d)))

pub returns-in_err-insert-clause-refused : goal.returns-in_err-insert-clause-refused
returns-in_err-insert-clause-refused c =
    let client = c.args.client in
    let f = c.args.filter in
    let was = c.in-Some.ensures.value in
    on_err _ c.from_residual.result
    (ap (row_qos client f) (sym c.self.view_is) ∙ rows_qos client f c.self.inside.clients.entries (T-true _ c.self.invariant.clients)
    ∙ ap (λ (o : Option Own). option_map_or (λ (own : Own). lookup (is_filter f) own.entries) o None) (sym was) ∙ c.in_err-insert.ensures.absent)

pub invariant_of-self-in-Some : goal.invariant_of-self-in-Some
invariant_of-self-in-Some c =
    let own = c.insert.new.self in
    let h = c.get_mut.follows.holds own in
    written_rows c.args.client c.self.inside.clients.entries (c.get_mut.follows.lender own).entries own c.self.invariant h.0 h.4 c.in_ok-insert.ensures.ordered

pub returns-in-Some-clause-value : goal.returns-in-Some-clause-value
returns-in-Some-clause-value c =
    let client = c.args.client in
    let f = c.args.filter in
    let old = c.self.inside.clients.entries in
    let own = c.insert.new.self in
    let mid = c.get_mut.follows.lender own in
    let h = c.get_mut.follows.holds own in
    let was = c.in-Some.ensures.value in
    let written = written_rows client old mid.entries own c.self.invariant h.0 h.4 c.in_ok-insert.ensures.ordered in
    let updates = h.3 (some_own (lookup (is_client client) old) c.in-Some.own.now was) in
    subst (λ rows. rows_of mid.entries ≡ with_row client f c.args.qos rows) c.self.view_is
    (set_rows client f c.args.qos old mid.entries own c.self.invariant written (λ d. updates.0 d)
    (own_is client f (Some c.args.qos) old c.in-Some.own.now (λ g. lookup (is_filter g) own.entries) was (λ g. c.in_ok-insert.ensures.updates.0 g)))

pub returns-in_err-insert-2-clause-refused : goal.returns-in_err-insert-2-clause-refused
returns-in_err-insert-2-clause-refused c =
    let client = c.args.client in
    let f = c.args.filter in
    on_err _ c.from_residual-in_err-insert-2.result
    (ap (row_qos client f) (sym c.self.view_is) ∙ rows_qos client f c.self.inside.clients.entries (T-true _ c.self.invariant.clients)
    ∙ ap (λ (o : Option Own). option_map_or (λ (own : Own). lookup (is_filter f) own.entries) o None) (sym c.in_default.ensures.value))

pub returns-in_err-insert-3-clause-refused : goal.returns-in_err-insert-3-clause-refused
returns-in_err-insert-3-clause-refused c =
    let client = c.args.client in
    let f = c.args.filter in
    on_err _ c.from_residual-in_err-insert-3.result
    (ap (row_qos client f) (sym c.self.view_is) ∙ rows_qos client f c.self.inside.clients.entries (T-true _ c.self.invariant.clients)
    ∙ ap (λ (o : Option Own). option_map_or (λ (own : Own). lookup (is_filter f) own.entries) o None) (sym c.in_default.ensures.value))

pub invariant_of-self-2 : goal.invariant_of-self-2
invariant_of-self-2 c =
    let mid = c.get_mut.follows.lender-at-none in
    inserted_rows c.args.client mid.entries c.insert-3.new.self.entries c.insert-2.new.self (subst (λ m. AreClientRows m.entries) (sym c.get_mut.follows.holds-at-none) c.self.invariant)
    c.in_ok-insert-3.ensures.entries c.in_ok-insert-3.ensures.ordered c.in_ok-insert-2.ensures.ordered

pub returns-clause-value : goal.returns-clause-value
returns-clause-value c =
    let client = c.args.client in
    let f = c.args.filter in
    let old = c.self.inside.clients.entries in
    let mid = c.get_mut.follows.lender-at-none in
    let none = c.get_mut.follows.holds-at-none in
    let own = c.insert-2.new.self in
    let new = c.insert-3.new.self.entries in
    let kept = inserted_rows client mid.entries new own (subst (λ m. AreClientRows m.entries) (sym none) c.self.invariant) c.in_ok-insert-3.ensures.entries c.in_ok-insert-3.ensures.ordered c.in_ok-insert-2.ensures.ordered in
    subst (λ rows. rows_of new ≡ with_row client f c.args.qos rows) c.self.view_is
    (set_rows client f c.args.qos old new own c.self.invariant kept
    (λ d. c.in_ok-insert-3.ensures.updates.0 d ∙ ap (λ m. cond (is_client client d) (Some own) (lookup (is_client d) m.entries)) none)
    (none_is client f (Some c.args.qos) old (λ g. lookup (is_filter g) own.entries) c.in_default.ensures.value
    (λ g. c.in_ok-insert-2.ensures.updates.0 g ∙ ap (λ es. cond (is_filter f g) (Some c.args.qos) (lookup (is_filter g) es)) c.new-own.ensures.empty)))
