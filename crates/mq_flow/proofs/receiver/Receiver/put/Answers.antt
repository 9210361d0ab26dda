use Rattle.std.proofs.Common.{◌≡◌, ◌++◌, List, ℕ, ap, sym, subst, ◌∙◌, OnOk}
use Rattle.mq_flow.specs.Saved.{saved_ids, ascending}
use Rattle.mq_flow.proofs.Ascending.{keys_rise, ascending_keys}
use Rattle.mq_flow.proofs.Live.{all_identifiers}
use Rattle.mq_flow.proofs.receiver.Receiver.put.Goals as goal

pub returns-clause-ok : goal.returns-clause-ok
returns-clause-ok c =
    let keys = c.self.inside.stored.keys in
    let same : keys ≡ ascending c.args.self.now = sym (ascending_keys keys (keys_rise keys c.self.invariant c.put_stored.ensures.ordered)) ∙ ap ascending c.self.view_is in
    subst (λ (ids : List ℕ). OnOk c.put_stored.result (c.put_stored.new.out.items ≡ c.args.out.now.items ++ saved_ids ids)) same c.put_stored.ensures.ok

pub returns-clause-received : goal.returns-clause-received
returns-clause-received c = all_identifiers c.args.self.now c.self.inside.stored.keys (sym c.self.view_is) c.self.invariant
