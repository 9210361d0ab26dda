use Rattle.std.proofs.Common.{◌≡◌, ◌⊎◌, ◌<◌, ◌∙◌, ℕ, inl, inr, length, Option, Some, None, unwrap_or, refl, sym, ap, subst}
use Rattle.std.proofs.lemmas.List.{length-map}
use Rattle.std.specs.Option.{IfSome}
use Rattle.mq_tables.specs.Connections.{connection_of, ConnectionList}
use Rattle.mq_tables.proofs.ConnectionTable.{Entry}
use Rattle.mq_tables.proofs.connections.table.Connections.place_of.Goals as goal

zero_or_within : (n : ℕ) (found : Option ℕ) → IfSome found (λ i. i < n) → (unwrap_or found 0 ≡ 0) ⊎ (unwrap_or found 0 < n)
zero_or_within n None within = inl refl
zero_or_within n (Some i) within = inr within

pub returns : goal.returns
returns c =
    let found = c.get_index_of.result in
    let n = length c.args.self.now.connections in
    let long = sym (length-map c.self.inside.by_conn.entries (λ (e : Entry). connection_of e.1)) ∙ ap (λ (v : ConnectionList). length v.connections) c.self.view_is in
    subst (λ (r : ℕ). (r ≡ 0) ⊎ (r < n)) (sym c.unwrap_or.ensures)
    (zero_or_within n found (subst (λ (m : ℕ). IfSome found (λ i. i < m)) long c.get_index_of.ensures.within))
