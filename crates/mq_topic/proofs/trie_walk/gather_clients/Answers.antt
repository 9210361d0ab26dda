use Rattle.std.proofs.Common.{◌≡◌, ℕ, Bool, true, false, cond, Some, None, sym, refl, ap, ◌∙◌}
use Rattle.mq_topic.specs.NodeView.{client_in}
use Rattle.mq_topic.specs.declared.clients.Clients.TheVariants.{Nobody, One}
use Rattle.mq_topic.specs.declared.qos.Qos.{Qos}
use Rattle.mq_topic.proofs.ClientMaps.{equal_number}
use Rattle.mq_topic.proofs.Gathering.{gathers_nothing, gathers_same}
use Rattle.mq_topic.proofs.Nodes.{is_client, is_client-itself}
use Rattle.mq_topic.proofs.Outcomes.{when_ok}
use Rattle.mq_topic.proofs.trie_walk.gather_clients.Goals as goal

-- the one client is found, and no other
only-by : (c d : ℕ) (p q : Qos) (b : Bool) → is_client c d ≡ b → cond b (Some p) None ≡ Some q → (c ≡ d) × (q ≡ p)
only-by c d p q true t e = let same : q ≡ p = cc in (equal_number c d t, same)
only-by c d p q false t e = absurd cc

only : (c d : ℕ) (p q : Qos) → (c ≡ d) × (q ≡ p) → client_in c (One d p) ≡ Some q
only c d p q h = ap (λ x. cond (is_client x d) (Some p) None) h.0 ∙ ap (λ b. cond b (Some p) None) (is_client-itself d) ∙ ap (λ (z : Qos). Some z) (sym h.1)

pub returns-in-Nobody : goal.returns-in-Nobody
returns-in-Nobody c =
    rw c.in-Nobody.is
    (gathers_nothing (λ d q. client_in d Nobody ≡ Some q) c.args.found.now.entries (λ d q e. let no : ⊥ = cc in no))

pub returns-in-One : goal.returns-in-One
returns-in-One c =
    let d = c.in-One.client in
    let p = c.in-One.qos in
    rw c.in-One.is
    (when_ok c.note.result _ _
    (λ g. gathers_same (λ e q. (e ≡ d) × (q ≡ p)) (λ e q. client_in e (One d p) ≡ Some q) c.args.found.now.entries c.note.new.found.entries
    (λ e q h. only e d p q h) (λ e q h. only-by e d p q (is_client e d) refl h) g)
    c.note.ensures)

pub returns-in-Several : goal.returns-in-Several
returns-in-Several c = rw c.in-Several.is c.gather_map.ensures
