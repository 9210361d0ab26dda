use Rattle.std.proofs.Common.{◌≡◌, ◌∙◌, List, [], ℕ, vec_len, sym, ap, subst, eqb-true, arith}
use Rattle.std.proofs.lemmas.List.{nil_from_length}
use Rattle.mq_topic.specs.Rows.{Row, matched}
use Rattle.mq_packet.specs.declared.message.Message.{Message}
use Rattle.mq_tables.specs.Connections.{ConnectionList}
use Rattle.mq_hub.specs.Inside.Placement.{AreApart, AreFor, copies_found}
use Rattle.mq_hub.proofs.CopyTargets.{due_for}
use Rattle.std.proofs.lemmas.Float.{T_from_true}
use Rattle.mq_hub.proofs.PlannedCopies.{found_alike, found_is, found_apart, hidden_none, if_ok}
use Rattle.mq_hub.proofs.publish.enqueue.copies_of.Goals as goal

pub returns-then-is_hidden_name-clause-copies : goal.returns-then-is_hidden_name-clause-copies
returns-then-is_hidden_name-clause-copies g c = λ h rows alike.
    c.new.ensures.items ∙ hidden_none c.args.message.now h (sym c.is_hidden_name.ensures ∙ c.if-is_hidden_name.true)

-- no client was found
pub returns-then-is_empty-clause-copies : goal.returns-then-is_empty-clause-copies
returns-then-is_empty-clause-copies g c = λ h rows alike.
    let m = c.args.message.now in
    let xs = c.args.connections.now.connections in
    let found = c.in_ok-found.found in
    let size = eqb-true (vec_len found) 0 (sym c.is_empty.ensures ∙ c.if-is_empty.true) in
    let none : found.items ≡ [] = nil_from_length found.items (omega (arith, size, found.ok)) in
    c.new-then-is_empty.ensures.items ∙ ap (copies_found xs m) (sym none ∙ c.in_ok-found.ensures.value)
    ∙ ap (λ (rs : List Row). copies_found xs m (matched m.topic rs)) (sym rows)
    ∙ found_alike h.connections xs m (matched m.topic h.rows) alike
    ∙ found_is m h (sym c.is_hidden_name.ensures ∙ c.if-is_hidden_name.false)

pub returns-then-is_empty-clause-due : goal.returns-then-is_empty-clause-due
returns-then-is_empty-clause-due g c = λ config next_key t rows connections keeps fits.
    subst (λ (cs : List (ℕ × Message)). AreFor t.sessions.list cs) (sym c.new-then-is_empty.ensures.items) tt

pub returns-clause-copies : goal.returns-clause-copies
returns-clause-copies g c =
    let m = c.args.message.now in
    let xs = c.args.connections.now.connections in
    if_ok c.copies_found.result c.copies_found.ensures (λ copies e h rows alike.
    e ∙ ap (copies_found xs m) c.in_ok-found.ensures.value
    ∙ ap (λ (rs : List Row). copies_found xs m (matched m.topic rs)) (sym rows)
    ∙ found_alike h.connections xs m (matched m.topic h.rows) alike
    ∙ found_is m h (sym c.is_hidden_name.ensures ∙ c.if-is_hidden_name.false))

pub returns-clause-apart : goal.returns-clause-apart
returns-clause-apart g c =
    let m = c.args.message.now in
    let xs = c.args.connections.now.connections in
    if_ok c.copies_found.result c.copies_found.ensures (λ copies e.
    subst (λ (cs : List (ℕ × Message)). AreApart cs) (sym e) (found_apart xs m c.in_ok-found.found.items (T_from_true _ c.in_ok-found.ensures.greatest.ascending)))

pub returns-then-is_hidden_name-clause-due : goal.returns-then-is_hidden_name-clause-due
returns-then-is_hidden_name-clause-due g c = λ config next_key t rows connections keeps fits.
    subst (λ (cs : List (ℕ × Message)). AreFor t.sessions.list cs) (sym c.new.ensures.items) tt

pub returns-clause-due : goal.returns-clause-due
returns-clause-due g c =
    let m = c.args.message.now in
    let xs = c.args.connections.now.connections in
    if_ok c.copies_found.result c.copies_found.ensures (λ copies e config next_key t rows connections keeps fits.
    subst (λ (cs : List (ℕ × Message)). AreFor t.sessions.list cs)
    (sym (e ∙ ap (copies_found xs m) c.in_ok-found.ensures.value
    ∙ ap (λ (rs : List Row). copies_found xs m (matched m.topic rs)) (sym rows)
    ∙ ap (λ (ls : ConnectionList). copies_found ls.connections m (matched m.topic t.rows)) (sym connections)))
    (due_for config next_key t m keeps fits))
