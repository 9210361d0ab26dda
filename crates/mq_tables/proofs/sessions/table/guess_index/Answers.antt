use Rattle.std.proofs.Common.{◌≡◌, sym, ap, ◌∙◌, eqb-true}
use Rattle.mq_tables.specs.declared.sessions.session.BrokerSession.{BrokerSession}
use Rattle.mq_tables.proofs.SessionLemmas.{known_place}
use Rattle.mq_tables.proofs.sessions.table.guess_index.Goals as goal

pub returns-then-eq-clause-value : goal.returns-then-eq-clause-value
returns-then-eq-clause-value c =
    let found : c.index-list-at.result.key ≡ c.args.key = ap (λ (t : BrokerSession). t.key) (sym c.session-then-at-list.ensures) ∙ eqb-true c.session-then-at-list.result.now.key c.args.key (sym c.eq.ensures ∙ c.if-eq.true) in
    known_place c.args.key c.args.list.now c.in_ok-at.field-0 c.index-list-at.result c.requires c.if-at-list.true (ap (λ (t : BrokerSession). t.key) (sym c.index-list-at.is) ∙ found)
