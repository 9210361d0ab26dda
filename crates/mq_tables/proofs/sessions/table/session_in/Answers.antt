use Rattle.std.proofs.Common.{◌≡◌, ◌∙◌, ◌<◌, ℕ, List, Some, None, cond, length, get_or, slice_get, eqb, sym, ap, arith}
use Rattle.std.proofs.lemmas.Bool.{cond-true, cond-false}
use Rattle.mq_tables.specs.declared.sessions.session.BrokerSession.{BrokerSession}
use Rattle.mq_tables.specs.Sessions.{AreAscending, session_at}
use Rattle.mq_tables.proofs.SessionLemmas.{place, at_place, found, past, got_some}
use Rattle.mq_tables.proofs.sessions.table.session_in.Goals as goal

-- the session at the index of a key has that key, or there is none
own_or_none : (key i : ℕ) (ts : List BrokerSession) (d t : BrokerSession) → AreAscending ts → i ≡ place key ts → i < length ts → t ≡ get_or ts i d
    → session_at key ts ≡ cond (eqb t.key key) (Some t) None
own_or_none key i ts d t up is within own =
    found key ts up ∙ ap (λ (n : ℕ). at_place key (slice_get ts n)) (sym is)
    ∙ ap (at_place key) (got_some d ts i within) ∙ ap (λ (x : BrokerSession). at_place key (Some x)) (sym own)

pub returns-then-at-list : goal.returns-then-at-list
returns-then-at-list c =
    let ts = c.args.list.now in
    let at : place c.args.key ts ≡ length ts = sym c.place-at.ensures.value ∙ c.if-at-list.true in
    sym (found c.args.key ts c.requires ∙ ap (at_place c.args.key) (past ts (place c.args.key ts) (omega arith)))

pub returns-then-eq : goal.returns-then-eq
returns-then-eq c =
    let ts = c.args.list.now in
    let bound = c.place-at.ensures.bound in
    let t = c.session-session.result.now in
    sym (own_or_none c.args.key c.place-at.result ts c.index-list-at.result t c.requires c.place-at.ensures.value (omega (arith, c.if-at-list.false)) (c.session-session.ensures ∙ c.index-list-at.is)
    ∙ cond-true (eqb t.key c.args.key) (Some t) None (sym c.eq.ensures ∙ c.if-eq.true))

pub returns-else-eq : goal.returns-else-eq
returns-else-eq c =
    let ts = c.args.list.now in
    let bound = c.place-at.ensures.bound in
    let t = c.session-session.result.now in
    sym (own_or_none c.args.key c.place-at.result ts c.index-list-at.result t c.requires c.place-at.ensures.value (omega (arith, c.if-at-list.false)) (c.session-session.ensures ∙ c.index-list-at.is)
    ∙ cond-false (eqb t.key c.args.key) (Some t) None (sym c.eq.ensures ∙ c.if-eq.false))
