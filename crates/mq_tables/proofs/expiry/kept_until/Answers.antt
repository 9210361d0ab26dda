use Rattle.std.proofs.Common.{◌≡◌, ◌∙◌, ◌<◌, ◌≤◌, ℕ, Option, false, not, is_some, List, Some, take, length, sym, ap, subst, add-one, arith}
use Rattle.std.proofs.lemmas.List.{take_all}
use Rattle.mq_route.specs.declared.conn.Conn.{Conn}
use Rattle.mq_tables.specs.declared.sessions.session.BrokerSession.{BrokerSession}
use Rattle.mq_tables.specs.Expiry.{AreKept, is_gone}
use Rattle.mq_tables.proofs.ExpiredSessions.{kept_more, kept_soon, kept_up}
use Rattle.mq_tables.proofs.expiry.kept_until.Goals.{then-is_none, else-is_none}
use Rattle.mq_tables.proofs.expiry.kept_until.Goals as goal

pub loop-boxed-preserved : goal.loop-boxed-preserved
loop-boxed-preserved c = λ now soon.
    let i = c.loop-boxed.boxed-index in
    let ts = c.args.list.now in
    let xs = c.args.connections.now.connections in
    let d = c.boxed-item.result in
    let inside : i < length ts = omega (arith, c.loop-boxed-test.true) in
    let same : c.session-session.result.now ≡ d = c.session-session.ensures in
    let earlier : now ≤ c.loop-boxed.until =
    elim c.if-is_none.branch [
      | then-is_none w ↦ omega (arith, soon, w.until-is, w.min-until.ensures)
      | else-is_none w ↦ omega (arith, soon, w.until-is)
    ] in
    let kept : is_gone (Some c.args.expiry) now xs c.session-session.result.now ≡ false =
    elim c.if-is_none.branch [
      | then-is_none w ↦ kept_soon c.args.expiry now xs c.session-session.result.now (omega (arith, soon, w.until-is, w.min-until.ensures, w.saturating_add.ensures))
      | else-is_none w ↦
          kept_up (Some c.args.expiry) now xs c.session-session.result.now
          (ap (λ (o : Option Conn). is_some o) (sym c.up_on.ensures) ∙ c.is_none.ensures ∙ ap not w.if-is_none.false)
    ] in
    subst (λ (n : ℕ). AreKept (Some c.args.expiry) now xs (take n ts)) (sym (add-one i))
    (kept_more (Some c.args.expiry) now xs ts i d inside (c.loop-boxed.invariant now earlier)
    (subst (λ (t : BrokerSession). is_gone (Some c.args.expiry) now xs t ≡ false) (same ∙ c.boxed-item.is) kept))

pub returns : goal.returns
returns c = λ now soon.
    subst (λ (ts : List BrokerSession). AreKept (Some c.args.expiry) now c.args.connections.now.connections ts)
    (take_all c.loop-boxed.boxed-index c.args.list.now (omega (arith, c.loop-boxed-test.false))) (c.loop-boxed.invariant now soon)
