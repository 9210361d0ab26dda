use Rattle.std.proofs.Common.{◌+◌, List, ℕ, subst, lit<, arith}
use Rattle.std.proofs.lemmas.Iterator.Consumers.{YieldsList-so_far, YieldsList-turn, YieldsList-end}
use Rattle.std.proofs.lemmas.Iterator.Splits.{YieldsList-from_str_split}
use Rattle.mq_schedule.specs.Parts.{parts}
use Rattle.mq_loopback.specs.declared.client.Client.{Client}
use Rattle.mq_loopback.specs.File.{AreClients, IsBadLine}
use Rattle.mq_loopback.specs.Inside.File.{Joins}
use Rattle.mq_loopback.proofs.Lines.{client_more, fault_is, number_is, stops}
use Rattle.mq_loopback.proofs.read.read_clients.Goals as goal

pub returns-in_err-client-clause-line : goal.returns-in_err-client-clause-line
returns-in_err-client-clause-line c = λ n e.
    let at = c.loop-line in
    let text = c.without_feed.result.now in
    let fault = fault_is c.from_residual-in_err-client.result c.in_err-client.field-0.0 n c.from_residual-in_err-client.ensures.1 e in
    let none = c.in_err-client.ensures.ok_part in
    let number = number_is c.in_ok-next_client.field-0 (c.len-number.result + 1) n c.in_err-client.field-0.0 none c.in_err-client.ensures.value fault in
    let front = YieldsList-so_far (YieldsList-from_str_split 10 text (lit< tt) (cc) (cc) (cc)) at.yielded _ at.yielded_by in
    let here = YieldsList-turn (YieldsList-from_str_split 10 text (lit< tt) (cc) (cc) (cc)) at.yielded _ at.yielded_by _ _ c.in-Some.line c.in-Some.is c.next.ensures.steps in
    let no_client = rw none at c.in_ok-next_client.ensures in
    let refused = subst (λ (clients : List Client). (client : Client) → ¬ Joins clients client c.in-Some.line.now) c.as_slice.ensures.value no_client in
    let bad = stops (parts 10 text) at.clients.items at.yielded c.in-Some.line.now c.len-number.result n at.invariant.read front here (omega (arith, c.len-number.ensures, at.clients.ok.0)) number refused in
    subst (λ (t : List ℕ). IsBadLine (parts 10 t) n) c.without_feed.ensures bad

pub loop-line-preserved : goal.loop-line-preserved
loop-line-preserved c =
    let at = c.loop-line in
    let found = rw c.in_ok-client.ensures.ok_part at c.in_ok-next_client.ensures in
    let joins = subst (λ (clients : List Client). Joins clients c.in_ok-client.client c.in-Some.line.now) c.as_slice.ensures.value found in
    record { can_next = tt; is_finite = tt; read = client_more at.clients.items c.push.new.clients.items at.yielded c.in_ok-client.client c.in-Some.line at.invariant.read joins c.in_ok-push.ensures }

pub returns-clause-reads : goal.returns-clause-reads
returns-clause-reads c =
    let at = c.loop-line in
    let text = c.without_feed.result.now in
    let all = YieldsList-end (YieldsList-from_str_split 10 text (lit< tt) (cc) (cc) (cc)) at.yielded _ at.yielded_by _ _ c.in-None.is c.next.ensures.steps in
    let read = subst (λ lines. AreClients at.clients.items lines) all.0 at.invariant.read in
    subst (λ (t : List ℕ). AreClients at.clients.items (parts 10 t)) c.without_feed.ensures read
