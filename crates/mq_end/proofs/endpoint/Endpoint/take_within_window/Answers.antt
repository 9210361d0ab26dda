use Rattle.std.proofs.Common.{◌≡◌, ◌∙◌, true, Bool, IfOk, if◌then◌else◌, sym, subst}
use Rattle.mq_packet.specs.declared.message.Message.{Message}
use Rattle.mq_flow.specs.Window.{fits_window}
use Rattle.mq_end.specs.declared.reason.CloseReason.TheVariants as reasons
use Rattle.mq_end.specs.Both.{stores}
use Rattle.mq_end.specs.End.{closes}
use Rattle.mq_end.specs.State.{EndState}
use Rattle.mq_end.specs.Receiving.{Gives, outcome_of}
use Rattle.mq_end.proofs.endpoint.Endpoint.take_within_window.Goals as goal

pub returns-clause-ok : goal.returns-clause-ok
returns-clause-ok c =
    let old = c.args.self.now in
    let new = c.take_exactly_once.new.self in
    let id = c.args.delivery.id in
    let fits : fits_window old.end.window id old.end.received ≡ true =
    subst (λ (s : EndState). fits_window s.end.window id s.end.received ≡ true) c.self.view_is (sym c.fits.ensures ∙ c.if-not-fits.false) in
    subst (λ (b : Bool). IfOk c.take_exactly_once.result (λ handing. (m : Message) → Gives (if b then stores id m old.end else closes reasons.Window old.end) (outcome_of handing m) old new))
    (sym fits) c.take_exactly_once.ensures.ok
