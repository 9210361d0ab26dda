use Rattle.std.proofs.Common.{subst, Ok}
use Rattle.httparse.specs.declared.Error.{Error}
use Rattle.httparse.specs.declared.Status.{Status}
use Rattle.httparse.specs.declared.spans.RequestSpans.{RequestSpans}
use Rattle.httparse.specs.Outcome.{IfComplete}
use Rattle.httparse.specs.Spans.{IsRequestOf, IsRequestWithin}
use Rattle.mq_status.proofs.Heads.{too_long}
use Rattle.mq_status.proofs.http.request.Goals as goal

pub returns-then-head-gt-MAX_HEAD : goal.returns-then-head-gt-MAX_HEAD
returns-then-head-gt-MAX_HEAD c =
    let received = c.args.received.now in
    let headers = c.parse_request.new.headers in
    let at = c.in-Ok-Complete in
    too_long received headers at.head
    (subst (λ (s : Status RequestSpans). IfComplete {E = Error} (Ok s) (IsRequestOf received headers)) at.field-0-is at.ensures.complete)
    (subst (λ (s : Status RequestSpans). IfComplete {E = Error} (Ok s) (IsRequestWithin received headers)) at.field-0-is at.ensures.within)
    c.if-head-gt-MAX_HEAD.true
