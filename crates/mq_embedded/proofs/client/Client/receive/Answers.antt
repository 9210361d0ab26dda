use Rattle.std.proofs.Common.{◌≡◌, List, [], sym, ap, ◌∙◌}
use Rattle.mq_end.specs.declared.happening.Happening.{Happening}
use Rattle.mq_embedded.specs.Calls.{WithEvents}
use Rattle.mq_embedded.specs.Queue.{queued}
use Rattle.mq_embedded.proofs.Heard.{received}
use Rattle.mq_embedded.proofs.client.Client.receive.Goals as goal

pub returns : goal.returns
returns c =
    let with_events : List Happening → WithEvents = λ events. record { end = c.self.inside.end; events = events } in
    let same : with_events (queued c.is_empty.new.self) ≡ c.args.self.now = ap with_events c.is_empty.ensures.same ∙ c.self.view_is in
    let none : queued c.self.inside.queue ≡ [] = c.is_empty.ensures.empty.0 c.if-not-is_empty.false in
    received c.args.bytes.now c.args.self.now (with_events (queued c.is_empty.new.self)) c.hear.new.self c.hear.result same (sym (ap (λ (w : WithEvents). w.events) c.self.view_is) ∙ none) c.hear.ensures
