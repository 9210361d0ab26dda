use Rattle.std.proofs.Common.{◌≡◌, ◌∙◌, ◌&&◌, Bool, true, false, not, ap, sym}
use Rattle.std.specs.List.{list_any}
use Rattle.mq_end.specs.End.{is_up}
use Rattle.mq_end.specs.Both.{has_identifier}
use Rattle.mq_end.proofs.Rooms.{any_while}
use Rattle.mq_end.proofs.endpoint.Endpoint.lacks_connection.Goals as goal

pub returns-then-not-is_up : goal.returns-then-not-is_up
returns-then-not-is_up c =
    let ms = c.args.messages.now in
    let up : false ≡ is_up c.args.self.now.end.state = sym c.if-not-is_up.true ∙ c.is_up.ensures in
    c.has_at_most_once.ensures ∙ sym (any_while false ms) ∙ ap (λ (b : Bool). list_any (λ m. not (has_identifier m.qos) && not b) ms) up

pub returns-else-not-is_up : goal.returns-else-not-is_up
returns-else-not-is_up c =
    let ms = c.args.messages.now in
    let up : true ≡ is_up c.args.self.now.end.state = sym c.if-not-is_up.false ∙ c.is_up.ensures in
    ap not c.if-not-is_up.false ∙ sym (any_while true ms) ∙ ap (λ (b : Bool). list_any (λ m. not (has_identifier m.qos) && not b) ms) up
