use Rattle.std.proofs.Common.{◌≡◌, ◌∙◌, Bool, true, false, not, ap, sym}
use Rattle.std.specs.List.{list_any}
use Rattle.mq_end.specs.State.{EndState}
use Rattle.mq_end.proofs.Rooms.{any_or_none}
use Rattle.mq_end.proofs.endpoint.Endpoint.lacks_session.Goals as goal

pub returns-then-not-self : goal.returns-then-not-self
returns-then-not-self c =
    let ms = c.args.messages.now in
    let known : false ≡ c.args.self.now.end.known = sym c.if-not-self.true ∙ ap (λ (s : EndState). s.end.known) c.self.view_is in
    ap not c.is_empty.ensures ∙ sym (any_or_none true ms) ∙ ap (λ (b : Bool). list_any (λ m. not b) ms) known

pub returns-else-not-self : goal.returns-else-not-self
returns-else-not-self c =
    let ms = c.args.messages.now in
    let known : true ≡ c.args.self.now.end.known = sym c.if-not-self.false ∙ ap (λ (s : EndState). s.end.known) c.self.view_is in
    ap not c.if-not-self.false ∙ sym (any_or_none false ms) ∙ ap (λ (b : Bool). list_any (λ m. not b) ms) known
