use Rattle.std.proofs.Common.{ap, sym, ◌∙◌}
use Rattle.std.specs.FinSet.{from_list}
use Rattle.std.proofs.lemmas.List.{nil_from_length}
use Rattle.mq_flow.proofs.Members.{no_keys}
use Rattle.mq_flow.proofs.receiver.Receiver.is_empty.Goals as goal

pub returns : goal.returns
returns c =
    (λ t. sym c.self.view_is ∙ ap from_list (nil_from_length c.self.inside.stored.keys (c.is_empty.ensures.0 t)), λ e. c.is_empty.ensures.1 (no_keys c.self.inside.stored.keys (c.self.view_is ∙ e)))
