use Rattle.std.proofs.Common.{◌∙◌, drop, take, ap}
use Rattle.std.proofs.lemmas.List.{drop-take}
use Rattle.mq_end.specs.Waiting.{Waiting}
use Rattle.mq_end.proofs.buffer.Buffer.truncate.Goals as goal

pub returns : goal.returns
returns c =
    let inside = c.self.inside in
    let bytes = ap (drop inside.gone) c.truncate.ensures.items ∙ drop-take inside.gone c.args.count inside.bytes.items ∙ ap (λ (o : Waiting). take c.args.count o.bytes) c.self.view_is in
    (λ i. record { bytes = bytes i; room = ap (λ (o : Waiting). o.room) c.self.view_is i })
