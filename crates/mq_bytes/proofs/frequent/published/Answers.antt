use Rattle.std.proofs.Common.{◌≡◌, ℕ, ◌+◌, ◌-◌, ◌++◌, length, sym, ap, subst, ◌∙◌, arith}
use Rattle.std.specs.Prelude.{Option}
use Rattle.std.proofs.lemmas.List.{length-append}
use Rattle.mq_topic.specs.Qos.{qos_number}
use Rattle.mq_packet.specs.declared.publish.Delivery.{Delivery}
use Rattle.mq_packet.specs.Encoding.{delivery_fields}
use Rattle.mq_bytes.specs.Places.{Lies, dup_of, identifier_of}
use Rattle.mq_bytes.proofs.Lying.{lies_topic, lies_payload}
use Rattle.mq_bytes.proofs.frequent.published.Goals as goal

pub returns-clause-shows : goal.returns-clause-shows
returns-clause-shows c = λ b p lies qos retain delivery topic end.
    let start = c.args.start in
    let middle : c.delivery_parts-id.result.2 ≡ length (delivery_fields p.delivery) = c.delivery_parts-id.ensures.size ∙ ap (λ (d : Option Delivery). length (delivery_fields d)) (sym delivery) in
    let at : ((start + 2) + length p.message.topic) + length (delivery_fields p.delivery) ≡ ((start + 2) + c.args.topic) + c.delivery_parts-id.result.2 = omega arith in
    let whole = length-append p.message.topic (delivery_fields p.delivery ++ p.message.payload) in
    let rest = length-append (delivery_fields p.delivery) p.message.payload in
    let size : c.args.end - (((start + 2) + c.args.topic) + c.delivery_parts-id.result.2) ≡ length p.message.payload = omega (arith, end, whole, rest, at) in (
      c.bare-fields.ensures.kind.0,
      (sym topic, lies_topic b start p lies),
      (size, subst (λ (k : ℕ). Lies b k p.message.payload) at (lies_payload b start p lies)),
      c.number.ensures ∙ ap qos_number (sym qos),
      sym retain,
      c.delivery_parts-id.ensures.dup ∙ ap dup_of (sym delivery),
      c.delivery_parts-id.ensures.id ∙ ap identifier_of (sym delivery),
    )
