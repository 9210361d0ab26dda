use Rattle.std.proofs.Common.{◌≡◌, sym, ◌∙◌}
use Rattle.mq_packet.specs.Lines.{escaped}
use Rattle.mq_topic.specs.Topic.{IsTopicName}
use Rattle.mq_schedule.proofs.Octets.{name_bytes, name_utf8}
use Rattle.mq_schedule.proofs.Values.{name_is, name_memory, no_value}
use Rattle.mq_schedule.proofs.fields.topic.Goals as goal

pub returns-in_default : goal.returns-in_default
returns-in_default c = λ name h.
    let none = rw c.in_default.is at c.in_ok-bytes.ensures in
    none name (name_bytes name h.0, c.as_bytes.ensures.value ∙ h.1)

pub returns-in_default-from_utf8 : goal.returns-in_default-from_utf8
returns-in_default-from_utf8 c = λ name h.
    let found = rw c.in-Some.is at c.in_ok-bytes.ensures in
    let same = name_is c.args.word.now c.in-Some.bytes.items name found.0 (sym c.as_bytes.ensures.value ∙ found.1) h in
    c.in_default-from_utf8.ensures.cases.0 (rw (same ∙ sym c.deref.ensures.value) at (name_utf8 name h.0))

pub returns : goal.returns
returns c =
    let found = rw c.in-Some.is at c.in_ok-bytes.ensures in
    no_value c.no_name.result (λ name. IsTopicName name × (c.args.word.now ≡ escaped name)) c.no_name.ensures.none (λ name h.
    let same = name_is c.args.word.now c.in-Some.bytes.items name found.0 (sym c.as_bytes.ensures.value ∙ found.1) h in
    let text = same ∙ sym (c.in-Ok.ensures.cases.0 ∙ c.deref.ensures.value) in
    c.no_name.ensures.memory (name_memory c.in-Ok.text.now name c.in-Err.fault text h.0 c.in-Err.ensures.memory))
