use Rattle.std.proofs.Common.{◌≡◌, sym, ◌∙◌}
use Rattle.mq_wire.specs.Text.{IsText}
use Rattle.mq_packet.specs.Lines.{escaped}
use Rattle.mq_schedule.proofs.Values.{no_value}
use Rattle.mq_loopback.proofs.Names.{text_bytes, text_is, text_memory, text_utf8}
use Rattle.mq_loopback.proofs.read.name.Goals as goal

pub returns-in_default : goal.returns-in_default
returns-in_default c = λ name h.
    let none = rw c.in_default.is at c.in_ok-bytes.ensures in
    none name (text_bytes name h.0, c.as_bytes.ensures.value ∙ h.1)

pub returns-in_default-from_utf8 : goal.returns-in_default-from_utf8
returns-in_default-from_utf8 c = λ name h.
    let found = rw c.in-Some.is at c.in_ok-bytes.ensures in
    let same = text_is c.args.word.now c.in-Some.bytes.items name found.0 (sym c.as_bytes.ensures.value ∙ found.1) h in
    c.in_default-from_utf8.ensures.cases.0 (rw (same ∙ sym c.deref.ensures.value) at (text_utf8 name h.0))

pub returns : goal.returns
returns c =
    let found = rw c.in-Some.is at c.in_ok-bytes.ensures in
    no_value c.no_text.result (λ name. IsText name × (c.args.word.now ≡ escaped name)) c.no_text.ensures.none (λ name h.
    let same = text_is c.args.word.now c.in-Some.bytes.items name found.0 (sym c.as_bytes.ensures.value ∙ found.1) h in
    let text = same ∙ sym (c.in-Ok.ensures.cases.0 ∙ c.deref.ensures.value) in
    c.no_text.ensures.memory (text_memory c.new.result c.in-Ok.text.now name c.in-Err.fault c.in-Err.is text h.0 c.new.ensures.too_long c.new.ensures.nul))
