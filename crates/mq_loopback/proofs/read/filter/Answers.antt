use Rattle.std.proofs.Common.{◌≡◌, sym, ◌∙◌}
use Rattle.mq_topic.specs.Topic.{IsTopicFilter}
use Rattle.mq_packet.specs.Lines.{escaped}
use Rattle.mq_schedule.proofs.Values.{no_value}
use Rattle.mq_loopback.proofs.Names.{filter_memory, same_text}
use Rattle.mq_loopback.proofs.read.filter.Goals as goal

pub returns-in_default : goal.returns-in_default
returns-in_default c = λ filter h.
    let none = rw c.in_default.is at c.in_ok-text.ensures in
    none filter (h.0.text, h.1)

pub returns : goal.returns
returns c =
    let found = rw c.in-Some.is at c.in_ok-text.ensures in
    no_value c.no_filter.result (λ filter. IsTopicFilter filter × (c.args.word.now ≡ escaped filter)) c.no_filter.ensures.none (λ filter h.
    let same = same_text filter c.in-Some.text h.0.text found.0 (sym h.1 ∙ found.1) in
    c.no_filter.ensures.memory (filter_memory c.as_str.result.now filter c.in-Err.fault (same ∙ sym c.as_str.ensures.value) h.0 c.in-Err.ensures.memory))
