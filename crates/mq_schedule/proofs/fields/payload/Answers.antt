use Rattle.std.proofs.Common.{sym, ◌∙◌}
use Rattle.mq_schedule.proofs.Codes.{none_left, some_left}
use Rattle.mq_schedule.proofs.Values.{no_dash, payload_found, some_word}
use Rattle.mq_schedule.proofs.fields.payload.Goals as goal

pub returns-then-is_empty : goal.returns-then-is_empty
returns-then-is_empty c = λ bytes h. some_word bytes h.0 (sym h.2 ∙ none_left c.args.word.now c.if-is_empty.ensures)

pub returns-in_default : goal.returns-in_default
returns-in_default c = λ bytes h.
    let none = rw c.in_default.is at c.in_ok-bytes.ensures in
    none bytes (h.0, c.as_bytes.ensures.value ∙ no_dash c.args.word.now bytes c.if-eq.ensures h.2)

pub returns : goal.returns
returns c =
    let found = rw c.in-Some.is at c.in_ok-bytes.ensures in
    let items = c.in_ok-from_vec.ensures.ok in
    payload_found c.new-2.result c.args.word.now c.in-Some.bytes.items c.if-eq.ensures (some_left c.args.word.now c.if-is_empty.ensures) found.0 (sym c.as_bytes.ensures.value ∙ found.1) (rw items at c.new-2.ensures.fits)
    (rw items at c.new-2.ensures.value)
