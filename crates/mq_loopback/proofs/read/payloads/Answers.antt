use Rattle.std.proofs.Common.{◌++◌, List, ℕ, map, sym, ap, ◌∙◌}
use Rattle.mq_schedule.specs.Schedule.{bytes_word}
use Rattle.mq_loopback.proofs.Lines.{payload_in}
use Rattle.mq_loopback.proofs.read.payloads.Goals as goal

pub returns-in_default-2 : goal.returns-in_default-2
returns-in_default-2 c = λ payloads h.
    let at = c.loop-word in
    let none = rw c.in_default-2.is at c.in_ok-payload.ensures in
    let passed = at.invariant.passed ∙ ap (λ (ws : List (List ℕ)). map bytes_word at.payloads.items ++ ws) c.in-Some.ensures.some in
    let found = payload_in at.payloads.items payloads c.in-Some.word.now c.next.new.self h.are (sym passed ∙ h.words_are) in
    none found.0 (found.1.are, found.1.few, found.2)
