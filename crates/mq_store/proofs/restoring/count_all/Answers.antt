use Rattle.std.proofs.Common.{◌≡◌, ℕ, ◌<◌, List, length, ap, ◌∙◌, arith}
use Rattle.mq_durable.specs.Recorded.{events_in}
use Rattle.mq_durable.proofs.Recoveries.{Entry}
use Rattle.mq_store.proofs.Restores.{count_more, count_none}
use Rattle.mq_store.proofs.restoring.count_all.Goals as goal

pub loop-entry-init : goal.loop-entry-init
loop-entry-init c = count_none

pub loop-entry-preserved : goal.loop-entry-preserved
loop-entry-preserved c =
    let all : List Entry = c.args.entries.now in
    let i : ℕ = c.loop-entry.entry-index in
    let entry : Entry = c.entry-item.result in
    let within : i < length all = omega (arith, c.loop-entry-test.true) in
    let here : c.in_ok-more.more ≡ length (events_in entry.items) =
    c.in_ok-more.ensures ∙ ap (λ (l : List ℕ). length (events_in l)) c.as_slice.ensures.value in
    let more = count_more c.loop-entry.count c.in_ok-more.more all i entry within c.entry-item.is c.loop-entry.invariant here in
    omega (arith, more, c.in-Some.ensures)
