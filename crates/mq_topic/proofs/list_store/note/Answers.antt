use Rattle.std.proofs.Common.{◌≡◌, ℕ, suc, ◌-◌, length, sym, ap, ◌∙◌, eqb-true, arith}
use Rattle.mq_topic.specs.declared.qos.Qos.{Qos}
use Rattle.mq_topic.proofs.Noting.{entry_once, note_first, note_new, note_same}
use Rattle.mq_topic.proofs.Placing.{T-true}
use Rattle.mq_topic.proofs.list_store.note.Goals.{else-count-gt0-via-then-count-gt0+else-eq, else-count-gt0-via-else-count-gt0}
use Rattle.mq_topic.proofs.list_store.note.Goals as goal

pub returns-then-eq : goal.returns-then-eq
returns-then-eq c =
    let found = c.args.found.now in
    let n = c.len-count.result - 1 in
    let long : length found.items ≡ suc n = omega (arith, found.ok.0) in
    let last = c.index_mut-last.result.now in
    let once : last ≡ c.index.result.now = entry_once found.items n last c.index.result.now (omega arith) c.index_mut-last.ensures.value c.index.ensures in
    let same = ap (λ (e : ℕ × Qos). e.0) once ∙ eqb-true c.index.result.now.0 c.args.client (sym c.eq.ensures ∙ c.if-eq.true) in
    rw c.greater-last.ensures (note_same c.args.client c.args.qos found.items n last (T-true _ c.requires.sorted) long c.index_mut-last.ensures.value same)

pub returns-in_ok-push : goal.returns-in_ok-push
returns-in_ok-push c =
    let found = c.args.found.now in
    let n = c.len-count.result - 1 in
    c.in_ok-push.ensures.items ∙ elim c.else-count-gt0.branch [
      | else-count-gt0-via-then-count-gt0+else-eq w ↦
          let long : length found.items ≡ suc n = omega (arith, found.ok.0, w.if-count-gt0.true) in
          note_new c.args.client c.args.qos found.items n w.index.result.now (T-true _ c.requires.sorted) c.requires.up_to long w.index.ensures (sym w.eq.ensures ∙ w.if-eq.false)
      | else-count-gt0-via-else-count-gt0 w ↦ note_first c.args.client c.args.qos found.items (omega (arith, found.ok.0, w.if-count-gt0.false))
    ]
