use Rattle.std.proofs.Common.{◌≡◌, List, ℕ, ◌++◌, sym, ap, subst, ◌∙◌}
use Rattle.mq_bytes.specs.Buffers.{Filled}
use Rattle.mq_embedded.specs.Calls.{event_bytes}
use Rattle.mq_embedded.proofs.Fronts.{two_put}
use Rattle.mq_embedded.proofs.event.write_event.Goals as goal

pub returns-in-Handed : goal.returns-in-Handed
returns-in-Handed c =
    let topic : List ℕ = c.as_bytes.result.now in
    let payload : List ℕ = c.as_slice.result.now in
    let message = c.in-Handed.message in
    let first : topic ≡ message.topic = c.as_bytes.ensures.value ∙ c.as_str.ensures.value in
    let second : payload ≡ message.payload = c.as_slice.ensures.value in
    let bytes : topic ++ payload ≡ event_bytes c.args.happening.now =
    ap (λ (t : List ℕ). t ++ payload) first ∙ ap (λ (p : List ℕ). message.topic ++ p) second ∙ sym (ap event_bytes c.in-Handed.is) in
    subst (λ (b : List ℕ). Filled c.args.out.now b c.put.new.out) bytes (two_put topic payload c.args.out.now c.put-at.new.out c.put.new.out c.put-at.result c.put-at.ensures.end c.put-at.ensures.written c.put.ensures.written)
