use Rattle.std.proofs.Common.{◌≡◌, List, ℕ, [], ◌∷◌, ◌++◌, drop, ap, sym, ◌∙◌, subst, rules, arith}
use Rattle.mq_wire.specs.Bytes.{AreBytes}
use Rattle.mq_route.specs.declared.event.HubEvent.{HubEvent}
use Rattle.mq_record.specs.Encoding.{entry_bytes}
use Rattle.mq_record.specs.Reading.{read_event, AreRecorded}
use Rattle.mq_record.proofs.Events.{okay, event_found, bytes_behind, recorded_push, entry_step}
use Rattle.mq_record.proofs.decode.decode_events.Goals as goal

pub loop-left-preserved : goal.loop-left-preserved
loop-left-preserved c =
    let left : List ℕ = c.loop-left.left.now in
    let event = c.in_ok-event.event in
    let size = c.in_ok-event.size in
    let held : List HubEvent = c.loop-left.events.items in
    let kept = c.loop-left.invariant in
    let read : read_event left ≡ okay (event, size) = search rules in
    let small : AreBytes left = bytes_behind (entry_bytes held) left c.args.bytes.now (λ i. omega (arith, c.type_inv.bytes i)) kept.parts in
    let front = event_found left event size small read in
    let pushed : c.push.new.self.items ≡ held ++ event ∷ [] = search rules in
    let next : c.split_at.result.1.now ≡ drop size left = search rules in
    record {
      recorded = subst (λ (l : List HubEvent). AreRecorded l) (sym pushed) (recorded_push held event kept.recorded front.recorded);
      parts = subst (λ (l : List HubEvent). c.args.bytes.now ≡ entry_bytes l ++ c.split_at.result.1.now) (sym pushed)
          (entry_step held event size left c.args.bytes.now front kept.parts
          ∙ ap (λ (l : List ℕ). entry_bytes (held ++ event ∷ []) ++ l) (sym next));
    }
