use Rattle.std.proofs.Common.{◌≡◌, ◌∙◌, ◌++◌, ◌∷◌, List, length, sym, ap, arith}
use Rattle.std.proofs.lemmas.List.{length-append}
use Rattle.mq_packet.specs.declared.message.Message.{Message}
use Rattle.mq_route.specs.declared.act.Act.{Act}
use Rattle.mq_hub.specs.Inside.Placement.{first_fitting, fitting_acts}
use Rattle.mq_hub.proofs.MissedCopies.{first_acts_next, first_next}
use Rattle.mq_hub.proofs.publish.settle.settle_messages.Goals as goal

pub loop-message-preserved : goal.loop-message-preserved
loop-message-preserved c =
    let at = c.loop-message in
    let rest = c.next.new.self.rest.items in
    let m = c.in-Some.message in
    let steps : at.message-iterator.rest.items ≡ m ∷ rest = c.in-Some.ensures.steps.0 in
    let now = at.settled in
    let next = c.settle_message.new.settled in
    let one = c.in_ok-left.ensures in
    record {
      kept = first_next c.args.rules at.left c.in_ok-left.left m rest (first_fitting c.args.rules c.args.space c.args.messages.items) now.kept.items next.kept.items
          (ap (λ (xs : List Message). now.kept.items ++ first_fitting c.args.rules at.left xs) (sym steps) ∙ at.invariant.kept) one.kept one.rest;
      acts = first_acts_next c.args.rules c.args.key at.left c.in_ok-left.left m rest (fitting_acts c.args.rules c.args.key c.args.space c.args.messages.items) now.acts.items next.acts.items
          (ap (λ (xs : List Message). now.acts.items ++ fitting_acts c.args.rules c.args.key at.left xs) (sym steps) ∙ at.invariant.acts) one.acts one.rest;
      count =
          let l = ap (λ (xs : List Message). length xs) steps in
          let a = ap (λ (xs : List Act). length xs) one.acts ∙ length-append now.acts.items _ in
          omega (arith, l, a, at.invariant.count);
    }
