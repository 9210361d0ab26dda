use Rattle.std.proofs.Common.{◌∙◌, ◌++◌, ℕ, List, sym, ap}
use Rattle.mq_packet.specs.declared.message.Message.{Message}
use Rattle.mq_route.specs.Work.{all_fit, drops_copies}
use Rattle.mq_tables.specs.declared.rules.CopyRules.{CopyRules}
use Rattle.mq_hub.specs.Inside.Placement.{placed_acts}
use Rattle.mq_hub.specs.Inside.QueuedAnswer.{answer_for}
use Rattle.mq_hub.proofs.MissedCopies.{room_closes, rules_keep, settles_all}
use Rattle.mq_hub.proofs.PlannedCopies.{if_ok}
use Rattle.mq_hub.proofs.publish.delivery.DeliveryPlan.make_room.Goals as goal

pub returns-then-not-may_miss-clause-enough : goal.returns-then-not-may_miss-clause-enough
returns-then-not-may_miss-clause-enough c =
    let keeps = rules_keep c.args.rules (sym c.may_miss.ensures ∙ c.if-not-may_miss.true) in
    if_ok c.make_room.result c.make_room.ensures.enough
    (λ enough says h has same. says h has (ap (λ (r : CopyRules). r.most_stored) same)
    ∙ ap (λ (cs : List (ℕ × Message)). all_fit cs h) c.as_slice-then-not-may_miss.ensures.value
    ∙ sym (room_closes c.args.self.now.copies.items h (ap (λ (r : CopyRules). drops_copies r.when_full) same ∙ keeps.0)))

pub returns-then-not-may_miss-clause-settles : goal.returns-then-not-may_miss-clause-settles
returns-then-not-may_miss-clause-settles c = λ done h has same.
    let keeps = rules_keep c.args.rules (sym c.may_miss.ensures ∙ c.if-not-may_miss.true) in
    settles_all h.config (answer_for c.args.answer) c.args.sessions.now.list c.args.self.now.copies.items c.push_placed.new.acts.items
    (ap (λ (r : CopyRules). drops_copies r.when_full) same ∙ keeps.0) (ap (λ (r : CopyRules). r.most_waiting) same ∙ keeps.1)
    (c.in_ok-push_placed.ensures ∙ λ i. c.requires.acts i ++ placed_acts (c.as_slice.ensures.value i))
