use Rattle.std.proofs.Common.{◌≡◌, ◌∙◌, ◌++◌, ◌&&◌, [], Bool, List, Ok, true, false, refl, sym, ap, subst}
use Rattle.mq_packet.specs.declared.message.Message.{Message}
use Rattle.mq_route.specs.Hub.{for_key}
use Rattle.mq_route.specs.Work.{all_fit, drops_copies}
use Rattle.mq_tables.specs.declared.rules.CopyRules.{CopyRules}
use Rattle.mq_tables.specs.Publishing.{IsReadyAt}
use Rattle.mq_hub.specs.Inside.Placement.{IsFor, placed_acts}
use Rattle.mq_hub.proofs.MissedCopies.{enough_for, room_closes, rules_keep, settled_all, settled_some}
use Rattle.mq_hub.proofs.PlannedCopies.{if_ok}
use Rattle.mq_hub.proofs.publish.settle.settle_for.Goals as goal

pub returns-then-may_miss-clause-settles : goal.returns-then-may_miss-clause-settles
returns-then-may_miss-clause-settles c =
    if_ok c.settle_first.result c.settle_first.ensures.settles
    (λ o is. settled_some c.args.rules c.args.queued c.args.key c.args.sessions.now.list c.args.messages.items o (sym c.may_miss.ensures ∙ c.if-may_miss.true) is)

pub make_room_for-requires : goal.make_room_for-requires
make_room_for-requires c = subst (λ (ms : List Message). IsFor c.args.key ms c.args.sessions.now.list) (sym c.as_slice.ensures.value) c.requires

pub returns-then-not-branch-clause-enough : goal.returns-then-not-branch-clause-enough
returns-then-not-branch-clause-enough c = λ h has same.
    let key = c.args.key in
    let ms = c.args.messages.items in
    let b = c.in_ok-make_room_for.field-0 in
    let keeps = rules_keep c.args.rules (sym c.may_miss.ensures ∙ c.if-may_miss.false) in
    let closes = ap (λ (r : CopyRules). drops_copies r.when_full) same ∙ keeps.0 in
    let stored = ap (λ (r : CopyRules). r.most_stored) same in
    let room = subst (λ (xs : List Message). all_fit (for_key key xs ++ []) h ≡ (b && all_fit [] h)) c.as_slice.ensures.value
    (c.in_ok-make_room_for.ensures.enough [] h has stored refl) in
    sym (room_closes (for_key key ms) h closes ∙ enough_for key ms h b false room c.if-not-branch.true)

pub returns-clause-enough : goal.returns-clause-enough
returns-clause-enough c = λ h has same.
    let key = c.args.key in
    let ms = c.args.messages.items in
    let b = c.in_ok-make_room_for.field-0 in
    let keeps = rules_keep c.args.rules (sym c.may_miss.ensures ∙ c.if-may_miss.false) in
    let closes = ap (λ (r : CopyRules). drops_copies r.when_full) same ∙ keeps.0 in
    let stored = ap (λ (r : CopyRules). r.most_stored) same in
    let room = subst (λ (xs : List Message). all_fit (for_key key xs ++ []) h ≡ (b && all_fit [] h)) c.as_slice.ensures.value
    (c.in_ok-make_room_for.ensures.enough [] h has stored refl) in
    sym (room_closes (for_key key ms) h closes ∙ enough_for key ms h b true room c.if-not-branch.false)

pub returns-clause-settles : goal.returns-clause-settles
returns-clause-settles c =
    settled_all c.args.rules c.args.queued c.args.key c.args.sessions.now.list c.args.messages.items (record { kept = c.args.messages; acts = c.in_ok-acts.acts })
    (sym c.may_miss.ensures ∙ c.if-may_miss.false) refl (c.in_ok-acts.ensures ∙ ap (λ (ms : List Message). placed_acts (for_key c.args.key ms)) c.as_slice-2.ensures.value)

pub returns-clause-ready : goal.returns-clause-ready
returns-clause-ready c =
    subst (λ (ms : List Message). IsReadyAt c.args.key ms c.args.more c.make_room_for.new.sessions.list) c.as_slice.ensures.value
    (c.in_ok-make_room_for.ensures.ready (ap (λ (b : Bool). Ok b) c.if-not-branch.false))
