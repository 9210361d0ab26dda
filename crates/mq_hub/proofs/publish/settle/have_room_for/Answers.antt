use Rattle.std.proofs.Common.{◌≡◌, ◌∙◌, Option, IfSome, sym, ap, subst}
use Rattle.std.specs.List.{AllByRecursion}
use Rattle.mq_route.specs.Hub.{for_key}
use Rattle.mq_route.specs.Work.{drops_copies}
use Rattle.mq_tables.specs.declared.rules.CopyRules.{CopyRules}
use Rattle.mq_tables.specs.declared.sessions.session.BrokerSession.{BrokerSession}
use Rattle.mq_tables.specs.Publishing.{MayGo}
use Rattle.mq_tables.specs.Rules.{has_room}
use Rattle.mq_hub.proofs.MissedCopies.{room_drops, room_own}
use Rattle.mq_hub.proofs.SessionRoom.{fits_is}
use Rattle.mq_hub.proofs.publish.settle.have_room_for.Goals as goal

pub returns-then-drops_copies : goal.returns-then-drops_copies
returns-then-drops_copies c = λ h has same.
    sym (room_drops (for_key c.args.key c.args.messages.now) h (ap (λ (r : CopyRules). drops_copies r.when_full) same ∙ sym c.drops_copies.ensures ∙ c.if-drops_copies.true))

pub returns : goal.returns
returns c = λ h has same.
    let for = c.requires in
    let ms = c.args.messages.now in
    let list = c.args.sessions.now.list in
    let most = c.args.rules.most_stored in
    let room = subst (λ (o : Option BrokerSession). IfSome o (λ t. AllByRecursion (λ m. MayGo m t.end) ms → c.has_room.result ≡ has_room most ms t.end)) for.there c.has_room.ensures.room in
    let closes = ap (λ (r : CopyRules). drops_copies r.when_full) same ∙ sym c.drops_copies.ensures ∙ c.if-drops_copies.false in
    let fits = fits_is c.args.key most ms h for.session list for.there has (ap (λ (r : CopyRules). r.most_stored) same) ∙ sym (room for.may_go) in
    room_own c.args.key ms h for.session list c.has_room.ensures.ascending for.there has closes c.has_room.result fits
