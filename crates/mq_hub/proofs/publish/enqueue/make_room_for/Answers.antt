use Rattle.std.proofs.Common.{◌≡◌, ◌∙◌, Option, IfSome, true, false, not, List, sym, ap, subst}
use Rattle.std.specs.List.{AllByRecursion}
use Rattle.mq_packet.specs.declared.message.Message.{Message}
use Rattle.mq_tables.specs.declared.sessions.session.BrokerSession.{BrokerSession}
use Rattle.mq_tables.specs.Publishing.{MayGo}
use Rattle.mq_tables.specs.Rules.{has_room}
use Rattle.mq_tables.proofs.SessionRoom.{fits_own, ready_now, ready_same, ready_still}
use Rattle.mq_hub.proofs.SessionRoom.{enough_own, few_own, fits_is}
use Rattle.mq_hub.proofs.MissedCopies.{lacks_own}
use Rattle.mq_hub.proofs.publish.enqueue.make_room_for.Goals as goal

pub returns-then-not-has_room-clause-enough : goal.returns-then-not-has_room-clause-enough
returns-then-not-has_room-clause-enough c = λ cs h has stored none.
    let for = c.requires in
    let ms = c.args.messages.now in
    let list = c.args.sessions.now.list in
    let room = subst (λ (o : Option BrokerSession). IfSome o (λ t. AllByRecursion (λ m. MayGo m t.end) ms → c.has_room.result ≡ has_room c.args.most_stored ms t.end)) for.there c.has_room.ensures.room in
    let short = fits_is c.args.key c.args.most_stored ms h for.session list for.there has stored ∙ sym (room for.may_go) ∙ c.if-not-has_room.true in
    few_own c.args.key ms cs h for.session list for.there has none short

pub returns-then-not-has_room-clause-one : goal.returns-then-not-has_room-clause-one
returns-then-not-has_room-clause-one c = λ m h has stored is.
    let for = c.requires in
    let ms = c.args.messages.now in
    let list = c.args.sessions.now.list in
    let room = subst (λ (o : Option BrokerSession). IfSome o (λ t. AllByRecursion (λ m. MayGo m t.end) ms → c.has_room.result ≡ has_room c.args.most_stored ms t.end)) for.there c.has_room.ensures.room in
    let short = fits_is c.args.key c.args.most_stored ms h for.session list for.there has stored ∙ sym (room for.may_go) ∙ c.if-not-has_room.true in
    lacks_own c.args.key m for.session list h has for.there ∙ ap not (subst (λ (xs : List Message). fits_own h.config xs for.session ≡ false) is short)

pub returns-in-Ok-clause-enough : goal.returns-in-Ok-clause-enough
returns-in-Ok-clause-enough c = λ cs h has stored none.
    let for = c.requires in
    let ms = c.args.messages.now in
    let list = c.args.sessions.now.list in
    let room = subst (λ (o : Option BrokerSession). IfSome o (λ t. AllByRecursion (λ m. MayGo m t.end) ms → c.has_room.result ≡ has_room c.args.most_stored ms t.end)) for.there c.has_room.ensures.room in
    let fits = fits_is c.args.key c.args.most_stored ms h for.session list for.there has stored ∙ sym (room for.may_go) ∙ c.if-not-has_room.false in
    enough_own c.args.key ms cs h for.session list c.has_room.ensures.ascending for.there has none fits

pub returns-in-Ok-clause-one : goal.returns-in-Ok-clause-one
returns-in-Ok-clause-one c = λ m h has stored is.
    let for = c.requires in
    let ms = c.args.messages.now in
    let list = c.args.sessions.now.list in
    let room = subst (λ (o : Option BrokerSession). IfSome o (λ t. AllByRecursion (λ m. MayGo m t.end) ms → c.has_room.result ≡ has_room c.args.most_stored ms t.end)) for.there c.has_room.ensures.room in
    let fits = fits_is c.args.key c.args.most_stored ms h for.session list for.there has stored ∙ sym (room for.may_go) ∙ c.if-not-has_room.false in
    lacks_own c.args.key m for.session list h has for.there ∙ ap not (subst (λ (xs : List Message). fits_own h.config xs for.session ≡ true) is fits)

pub returns-in-Ok-clause-ready : goal.returns-in-Ok-clause-ready
returns-in-Ok-clause-ready c = λ same.
    ready_now c.args.key c.args.messages.now c.args.more c.ready.result c.args.sessions.now.list c.ready.new.self.list c.ready.ensures.ascending c.ready.ensures.readies c.in-Ok.is

pub returns-in-Ok-clause-same : goal.returns-in-Ok-clause-same
returns-in-Ok-clause-same c =
    ready_same c.args.key c.args.messages.now c.args.more c.ready.result c.args.sessions.now.list c.ready.new.self.list c.ready.ensures.ascending c.ready.ensures.readies

pub returns-in-Ok-clause-still : goal.returns-in-Ok-clause-still
returns-in-Ok-clause-still c =
    ready_still c.args.key c.args.messages.now c.args.more c.ready.result c.args.sessions.now.list c.ready.new.self.list c.ready.ensures.ascending c.ready.ensures.readies

pub returns-in-Err-clause-same : goal.returns-in-Err-clause-same
returns-in-Err-clause-same c =
    ready_same c.args.key c.args.messages.now c.args.more c.ready.result c.args.sessions.now.list c.ready.new.self.list c.ready.ensures.ascending c.ready.ensures.readies

pub returns-in-Err-clause-still : goal.returns-in-Err-clause-still
returns-in-Err-clause-still c =
    ready_still c.args.key c.args.messages.now c.args.more c.ready.result c.args.sessions.now.list c.ready.new.self.list c.ready.ensures.ascending c.ready.ensures.readies
