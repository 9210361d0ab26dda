use Rattle.std.proofs.Common.{◌≡◌, ◌∙◌, Bool, List, Option, IfSome, Ok, true, sym, ap, subst}
use Rattle.mq_packet.specs.declared.message.Message.{Message}
use Rattle.mq_route.specs.Hub.{for_key}
use Rattle.mq_route.specs.Work.{have_room}
use Rattle.mq_tables.specs.declared.sessions.session.BrokerSession.{BrokerSession}
use Rattle.mq_tables.specs.Publishing.{IsReadyAt, MayGo}
use Rattle.mq_tables.specs.Rules.{space_of}
use Rattle.mq_hub.specs.Inside.Placement.{IsFor, first_fitting, fitting_acts}
use Rattle.mq_hub.proofs.MissedCopies.{acts_known, all_first, first_known}
use Rattle.mq_hub.proofs.publish.settle.settle_first.Goals as goal

pub have_room_for-requires : goal.have_room_for-requires
have_room_for-requires c = subst (λ (ms : List Message). IsFor c.args.key ms c.args.sessions.now.list) (sym c.as_slice.ensures.value) c.requires

pub make_room_for-requires : goal.make_room_for-requires
make_room_for-requires c =
    let for = c.requires in
    let kept = c.as_slice-2.ensures.value ∙ c.in_ok-settled.ensures.kept in
    subst (λ (ms : List Message). IsFor c.args.key ms c.args.sessions.now.list) (sym kept) (record {
      session = for.session;
      there = for.there;
      may_go = all_first (λ m. MayGo m for.session.end) c.args.rules c.space-space.result c.args.messages.items for.may_go;
    })

pub returns-then-not-have_room_for-clause-enough : goal.returns-then-not-have_room_for-clause-enough
returns-then-not-have_room_for-clause-enough c = λ h has same.
    sym c.if-not-have_room_for.true ∙ c.have_room_for.ensures h has same ∙ ap (λ (ms : List Message). have_room (for_key c.args.key ms) h) c.as_slice.ensures.value

pub returns-then-branch-clause-enough : goal.returns-then-branch-clause-enough
returns-then-branch-clause-enough c = λ h has same.
    sym c.if-not-have_room_for.false ∙ c.have_room_for.ensures h has same ∙ ap (λ (ms : List Message). have_room (for_key c.args.key ms) h) c.as_slice.ensures.value

pub returns-then-branch-clause-settles : goal.returns-then-branch-clause-settles
returns-then-branch-clause-settles c =
    let for = c.requires in
    let rules = c.args.rules in
    let ms = c.args.messages.items in
    let own = space_of rules c.args.queued for.session.end in
    let known = subst (λ (o : Option BrokerSession). IfSome o (λ t. t.end.end.known ≡ true → c.space-space.result ≡ space_of rules c.args.queued t.end)) for.there c.space-space.ensures in
    subst (λ (o : Option BrokerSession). IfSome o (λ t. (c.in_ok-settled.settled.kept.items ≡ first_fitting rules (space_of rules c.args.queued t.end) ms)
    × (c.in_ok-settled.settled.acts.items ≡ fitting_acts rules c.args.key (space_of rules c.args.queued t.end) ms))) (sym for.there) (
      c.in_ok-settled.ensures.kept ∙ first_known rules c.space-space.result own ms for.session.end for.may_go known,
      c.in_ok-settled.ensures.acts ∙ acts_known rules c.args.key c.space-space.result own ms for.session.end for.may_go known,
    )

pub returns-then-branch-clause-ready : goal.returns-then-branch-clause-ready
returns-then-branch-clause-ready c =
    subst (λ (ms : List Message). IsReadyAt c.args.key ms c.args.more c.make_room_for.new.sessions.list) c.as_slice-2.ensures.value
    (c.in_ok-make_room_for.ensures.ready (ap (λ (b : Bool). Ok b) c.if-branch.true))
