use Rattle.std.proofs.Common.{◌≡◌, ◌∙◌, ◌++◌, ◌≤◌, List, refl, sym, subst}
use Rattle.mq_packet.specs.declared.packet.Packet.TheVariants as packets
use Rattle.mq_end.specs.Sizes.{subscribe_size}
use Rattle.mq_end.specs.declared.happening.Happening.TheVariants as happens
use Rattle.mq_route.specs.declared.act.Act.{Act}
use Rattle.mq_route.specs.declared.close.HubClose.TheVariants.{TargetFull}
use Rattle.mq_route.specs.Arrives.{answers, on_passed_packet}
use Rattle.mq_route.specs.Hub.{HubState}
use Rattle.mq_route.specs.Work.{close, have_room, retained_copies}
use Rattle.mq_tables.specs.Rules.{rules_of}
use Rattle.mq_tables.specs.Tables.{HubTables}
use Rattle.mq_hub.specs.Inside.Refinement.{Refines}
use Rattle.mq_hub.specs.Inside.Placement.{HasSessions}
use Rattle.mq_hub.specs.Inside.View.{hub_of}
use Rattle.mq_hub.specs.Inside.Subscriptions.{subscribed_acts}
use Rattle.mq_hub.proofs.RequestPackets.{asked_goes, unasked_goes}
use Rattle.mq_hub.proofs.OtherRoom.{hub_alike, kept_alike}
use Rattle.mq_hub.proofs.GrantedRows.{on_seen}
use Rattle.mq_hub.proofs.SubscribePackets.{can_grant, due_retained, err_bool, has_sessions, if_ok, kept_subscribed, ok_at, subscribed_goes, three}
use Rattle.mq_hub.proofs.hub.HubOver.on_subscribe.Goals as goal

pub subscribe-requires-clause-can : goal.subscribe-requires-clause-can
subscribe-requires-clause-can g c =
    let h = c.self.inside in
    let on = on_seen h.config h.clock h.next_key h.tables c.args.self.now c.args.key c.self.view_is c.requires.up in
    can_grant h.config h.next_key h.tables c.self.invariant c.args.key on.conn on.is c.args.id c.args.requests
    (subst (λ (s : HubState). subscribe_size c.args.requests ≤ s.config.limits.most) (sym c.self.view_is) c.requires.within)

pub subscribe-requires-clause-due : goal.subscribe-requires-clause-due
subscribe-requires-clause-due g c =
    let h = c.self.inside in
    let on = on_seen h.config h.clock h.next_key h.tables c.args.self.now c.args.key c.self.view_is c.requires.up in
    due_retained h.config h.next_key h.tables c.self.invariant c.args.key on.conn on.is c.args.requests

pub invariant_of-self : goal.invariant_of-self
invariant_of-self g c =
    let h = c.self.inside in
    let u : HubTables = c.subscribe.new.tables in
    let on = on_seen h.config h.clock h.next_key h.tables c.args.self.now c.args.key c.self.view_is c.requires.up in
    three c.subscribe.result c.subscribe.ensures.done c.subscribe.ensures.full c.subscribe.ensures.err
    (λ d. kept_subscribed h.config h.next_key c.args.key h.tables u c.self.invariant on.conn on.is c.args.id c.args.requests c.rules_of-rules.result d.0 d.1)
    (λ a. kept_alike h.config h.next_key h.tables c.self.invariant u a)

pub returns-clause-enough : goal.returns-clause-enough
returns-clause-enough g c =
    let h = c.self.inside in
    if_ok c.subscribe.result
    (λ enough says. subst (λ (s : HubState). have_room (retained_copies c.args.key c.args.requests s.retained) s ≡ enough) c.self.view_is
    (says (hub_of h.config h.clock h.next_key h.tables) (has_sessions h.config h.clock h.next_key h.tables c.self.invariant) (sym c.rules_of-rules.ensures)))
    c.subscribe.ensures.enough

pub returns-clause-goes : goal.returns-clause-goes
returns-clause-goes g c = λ done conn.
    let h = c.self.inside in
    let d = c.subscribe.ensures.done done in
    let u : HubTables = c.subscribe.new.tables in
    let on = on_seen h.config h.clock h.next_key h.tables c.args.self.now c.args.key c.self.view_is c.requires.up in
    subst (λ (s : HubState). Refines (answers conn c.args.key (happens.Subscribe c.args.id c.args.requests)) s c.args.log.now.acts
    (hub_of h.config h.clock h.next_key u) c.subscribe.new.log.acts) c.self.view_is
    (subst (λ (did : List Act). Refines (answers conn c.args.key (happens.Subscribe c.args.id c.args.requests)) (hub_of h.config h.clock h.next_key h.tables) c.args.log.now.acts
    (hub_of h.config h.clock h.next_key u) did) (sym d.2)
    (subscribed_goes h.config h.next_key c.args.key h.tables u c.self.invariant on.conn on.is c.args.id c.args.requests c.rules_of-rules.result d.0 d.1 h.clock c.args.log.now.acts (sym c.rules_of-rules.ensures) conn))

pub returns-clause-takes : goal.returns-clause-takes
returns-clause-takes g c = λ done conn fits.
    let h = c.self.inside in
    let u : HubTables = c.subscribe.new.tables in
    let key = c.args.key in
    let p = packets.Subscribe c.args.id c.args.requests in
    let old = hub_of h.config h.clock h.next_key h.tables in
    let on = on_seen h.config h.clock h.next_key h.tables c.args.self.now key c.self.view_is c.requires.up in
    let d = c.subscribe.ensures.done done in
    let says = (c.args.log.now.acts ++ subscribed_acts key c.args.requests) ++ d.0 in
    let enough = ok_at (λ enough. (b : HubState) → HasSessions h.tables.sessions.list b → rules_of b.config ≡ c.rules_of-rules.result → have_room (retained_copies key c.args.requests h.tables.retained.messages) b ≡ enough) c.subscribe.result done c.subscribe.ensures.enough old (has_sessions h.config h.clock h.next_key h.tables c.self.invariant) (sym c.rules_of-rules.ensures) in
    subst (λ (s : HubState). Refines (on_passed_packet conn key p fits) s c.args.log.now.acts (hub_of h.config h.clock h.next_key u) c.subscribe.new.log.acts) c.self.view_is
    (subst (λ (did : List Act). Refines (on_passed_packet conn key p fits) old c.args.log.now.acts (hub_of h.config h.clock h.next_key u) did) (sym d.2)
    (asked_goes h.config h.clock h.next_key key h.tables c.self.invariant on.conn on.is p (happens.Subscribe c.args.id c.args.requests) (λ e. refl) conn fits
    (hub_of h.config h.clock h.next_key u) c.args.log.now.acts says enough
    (subscribed_goes h.config h.next_key key h.tables u c.self.invariant on.conn on.is c.args.id c.args.requests c.rules_of-rules.result d.0 d.1 h.clock c.args.log.now.acts (sym c.rules_of-rules.ensures) conn)))

pub returns-clause-closed : goal.returns-clause-closed
returns-clause-closed g c = λ full conn fits new says goes.
    let h = c.self.inside in
    let key = c.args.key in
    let p = packets.Subscribe c.args.id c.args.requests in
    let old = hub_of h.config h.clock h.next_key h.tables in
    let on = on_seen h.config h.clock h.next_key h.tables c.args.self.now key c.self.view_is c.requires.up in
    let enough = ok_at (λ enough. (b : HubState) → HasSessions h.tables.sessions.list b → rules_of b.config ≡ c.rules_of-rules.result → have_room (retained_copies key c.args.requests h.tables.retained.messages) b ≡ enough)
    c.subscribe.result full c.subscribe.ensures.enough old (has_sessions h.config h.clock h.next_key h.tables c.self.invariant) (sym c.rules_of-rules.ensures) in
    subst (λ (s : HubState). Refines (on_passed_packet conn key p fits) s c.args.log.now.acts new says) c.self.view_is
    (unasked_goes h.config h.clock h.next_key key h.tables c.self.invariant on.conn on.is p (happens.Subscribe c.args.id c.args.requests) (λ e. refl) conn fits
    new c.args.log.now.acts says enough
    (subst (λ (s : HubState). Refines (close conn TargetFull fits) s c.args.log.now.acts new says) (sym c.self.view_is) goes))

pub returns-clause-full : goal.returns-clause-full
returns-clause-full g c = λ full.
    let h = c.self.inside in
    let u : HubTables = c.subscribe.new.tables in
    hub_alike h.config h.next_key h.tables c.self.invariant h.clock u (c.subscribe.ensures.full full) ∙ c.self.view_is

pub returns-clause-err : goal.returns-clause-err
returns-clause-err g c =
    let h = c.self.inside in
    let u : HubTables = c.subscribe.new.tables in
    err_bool c.subscribe.result c.subscribe.ensures.err (λ a. hub_alike h.config h.next_key h.tables c.self.invariant h.clock u a ∙ c.self.view_is)
