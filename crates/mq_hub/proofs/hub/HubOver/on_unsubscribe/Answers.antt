use Rattle.std.proofs.Common.{◌∙◌, ◌++◌, ◌≤◌, List, refl, sym, subst}
use Rattle.mq_packet.specs.declared.packet.Packet.TheVariants as packets
use Rattle.mq_end.specs.Sizes.{unsuback_size}
use Rattle.mq_end.specs.declared.happening.Happening.TheVariants as happens
use Rattle.mq_route.specs.declared.act.Act.{Act}
use Rattle.mq_route.specs.Arrives.{answers, on_connected_packet}
use Rattle.mq_route.specs.Hub.{HubState}
use Rattle.mq_tables.specs.Tables.{HubTables}
use Rattle.mq_hub.specs.Inside.Refinement.{Refines}
use Rattle.mq_hub.specs.Inside.View.{hub_of}
use Rattle.mq_hub.specs.Inside.Subscriptions.{unsubscribed_acts}
use Rattle.mq_hub.proofs.RequestPackets.{asked_goes}
use Rattle.mq_hub.proofs.SessionRoom.{room_none}
use Rattle.mq_hub.proofs.OtherRoom.{hub_alike, kept_alike}
use Rattle.mq_hub.proofs.GrantedRows.{can_drop, either, err_so, kept_unsubscribed, ok_both, on_seen, unsubscribed_goes}
use Rattle.mq_hub.proofs.hub.HubOver.on_unsubscribe.Goals as goal

pub unsubscribe-requires : goal.unsubscribe-requires
unsubscribe-requires g c =
    let h = c.self.inside in
    let on = on_seen h.config h.clock h.next_key h.tables c.args.self.now c.args.key c.self.view_is c.requires.up in
    can_drop h.config h.next_key h.tables c.self.invariant c.args.key on.conn on.is c.args.id
    (subst (λ (s : HubState). unsuback_size ≤ s.config.limits.most) (sym c.self.view_is) c.requires.within)

pub invariant_of-self : goal.invariant_of-self
invariant_of-self g c =
    let h = c.self.inside in
    let u : HubTables = c.unsubscribe.new.tables in
    let on = on_seen h.config h.clock h.next_key h.tables c.args.self.now c.args.key c.self.view_is c.requires.up in
    either c.unsubscribe.result c.unsubscribe.ensures.ok c.unsubscribe.ensures.err
    (λ a. kept_unsubscribed h.config h.next_key c.args.key h.tables u c.self.invariant on.conn on.is c.args.id c.args.filters a)
    (λ a. kept_alike h.config h.next_key h.tables c.self.invariant u a)

pub returns-clause-goes : goal.returns-clause-goes
returns-clause-goes g c =
    let h = c.self.inside in
    let u : HubTables = c.unsubscribe.new.tables in
    let on = on_seen h.config h.clock h.next_key h.tables c.args.self.now c.args.key c.self.view_is c.requires.up in
    ok_both c.unsubscribe.result c.unsubscribe.ensures.ok c.unsubscribe.ensures.acts
    (λ a says conn. subst (λ (s : HubState). Refines (answers conn c.args.key (happens.Unsubscribe c.args.id c.args.filters)) s c.args.log.now.acts
    (hub_of h.config h.clock h.next_key u) c.unsubscribe.new.log.acts) c.self.view_is
    (subst (λ (did : List Act). Refines (answers conn c.args.key (happens.Unsubscribe c.args.id c.args.filters)) (hub_of h.config h.clock h.next_key h.tables) c.args.log.now.acts
    (hub_of h.config h.clock h.next_key u) did) (sym says)
    (unsubscribed_goes h.config h.next_key c.args.key h.tables u c.self.invariant on.conn on.is c.args.id c.args.filters a h.clock conn c.args.log.now.acts)))

pub returns-clause-takes : goal.returns-clause-takes
returns-clause-takes g c =
    let h = c.self.inside in
    let u : HubTables = c.unsubscribe.new.tables in
    let key = c.args.key in
    let p = packets.Unsubscribe c.args.id c.args.filters in
    let says = c.args.log.now.acts ++ unsubscribed_acts key c.args.filters in
    let on = on_seen h.config h.clock h.next_key h.tables c.args.self.now key c.self.view_is c.requires.up in
    ok_both c.unsubscribe.result c.unsubscribe.ensures.ok c.unsubscribe.ensures.acts
    (λ a said conn fits. subst (λ (s : HubState). Refines (on_connected_packet conn key p fits) s c.args.log.now.acts
    (hub_of h.config h.clock h.next_key u) c.unsubscribe.new.log.acts) c.self.view_is
    (subst (λ (did : List Act). Refines (on_connected_packet conn key p fits) (hub_of h.config h.clock h.next_key h.tables) c.args.log.now.acts
    (hub_of h.config h.clock h.next_key u) did) (sym said)
    (asked_goes h.config h.clock h.next_key key h.tables c.self.invariant on.conn on.is p (happens.Unsubscribe c.args.id c.args.filters) (λ e. refl) conn fits
    (hub_of h.config h.clock h.next_key u) c.args.log.now.acts says (room_none (hub_of h.config h.clock h.next_key h.tables))
    (unsubscribed_goes h.config h.next_key key h.tables u c.self.invariant on.conn on.is c.args.id c.args.filters a h.clock conn c.args.log.now.acts))))

pub returns-clause-err : goal.returns-clause-err
returns-clause-err g c =
    let h = c.self.inside in
    let u : HubTables = c.unsubscribe.new.tables in
    err_so c.unsubscribe.result c.unsubscribe.ensures.err (λ a. hub_alike h.config h.next_key h.tables c.self.invariant h.clock u a ∙ c.self.view_is)
